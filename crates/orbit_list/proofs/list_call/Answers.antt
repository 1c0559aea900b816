-- `list_call` meets what it calls: a job that passes has points, a plane and rows as the orbits ask, and no more
-- orbits are found than the bound.
use Rattle.std.proofs.Common.{arith}
use Rattle.orbits.specs.Answers.{rows_fit_as}
use Rattle.orbit_list.proofs.Laws.{exact, own_fields, counts, call_fits, orbits_few}
use Rattle.orbit_list.proofs.list_call.Goals as goal

pub invariant_of-job : goal.invariant_of-job
invariant_of-job g c = record {
  exact = exact c.args.job.now c.args.fields c.requires.0;
  read = own_fields c.args.job.now c.args.fields c.requires.0;
}

pub load_rows-requires : goal.load_rows-requires
load_rows-requires g c = omega (arith, (counts c.args.job.now c.args.fields c.requires.0).count_most)

pub invariant_of-rows : goal.invariant_of-rows
invariant_of-rows g c =
    record {
      room = omega (arith, (counts c.args.job.now c.args.fields c.requires.0).count_most, c.load_rows.ensures.rows.1);
    }

pub invariant_of-pairs : goal.invariant_of-pairs
invariant_of-pairs g c =
    let p = c.points-points in
    let f = c.flatten_all-flat in
    let l = c.load_rows in
    let k = counts c.args.job.now c.args.fields c.requires.0 in
    let fits = call_fits c.args.job.now c.args.fields c.requires.0 p.result f.result p.ensures.1 f.ensures.1 _
    (omega (arith, k.count_most, l.ensures.rows.1)) l.ensures.rows.0 in
    record { fit = rows_fit_as fits.permute f.ensures.1 }

pub invariant_of-search : goal.invariant_of-search
invariant_of-search g c =
    let p = c.points-points in
    let f = c.flatten_all-flat in
    let l = c.load_rows in
    let k = counts c.args.job.now c.args.fields c.requires.0 in
    record {
      fits = call_fits c.args.job.now c.args.fields c.requires.0 p.result f.result p.ensures.1 f.ensures.1 _
          (omega (arith, k.count_most, l.ensures.rows.1)) l.ensures.rows.0;
    }

pub list_found-requires : goal.list_found-requires
list_found-requires g c =
    let few = orbits_few c.flatten_all-flat.result.n c.in-Ok.count 256 _ _ c.in-Ok.ensures in
    (omega arith, omega (arith, few))
