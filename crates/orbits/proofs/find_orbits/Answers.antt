-- `find_orbits` meets its contract.
use mathlib.Core.Path.{◌∙◌}
use native.Mathlib.Omega.{arith}
use Rattle.space.specs.Meaning.{points_of, limits_of}
use Rattle.space.specs.Counts.{points_length}
use Rattle.rows.specs.Rows.{rows_in}
use Rattle.orbits.specs.Answers.{rows_permute}
use Rattle.orbits.proofs.Answering.{none_ascend, openers_rise_as, openers_same, answers}
use Rattle.refusals.specs.Refused.{handed_on}
use Rattle.orbits.proofs.find_orbits.Goals as goal

pub walk_pairs-requires : goal.walk_pairs-requires
walk_pairs-requires c = let o = c.pair_openers-pairs in (
  openers_rise_as _ _ _ _ _ _ o.ensures (omega (arith, c.args.search.fits.same_n)),
  record {
    long = c.requires.1;
    bound_fits = c.requires.0;
    count_fits = omega arith;
    known_fits = omega arith;
    ascends = none_ascend c.args.ws.now;
  },
)

pub returns-in_err-done : goal.returns-in_err-done
returns-in_err-done c =
    let a = c.args in let o = c.pair_openers-pairs in
    let e = openers_same a.search.pairs.tolerance (limits_of a.search.pairs.limits)
    (points_of a.search.pairs.points.now) a.search.pairs.rows.count a.search.pairs.rows.bytes.now o.result.items
    a.search.pairs.points.now.n a.search.flat.now.n c.args.search.fits.same_n o.ensures in
    let most = c.most_vertices in
    rw (handed_on _ _ c.from_residual.ensures.1) (answers a.search.pairs.tolerance
    (limits_of a.search.pairs.limits) a.rule a.more (points_of a.search.pairs.points.now)
    (points_of a.search.flat.now)
    (rows_in a.search.flat.now.n a.search.pairs.rows.count a.search.pairs.rows.bytes.now) a.bound o.result.items
    a.ws.now _ _ a.search.flat.now.n most.result
    (points_length a.search.flat.now) most.ensures (points_length a.search.pairs.points.now
    ∙ c.args.search.fits.same_n) (rows_permute c.args.search.fits.permute) e c.in_err-done.ensures)

pub returns : goal.returns
returns c =
    let a = c.args in let o = c.pair_openers-pairs in
    let e = openers_same a.search.pairs.tolerance (limits_of a.search.pairs.limits)
    (points_of a.search.pairs.points.now) a.search.pairs.rows.count a.search.pairs.rows.bytes.now o.result.items
    a.search.pairs.points.now.n a.search.flat.now.n c.args.search.fits.same_n o.ensures in
    let most = c.most_vertices in
    answers a.search.pairs.tolerance (limits_of a.search.pairs.limits) a.rule a.more
    (points_of a.search.pairs.points.now) (points_of a.search.flat.now)
    (rows_in a.search.flat.now.n a.search.pairs.rows.count a.search.pairs.rows.bytes.now) a.bound o.result.items
    a.ws.now _ _ a.search.flat.now.n most.result (points_length a.search.flat.now) most.ensures
    (points_length a.search.pairs.points.now ∙ c.args.search.fits.same_n)
    (rows_permute c.args.search.fits.permute) e c.in_ok-done.ensures
