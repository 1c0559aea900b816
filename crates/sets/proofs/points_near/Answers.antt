-- `sets::points_near` meets its contract: a point near the plane adds its power (`near_joins`) and another adds
-- nothing (`near_stays`). At the end no point is left (`near_end`).
use mathlib.Core.Path.{◌≡◌, sym, ap, subst, ◌∙◌}
use Prim.Native.Nat.{ℕ, ◌+◌, ◌*◌, ◌<◌}
use native.Mathlib.Omega.{arith}
use lib.Ieee.{Float, lt}
use lib.ListN.{length, drop}
use Rattle.definitions.specs.Vectors.{Vec}
use Rattle.definitions.specs.Subspace.{distance}
use Rattle.definitions.specs.Orbits.{point_at}
use Rattle.vectors.specs.Meaning.{vector_of}
use Rattle.space.specs.Meaning.{points_of, subspace_of}
use Rattle.space.specs.Counts.{points_length, point_row, at_long}
use Rattle.space.specs.declared.Points.{Points}
use Rattle.space.specs.declared.Subspace.{Subspace}
use Rattle.sets.proofs.Laws.{near_from, near_joins, near_stays, near_end, near_small}
use Rattle.sets.proofs.points_near.Goals as goal
use Rattle.sets.proofs.points_near.Goals.{then-is_near, else-is_near}

-- what is read of point v means it
read_near : (flat : Points) (plane : Subspace) (tolerance : Float) (v : ℕ) → v < flat.n → flat.d ≡ plane.d
    → lt (distance (subspace_of plane) (point_at (points_of flat) v)) tolerance
    ≡ lt (distance (subspace_of plane) (vector_of plane.d (drop (5 * v) flat.at))) tolerance
read_near flat plane tolerance v below same =
    ap (λ (p : Vec). lt (distance (subspace_of plane) p) tolerance) (subst (λ (k : ℕ). point_at (points_of flat) v
    ≡ vector_of k (drop (5 * v) flat.at)) same (point_row flat v below))

pub is_near-requires : goal.is_near-requires
is_near-requires c =
    let flat = c.args.flat.now in
    omega (arith, at_long flat, flat.fits.n_fits, c.args.plane.now.fits.d_fits)

pub overflow_add-sum : goal.overflow_add-sum
overflow_add-sum c =
    let l = c.loop-v in
    let flat = c.args.flat.now in
    let ps = points_of flat in
    let plane = subspace_of c.args.plane.now in
    let near = read_near flat c.args.plane.now c.args.tolerance l.v c.loop-v-test.true c.requires
    ∙ (sym c.is_near.ensures ∙ c.if-is_near.true) in
    let joins = near_joins c.args.tolerance plane ps l.v (omega (arith, points_length flat)) near in
    record {
      fits = omega (
        arith,
        c.power-sum.ensures,
        l.invariant.1,
        joins,
        near_small c.args.tolerance plane ps (omega (arith, points_length flat, flat.fits.n_fits)),
      );
    }

pub loop-v-preserved : goal.loop-v-preserved
loop-v-preserved c =
    let l = c.loop-v in
    let flat = c.args.flat.now in
    let ps = points_of flat in
    let plane = subspace_of c.args.plane.now in
    let read = read_near flat c.args.plane.now c.args.tolerance l.v c.loop-v-test.true c.requires
    ∙ sym c.is_near.ensures in
    let among : l.v < length ps = omega (arith, points_length flat) in
    let sum : c.if-is_near.sum + near_from c.args.tolerance plane ps (l.v + 1)
    ≡ near_from c.args.tolerance plane ps 0 = elim c.if-is_near.branch [
      | then-is_near w ↦ omega (
        arith,
        w.sum-is,
        w.power-sum.ensures,
        l.invariant.1,
        near_joins c.args.tolerance plane ps l.v among (read ∙ w.if-is_near.true),
      )
      | else-is_near w ↦ omega
          (arith, w.sum-is, l.invariant.1, near_stays c.args.tolerance plane ps l.v among (read ∙ w.if-is_near.false))
    ] in
    (omega arith, sum)

pub returns : goal.returns
returns c =
    let l = c.loop-v in
    omega (
      arith,
      l.invariant.1,
      near_end c.args.tolerance (subspace_of c.args.plane.now)
          (points_of c.args.flat.now) l.v (omega (arith, points_length c.args.flat.now)),
    )
