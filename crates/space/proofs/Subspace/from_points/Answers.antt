-- `Subspace::from_points` meets its contract: a turn adds one point more (`add_points_step`). At full rank no point
-- changes anything (`add_points_full`), and at the end none is left (`add_points_end`).
use mathlib.Core.Path.{◌≡◌, refl, sym, ◌∙◌}
use mathlib.Core.Bool.{true, false}
use Prim.Native.Nat.{◌≤◌, ◌<◌}
use native.Mathlib.Omega.{arith}
use lib.ListN.{length}
use Rattle.definitions.specs.Orbits.{point_at}
use Rattle.laws.specs.Segments.{onto}
use Rattle.vectors.specs.Meaning.{vector_of, zeros, five}
use Rattle.space.specs.Meaning.{subspace_of, is_full_rank, points_of}
use Rattle.space.specs.Counts.{holds_subspace, points_length, point_means, point_own, point_places}
use Rattle.space.proofs.Laws.{add_points_full, add_points_step, add_points_end, from_points_none, from_points_first}
use Rattle.space.proofs.Laws.{has_room}
use Rattle.space.proofs.Subspace.from_points.Goals as goal

pub new-requires : goal.new-requires
unfolding five onto zeros
new-requires c = (omega arith, refl)

pub returns-then-points-eq0 : goal.returns-then-points-eq0
returns-then-points-eq0 c =
    (rw (from_points_none _ c.args.points.now c.if-points-eq0.true) c.new.ensures.0, λ h. absurd (omega arith))

pub new-s-requires : goal.new-s-requires
new-s-requires c =
    let p = c.args.points.now in
    (p.fits.d_fits, point_own p 0 (omega arith) _ (c.point_at.ensures ∙ point_places p 0 (omega arith)))

pub loop-i-init : goal.loop-i-init
loop-i-init c =
    let p = c.args.points.now in
    let first : vector_of p.d c.point_at.result ≡ point_at (points_of p) 0 =
    point_means p 0 (omega arith) _ (c.point_at.ensures ∙ point_places p 0 (omega arith)) in
    let some-points : 0 < length (points_of p) = omega (arith, points_length p) in (
      omega arith,
      c.new-s.ensures.1,
      rw (c.new-s.ensures.0.means, first) (sym (from_points_first c.args.tolerance (points_of p) some-points)),
    )

pub returns-then-is_full_rank : goal.returns-then-is_full_rank
returns-then-is_full_rank c =
    let l = c.loop-i in
    let full : is_full_rank (subspace_of l.s) ≡ true = sym c.is_full_rank.ensures ∙ c.if-is_full_rank.true in
    (holds_subspace _ _ (sym (add_points_full _ _ _ full) ∙ l.invariant.2), λ h. l.invariant.1)

pub add-s-requires : goal.add-s-requires
add-s-requires c =
    let l = c.loop-i in
    omega (arith, has_room l.s (sym c.is_full_rank.ensures ∙ c.if-is_full_rank.false), l.s.fits.d_fits)

pub loop-i-preserved : goal.loop-i-preserved
loop-i-preserved c =
    let l = c.loop-i in
    let p = c.args.points.now in
    let s = subspace_of l.s in
    let inside : l.i < p.n = omega arith in
    let not_full : is_full_rank s ≡ false = sym c.is_full_rank.ensures ∙ c.if-is_full_rank.false in
    let below : l.i < length (points_of p) = omega (arith, points_length p) in
    let point : vector_of l.s.d c.point_at-in-loop-i.result ≡ point_at (points_of p) l.i =
    rw l.invariant.1 (point_means p l.i inside _ (c.point_at-in-loop-i.ensures ∙ point_places p l.i inside)) in (
      omega arith,
      c.add-s.ensures.1 ∙ l.invariant.1,
      rw (c.add-s.ensures.0.means, point)
          (sym (add_points_step c.args.tolerance s (points_of p) l.i below not_full) ∙ l.invariant.2),
    )

pub returns : goal.returns
returns c =
    let l = c.loop-i in
    let p = c.args.points.now in
    let end : length (points_of p) ≤ l.i = omega (arith, points_length p) in (
      holds_subspace _ _
          (sym (add_points_end c.args.tolerance (subspace_of l.s) (points_of p) l.i end) ∙ l.invariant.2),
      λ h. l.invariant.1,
    )
