-- `pair_points` meets its contract.
use mathlib.Core.Path.{◌≡◌, sym, subst, ◌∙◌}
use mathlib.Core.List.{[]}
use native.Mathlib.Omega.{arith}
use Rattle.space.specs.Counts.{point_means, point_own}
use Rattle.space.specs.Counts.{one_more}
use Rattle.vectors.specs.Meaning.{vector_of, five}
use Prim.Native.Nat.{ℕ}
use Rattle.orbits.proofs.pair_points.Goals as goal

pub push-requires : goal.push-requires
push-requires c = let e = c.new-pair.ensures in (
  omega (arith, e.n_is),
  subst (λ (d : ℕ). c.point.result ≡ five (vector_of d c.point.result)) (sym e.d_is)
      (point_own c.args.flat.now c.args.v c.requires.0 _ c.point.ensures),
)

pub push-requires-2 : goal.push-requires-2
push-requires-2 c = let e = c.new-pair.ensures in
    let h = c.push.ensures.0 in (
      omega (arith, c.push.ensures.1, e.n_is),
      subst (λ (d : ℕ). c.point-2.result ≡ five (vector_of d c.point-2.result)) (sym (h.d_is ∙ e.d_is))
          (point_own c.args.flat.now c.args.w c.requires.1 _ c.point-2.ensures),
    )

pub returns : goal.returns
returns c = let a = c.args in
    let one = one_more c.new-pair.result _ a.flat.now.d [] c.point.result _ c.new-pair.ensures
    (point_means a.flat.now a.v c.requires.0 _ c.point.ensures) c.push.ensures.0 in
    one_more _ _ a.flat.now.d _ c.point-2.result _ one
    (point_means a.flat.now a.w c.requires.1 _ c.point-2.ensures) c.push-2.ensures.0
