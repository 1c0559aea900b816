-- Theorems on the definitions of specs/Calls.
use Rattle.std.specs.Prelude.{ℕ, ◌+◌, ◌*◌, T, Float}
use mathlib.Core.List.{List, []}
use native.Mathlib.Omega.{arith}
use Rattle.std.proofs.Math.ListN.{length}
use Rattle.std.specs.Float.Ieee.{le}
use Rattle.definitions.specs.Vectors.{Vec, minus}
use Rattle.definitions.specs.Subspace.{Subspace}
use Rattle.definitions.specs.Orbits.{point_at}
use Rattle.definitions.specs.Job.{least_tolerance}
use Rattle.bounds.specs.Sizes.{each_get_d, Small, small_none, small_wider, minus_small, residual_small}
use Rattle.bounds.specs.Fits.{fit_takes_small}
use Rattle.bounds.specs.Calls.{Bounded, NormsFit, Occurs, Rooted, Takes, bound_at, chosen, chosen_small, flattened}
use Rattle.bounds.specs.Calls.{flattened_small, in_distance, in_fit, in_length, inner, inner_bounded, outermost}
use Rattle.bounds.specs.Calls.{small_rooted, through}

-- ---- one call

module _ (n k : ℕ) (plane : Subspace) (points : List Vec) (room : NormsFit n k) (h : Bounded n k plane points) where
  module _ (tolerance : Float) (low : T (le least_tolerance tolerance)) where
    -- what the call takes norms of
    pub takes_small : {v : Vec} → Takes tolerance plane points v → Small n (k + 6 + 3 * n) v
    unfolding point_at
    takes_small (in_length v w) =
        let at : (u : ℕ)
        → Small n k (point_at points u) = λ u. each_get_d (Small n k) points u [] (small_none n k) h.small in
        let length = minus (point_at points w) (point_at points v) in
        small_wider length (omega arith)
        (minus_small (point_at points w) (point_at points v) (omega arith) (at w) (at v))
    takes_small {v} (in_fit vertices t) =
        small_wider v (omega arith) (fit_takes_small n (k + 2 + n) tolerance (omega arith) low
        (chosen plane points vertices) v (chosen_small n k plane points room h vertices) t)
    takes_small {v} (in_distance vertices u) =
        let s = through tolerance plane points vertices in
        small_wider v (omega arith)
        (residual_small n (k + 2 + n) s _ (omega arith)
        (inner_bounded n k plane points room h tolerance low vertices).tame
        (each_get_d (Small n (k + 2 + n)) (flattened plane points) _ [] (small_none n (k + 2 + n))
        (flattened_small n k plane points room h)))

-- ---- every call

module _ (n k : ℕ) (tolerance : Float) (low : T (le least_tolerance tolerance)) (top : ℕ) (outer : Subspace)
    (given : List Vec) (h : Bounded n k outer given) where
  pub occurs_bounded : {depth more : ℕ} {plane : Subspace} {points : List Vec} → NormsFit n (bound_at n k depth)
      → Occurs tolerance top outer given depth more plane points
      → Bounded n (bound_at n k depth) plane points
  unfolding bound_at
  occurs_bounded room outermost = h
  occurs_bounded {depth} room (inner {depth = before} {plane = plane} {points = points} c vertices e) =
      let r : NormsFit n (bound_at n k before) = omega arith in
      inner_bounded n (bound_at n k before) plane points r (occurs_bounded r c) tolerance low vertices

  -- no norm asks for a root that has no value, and every norm is a finite double
  pub every_norm_has_its_root : {depth more : ℕ} {plane : Subspace} {points : List Vec} {v : Vec}
      → NormsFit n (bound_at n k depth)
      → Occurs tolerance top outer given depth more plane points → Takes tolerance plane points v → Rooted v
  every_norm_has_its_root {depth} {plane = plane} {points = points} {v = v} room c t =
      let bound = bound_at n k depth in
      small_rooted n (bound + 6 + 3 * n) v (omega arith)
      (takes_small n bound plane points room (occurs_bounded room c) tolerance low t)
