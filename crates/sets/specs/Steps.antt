-- One vertex more of a set, as the loops take it, and of the points near a plane; a power of two for a vertex is
-- small. Leans on the sets of the crate of laws.
use Rattle.std.specs.Prelude.{◌≡◌, Bool, ℕ, suc, ◌+◌, ◌/◌, ◌%◌, ◌^◌, ◌≤◌, ◌<◌, eqb, length, get_or, drop, Float}
use Rattle.std.proofs.Math.Path.{refl}
use Rattle.std.proofs.Common.{drop-cons}
use Rattle.std.proofs.Math.Bool.{true, false, cond}
use mathlib.Core.List.{List, [], ◌∷◌, ◌++◌}
use native.Mathlib.Omega.{arith}
use Rattle.std.proofs.Math.Nat.{pow-le-pow_right}
use Rattle.std.specs.Float.Ieee.{lt}
use Rattle.definitions.specs.Vectors.{Vec}
use Rattle.definitions.specs.Subspace.{Subspace, distance}
use Rattle.definitions.specs.Orbits.{point_at, points_near}
use Rattle.laws.specs.Sets.{set_number, vertices_from, SetFrom, empty, without, with}

-- ---- a set

-- one vertex more at the front
pub vertices_step : (v n x : ℕ) → vertices_from v (suc n) x ≡ vertices_from v 1 x ++ vertices_from (suc v) n (x / 2)
unfolding vertices_from
vertices_step v n x = go (eqb (x % 2) 1)
  where
    go : (b : Bool) → cond b (v ∷ vertices_from (suc v) n (x / 2)) (vertices_from (suc v) n (x / 2))
        ≡ cond b (v ∷ []) [] ++ vertices_from (suc v) n (x / 2)
    go true = refl
    go false = refl

-- a power below 2 ^ 20
pub power_below : (k : ℕ) → k < 20 → 2 ^ k ≤ 524288
power_below k h = pow-le-pow_right {n = 2} (omega arith) {i = k} {j = 19} (omega arith)

-- ---- the points near a plane

module _ (tolerance : Float) (s : Subspace) where
  pub near_set : (ps : List Vec) (v : ℕ) → SetFrom v (length ps) (points_near tolerance s ps v)
  unfolding points_near
  near_set [] v = empty
  near_set (p ∷ ps) v = go (lt (distance s p) tolerance) (near_set ps (suc v))
    where
      go : (b : Bool) → SetFrom (suc v) (length ps) (points_near tolerance s ps (suc v)) → SetFrom v (suc (length ps))
          (cond b (v ∷ points_near tolerance s ps (suc v)) (points_near tolerance s ps (suc v)))
      go true r = with r
      go false r = without r

  near_first : (p : Vec) (ps : List Vec) (v : ℕ) → set_number (points_near tolerance s (p ∷ ps) v)
      ≡ cond (lt (distance s p) tolerance) (2 ^ v) 0 + set_number (points_near tolerance s ps (suc v))
  unfolding points_near set_number
  near_first p ps v = go (lt (distance s p) tolerance)
    where
      go : (b : Bool)
          → set_number (cond b (v ∷ points_near tolerance s ps (suc v)) (points_near tolerance s ps (suc v)))
          ≡ cond b (2 ^ v) 0 + set_number (points_near tolerance s ps (suc v))
      go true = refl
      go false = omega arith

  pub near_step : (ps : List Vec) (v : ℕ) → v < length ps
      → set_number (points_near tolerance s (drop v ps) v) ≡ cond (lt (distance s (point_at ps v)) tolerance)
      (2 ^ v) 0 + set_number (points_near tolerance s (drop (suc v) ps) (suc v))
  unfolding point_at
  near_step ps v h = rw (drop-cons ps v [] h) (near_first (get_or ps v []) (drop (suc v) ps) v)
