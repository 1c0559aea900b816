-- The number of the images of a set's vertices, vertex by vertex, and how large it can be.
use Rattle.std.specs.Prelude.{◌≡◌, Bool, ℕ, zero, suc, ◌+◌, ◌*◌, ◌/◌, ◌%◌, ◌^◌, ◌≤◌, ◌<◌, eqb}
use Rattle.std.proofs.Math.Path.{refl}
use Rattle.std.proofs.Math.Bool.{true, false, cond}
use mathlib.Core.List.{◌∷◌, map}
use native.Mathlib.Omega.{arith}
use Rattle.laws.specs.Sets.{set_number, vertices_from}
use Rattle.sets.specs.Steps.{power_below}

pub number_step : (f : ℕ → ℕ) (v n x : ℕ) → set_number (map f (vertices_from v (suc n) x))
    ≡ cond (eqb (x % 2) 1) (2 ^ f v) 0 + set_number (map f (vertices_from (suc v) n (x / 2)))
unfolding vertices_from set_number
number_step f v n x = go (eqb (x % 2) 1)
  where
    go : (b : Bool)
        → set_number (map f (cond b (v ∷ vertices_from (suc v) n (x / 2)) (vertices_from (suc v) n (x / 2))))
        ≡ cond b (2 ^ f v) 0 + set_number (map f (vertices_from (suc v) n (x / 2)))
    go true = refl
    go false = omega arith

-- the sum of n powers below 2 ^ 20
pub number_bound : (f : ℕ → ℕ) (v n x : ℕ) → ((u : ℕ) → u < v + n → f u < 20)
    → set_number (map f (vertices_from v n x)) ≤ n * 524288
unfolding vertices_from set_number
number_bound f v zero x h = omega arith
number_bound f v (suc n) x h =
    rw (number_step f v n x) (go (eqb (x % 2) 1) (number_bound f (suc v) n (x / 2) (λ u l. h u (omega arith))))
  where
    go : (b : Bool) → set_number (map f (vertices_from (suc v) n (x / 2))) ≤ n * 524288
        → cond b (2 ^ f v) 0 + set_number (map f (vertices_from (suc v) n (x / 2))) ≤ suc n * 524288
    go true ih = omega (arith, power_below (f v) (h v (omega arith)))
    go false ih = omega arith
