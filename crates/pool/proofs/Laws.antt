-- The length of a list, as the code reads it. Assumes nothing.
use mathlib.Core.Path.{◌≡◌, refl}
use mathlib.Core.List.{List}
use Prim.Native.Nat.{ℕ, ◌+◌, ◌-◌, ◌*◌}
use native.Mathlib.Omega.{arith}
use Rattle.definitions.specs.Job.{number_at}
use Rattle.pool.specs.Pool.{start, length_at}

pub length_read : (s : List ℕ) (k a b : ℕ) → a ≡ number_at s (8 + 4 * k) 4 → b ≡ number_at s (12 + 4 * k) 4
    → b - a ≡ length_at s k
unfolding length_at start
length_read s k a b p q =
    let e : 12 + 4 * k ≡ 8 + 4 * (k + 1) = omega arith in
    rw (p, q, e) refl
