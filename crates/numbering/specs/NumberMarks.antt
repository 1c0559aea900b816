-- Marks as numbers: 0 for none, else one more than what is marked. The code's marks are Options; a table of numbers is
-- read by these.
use Rattle.std.specs.Prelude.{◌≡◌, Bool, true, false, ℕ, zero, suc}
use Rattle.std.proofs.Math.Path.{refl}
use native.Mathlib.Omega.{arith}

unfoldable pub unmarked : ℕ → Bool
unmarked zero = true
unmarked (suc mark) = false

pub is_unmarked : (mark : ℕ) → mark ≡ 0 → unmarked mark ≡ true
unfolding unmarked
is_unmarked zero e = refl
is_unmarked (suc mark) e = absurd (omega arith)

pub is_marked : (mark : ℕ) → (mark ≡ 0 → ⊥) → unmarked mark ≡ false
unfolding unmarked
is_marked zero n = absurd (n refl)
is_marked (suc mark) n = refl
