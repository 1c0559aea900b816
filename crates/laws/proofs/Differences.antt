-- Theorems on the definitions of specs/Floats.
use Rattle.std.specs.Prelude.{Float}
use Prim.Native.Nat.{ℕ, suc, ◌≤◌}
use Rattle.std.specs.Float.{Format}
use Rattle.std.specs.Float.Ieee.{emax, neg, sub}
use Rattle.laws.specs.Floats.{Sized, neg_sized}
use Rattle.laws.proofs.Sums.{add_sized}

-- ---- sums, differences and products

pub sub_sized : (f : Format) (k : ℕ) (x y : Float) → suc k ≤ emax f → Sized f k x → Sized f k y
    → Sized f (suc k) (sub f x y)
unfolding sub
sub_sized f k x y K a b = add_sized f k x (neg y) K a (neg_sized f k y b)
