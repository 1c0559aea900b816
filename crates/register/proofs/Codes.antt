-- A small number negated is itself with a minus, and fits the return code. Leans on the laws of signed numbers.
use mathlib.Core.Path.{◌≡◌, sym, ap, ◌∙◌, subst}
use Prim.Native.Nat.{ℕ, zero, suc, ◌<◌}
use native.Mathlib.Omega.{arith}
use lib.IntN.{ℤ, pos, neg_ℤ, ◌-ℤ◌, +ℤ_idl}
use mir.Syntax.{w64}
use mir.Val.{SFits, to_z, of_z}
use mir.Facts.{to_z_pos, to_z-of_z}

minus : (n : ℕ) → pos 0 -ℤ pos n ≡ neg_ℤ (pos n)
minus n = +ℤ_idl (neg_ℤ (pos n))

small : (n : ℕ) → n < 256 → SFits w64 (neg_ℤ (pos n))
small zero h = record { sfits = omega arith }
small (suc n) h = record { sfits = omega arith }

as_it_is : (n : ℕ) → n < 256 → pos 0 -ℤ to_z w64 n ≡ neg_ℤ (pos n)
as_it_is n h = ap (λ (z : ℤ). pos 0 -ℤ z) (to_z_pos w64 {n = n} (omega arith)) ∙ minus n

pub negated_fits : (n : ℕ) → n < 256 → SFits w64 (pos 0 -ℤ to_z w64 n)
negated_fits n h = subst (SFits w64) (sym (as_it_is n h)) (small n h)

pub negated : (n : ℕ) → n < 256 → to_z w64 (of_z w64 (pos 0 -ℤ to_z w64 n)) ≡ neg_ℤ (pos n)
negated n h = to_z-of_z (negated_fits n h) ∙ as_it_is n h
