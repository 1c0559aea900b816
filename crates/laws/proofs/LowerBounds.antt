-- Theorems on the definitions of specs/LowerBounds.
use Rattle.std.specs.Prelude.{◌≡◌, Bool, true, false, cond, ℕ, zero, suc, ◌*◌, ◌^◌, ◌≤◌, ◌<◌, T, eqb, Float}
use Rattle.std.proofs.Common.{mul-pos, arith, eqb→eq, pow_pos}
use Rattle.std.specs.Float.{nan, inf, fin, Format}
use Rattle.std.specs.Float.Ieee.{emax, low, up, down, unlike, round, div}
use Rattle.std.specs.Float.Ieee.Fits.{down_pos}
use Rattle.laws.specs.Floats.{Sized}
use Rattle.laws.proofs.Rounding.{round_sized}
use Rattle.laws.specs.LowerBounds.{AtLeast, NotBeyond, not_zero}

-- ---- quotients

-- a denominator above zero
below_line : (b p n u l q : ℕ) → 0 < b → 0 < p → b * p ≤ n * u * l → 0 < q → 0 < n * u * q
below_line b p zero u l q B P h Q = let r = mul-pos B P in omega arith
below_line b p (suc n) zero l q B P h Q = let r = mul-pos B P in omega arith
below_line b p (suc n) (suc u) l q B P h Q = mul-pos (mul-pos {m = suc n} (omega arith) (omega arith)) Q

pub div_sized : (f : Format) (i k : ℕ) (x y : Float) → k ≤ emax f → AtLeast f i y → NotBeyond k x y
    → Sized f k (div f x y)
unfolding div
div_sized f i k nan y K h b = absurd b
div_sized f i k (inf s) y K h b = absurd b
div_sized f i k (fin s m e) nan K h b = absurd b
div_sized f i k (fin s m e) (inf t) K h b = absurd b
div_sized f i k (fin s m e) (fin true n d) K h b = absurd h
div_sized f i k (fin s m e) (fin false n d) K h b = go (eqb n 0) (eqb→eq n 0)
  where
    go : (z : Bool) → (T z → n ≡ 0)
        → Sized f k (cond z (cond (eqb m 0) nan (inf (unlike s false)))
        (round f (unlike s false) (m * up e * down d) (n * up d * down e)))
    go true zer =
        absurd (not_zero (2 ^ i) (down d) n (up d * 2 ^ low f) 1 (pow_pos i) (down_pos d) (pow_pos 0)
        (let g = h in omega arith) (let g = zer tt in omega arith))
    go false zer =
        round_sized f (unlike s false) (m * up e * down d) (n * up d * down e) k
        (below_line (2 ^ i) (down d) n (up d) (2 ^ low f) (down e) (pow_pos i) (down_pos d) h (down_pos e)) K b
