-- Theorems on the definitions of specs/Floats.
use Rattle.std.specs.Prelude.{Bool, true, false, ◌&&◌, cond, Float}
use Rattle.std.proofs.Common.{sym, ap, subst, pow-suc, le_refl, le_trans, le_of_eq, mul-le-mul, mul-le-mul_right}
use Rattle.std.proofs.Common.{mul-pos, mul_assoc, mul_comm, mul_left_comm, arith, pow-add}
use Rattle.std.specs.Bool.{beq}
use Prim.Native.Nat.{ℕ, suc, ◌+◌, ◌-◌, ◌*◌, ◌^◌, ◌≤◌, ◌<◌}
use Rattle.std.proofs.Math.Dec.{ltb}
use Rattle.std.specs.Float.{nan, inf, fin, Format}
use Rattle.std.specs.Float.Ieee.{emax, up, down, unlike, round, sum, add, mul}
use Rattle.std.specs.Float.Ieee.Fits.{down_pos}
use Rattle.laws.specs.Floats.{Sized}
use Rattle.laws.proofs.Rounding.{round_sized}

-- ---- sums, differences and products

sum_sized : (f : Format) (s : Bool) (a : ℕ) (t : Bool) (b c k : ℕ) → 0 < c → suc k ≤ emax f → a ≤ 2 ^ k * c
    → b ≤ 2 ^ k * c → Sized f (suc k) (sum f s a t b c)
unfolding sum
sum_sized f s a t b c k C K h g = go (beq s t) (ltb a b)
  where
    doubled : (x : ℕ) → x ≤ a + b → x ≤ 2 ^ suc k * c
    doubled x l = let e = ap (λ (z : ℕ). z * c) (pow-suc 2 k) in omega arith

    rounded : (r : Bool) (x : ℕ) → x ≤ a + b → Sized f (suc k) (round f r x c)
    rounded r x l = round_sized f r x c (suc k) C K (doubled x l)

    go : (p q : Bool) → Sized f (suc k)
        (cond p (round f s (a + b) c) (cond q (round f t (b - a) c) (round f (s && ltb b a) (a - b) c)))
    go true q = rounded s (a + b) (le_refl (a + b))
    go false true = rounded t (b - a) (omega arith)
    go false false = rounded (s && ltb b a) (a - b) (omega arith)

-- x / p at most b, over a common denominator
common : (x p q b : ℕ) → x ≤ b * p → x * q ≤ b * (p * q)
common x p q b h = let l = mul-le-mul_right q h in omega arith

pub add_sized : (f : Format) (k : ℕ) (x y : Float) → suc k ≤ emax f → Sized f k x → Sized f k y
    → Sized f (suc k) (add f x y)
unfolding add
add_sized f k nan y K a b = absurd a.within
add_sized f k (inf s) y K a b = absurd a.within
add_sized f k (fin s m e) nan K a b = absurd b.within
add_sized f k (fin s m e) (inf t) K a b = absurd b.within
add_sized f k (fin s m e) (fin t n d) K a b =
    sum_sized f s (m * up e * down d) t (n * up d * down e) (down e * down d) k (mul-pos (down_pos e) (down_pos d)) K
    (common (m * up e) (down e) (down d) (2 ^ k) a.within)
    (le_trans (common (n * up d) (down d) (down e) (2 ^ k) b.within)
    (le_of_eq (ap (λ (z : ℕ). 2 ^ k * z) (mul_comm (down d) (down e)))))

pub mul_sized : (f : Format) (j k : ℕ) (x y : Float) → j + k ≤ emax f → Sized f j x → Sized f k y
    → Sized f (j + k) (mul f x y)
unfolding mul
mul_sized f j k nan y K a b = absurd a.within
mul_sized f j k (inf s) y K a b = absurd a.within
mul_sized f j k (fin s m e) nan K a b = absurd b.within
mul_sized f j k (fin s m e) (inf t) K a b = absurd b.within
mul_sized f j k (fin s m e) (fin t n d) K a b =
    round_sized f (unlike s t) (m * up e * (n * up d)) (down e * down d) (j + k) (mul-pos (down_pos e) (down_pos d)) K
    (le_trans (mul-le-mul a.within b.within)
    (subst (λ (z : ℕ). 2 ^ j * down e * (2 ^ k * down d) ≤ z * (down e * down d)) (sym (pow-add 2 j k))
    (le_of_eq (simp (mul_assoc, mul_comm, mul_left_comm)))))
