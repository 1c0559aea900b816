-- Where no root is worked out: zeros, which are their own roots, and what is refused. By bit patterns, as the program
-- tells them apart. Assumes nothing.
use Rattle.std.specs.Prelude.{◌≡◌, refl, Bool, true, false, not, cond, ℕ, zero, suc, ◌+◌, ◌*◌, ◌/◌, ◌%◌, ◌^◌, ◌≤◌, ◌<◌}
use Rattle.std.specs.Prelude.{T, leb, ltb, eqb, Float}
use Rattle.std.proofs.Common.{sym, ap, ◌∙◌, subst, mod-eq_of_lt, mul-pos, zero-mul, arith, leb→le, pow_pos}
use Rattle.std.specs.Prelude.{Some, None}
use Rattle.std.proofs.Math.Dec.{nleb→lt}
use Rattle.std.proofs.Math.Arith.{le→nltb}
use Rattle.std.specs.Float.{nan, inf, fin, binary64}
use Rattle.std.specs.Float.Ieee.{hid, top, up, odd, of_fields, of_bits, to_bits, is_nan, nan_bits, ne, fits, div}
use Rattle.std.specs.Float.Ieee.Bits.{nan_bits_above, of_bits-to_bits, to_bits-lt}
use Rattle.std.specs.Float.Ieee.Compare.{nan_differs}
use Rattle.std.specs.Float.Ieee.Exact.{HasValue, odd_sign}
use Rattle.std.specs.Float.Ieee.Fits.{down_pos}
use Rattle.definitions.specs.Vectors.{square_root}

-- ---- NaN
pub of_nan : square_root nan ≡ None
unfolding square_root
of_nan = refl

pub nan_refused : (x : Float) → is_nan x ≡ true → square_root x ≡ None
unfolding is_nan
nan_refused nan h = of_nan
nan_refused (inf s) h = absurd (subst T (sym h) tt)
nan_refused (fin s m e) h = absurd (subst T (sym h) tt)

pub no_nan : (x : Float) → ne x x ≡ false → T (not (is_nan x))
unfolding is_nan
no_nan nan h = absurd (subst T (sym nan_differs ∙ h) tt)
no_nan (inf s) h = tt
no_nan (fin s m e) h = tt

pub no_nan_bits : (bits : ℕ) → bits < 2047 * 2 ^ 52 → T (not (nan_bits binary64 bits))
no_nan_bits bits h =
    let l : bits < top binary64 = omega arith in
    let e : bits % top binary64 ≡ bits = mod-eq_of_lt l in
    subst (λ (b : Bool). T (not b)) (sym (nan_bits_above binary64 bits ∙ ap (λ (x : ℕ). ltb (2047 * 2 ^ 52) x) e))
    (le→nltb (2047 * 2 ^ 52) bits (omega arith))

-- ---- ±0
pub of_zero : (bits : ℕ) → bits % 9223372036854775808 ≡ 0
    → square_root (of_bits binary64 bits) ≡ Some (of_bits binary64 bits)
unfolding of_bits of_fields odd square_root
of_zero bits h =
    go (bits % top binary64 / hid binary64) (bits % hid binary64) (ap (λ (x : ℕ). x / 2 ^ 52) h) (omega arith)
  where
    go : (x t : ℕ) → x ≡ 0 → t ≡ 0 → square_root (of_fields binary64 (leb (top binary64) bits) x t)
        ≡ Some (of_fields binary64 (leb (top binary64) bits) x t)
    go zero zero e d = refl
    go zero (suc t) e d = absurd (omega arith)
    go (suc x) t e d = absurd (omega arith)

-- ---- below zero
pub of_negative : (x : Float) (a c : ℕ) → 0 < a → HasValue x true a c → square_root x ≡ None
unfolding square_root
of_negative nan a c p v = refl
of_negative (inf t) a c p v = refl
of_negative (fin t zero e) a c p v =
    absurd (nothing (mul-pos p (down_pos e)) (sym (zero-mul (up e * c)) ∙ regroup (up e) c ∙ v.1))
  where
    nothing : {y : ℕ} → 0 < y → 0 ≡ y → ⊥
    nothing l q = omega arith

    regroup : (y z : ℕ) → 0 * (y * z) ≡ 0 * y * z
    regroup y z = omega arith
of_negative (fin true (suc m) e) a c p v = refl
of_negative (fin false (suc m) e) a c p v = absurd (subst (λ (b : Bool). T (not b)) v.0 tt)

-- ---- what has no root: a field of all ones, or a sign and something behind it
beyond : (s b : Bool) → square_root (cond b (inf s) nan) ≡ None
unfolding square_root
beyond s true = refl
beyond s false = refl

field_of_ones : (s : Bool) (t : ℕ) → square_root (of_fields binary64 s 2047 t) ≡ None
unfolding of_fields
field_of_ones s t = beyond s (eqb t 0)

below_zero : (x t : ℕ) → 0 < x + t → square_root (of_fields binary64 true x t) ≡ None
unfolding of_fields
below_zero zero t h =
    of_negative (odd 53 true t 0 1074) (t * 2 ^ 0) (2 ^ 1074) (mul-pos (omega arith) (pow_pos 0))
    (odd_sign 53 true t 0 1074)
below_zero (suc x) t h = go (eqb (suc x) 2047)
  where
    go : (b : Bool) → square_root (cond b (cond (eqb t 0) (inf true) nan) (odd 53 true (2 ^ 52 + t) x 1074)) ≡ None
    go true = beyond true (eqb t 0)
    go false =
        of_negative (odd 53 true (2 ^ 52 + t) x 1074) ((2 ^ 52 + t) * 2 ^ x) (2 ^ 1074)
        (mul-pos (omega arith) (pow_pos x)) (odd_sign 53 true (2 ^ 52 + t) x 1074)

pub of_refused : (bits : ℕ) → bits < 18446744073709551616 → (bits % 9223372036854775808 ≡ 0 → ⊥)
    → 9218868437227405312 ≤ bits → square_root (of_bits binary64 bits) ≡ None
unfolding of_bits
of_refused bits all some-digit h =
    go (leb (top binary64) bits) (leb→le (top binary64) bits) (nleb→lt (top binary64) bits)
  where
    go : (b : Bool) → (T b → top binary64 ≤ bits) → (T (not b) → bits < top binary64)
        → square_root (of_fields binary64 b (bits % top binary64 / hid binary64) (bits % hid binary64)) ≡ None
    go true f g = below_zero (bits % top binary64 / hid binary64) (bits % hid binary64) (omega arith)
    go false f g =
        let l = g tt in
        let e : bits % top binary64 / hid binary64 ≡ 2047 = omega arith in
        ap (λ (x : ℕ). square_root (of_fields binary64 false x (bits % hid binary64))) e
        ∙ field_of_ones false (bits % hid binary64)

-- ---- as the program asks, of a double x by its bits
module _ (x : Float) (holds : fits binary64 x ≡ true) where
  held : T (fits binary64 x)
  held = subst T (sym holds) tt

  bits_back : of_bits binary64 (to_bits binary64 x) ≡ x
  bits_back = of_bits-to_bits binary64 x held

  pub is_zero : to_bits binary64 x % 9223372036854775808 ≡ 0 → Some x ≡ square_root x
  is_zero h = sym (subst (λ (y : Float). square_root y ≡ Some y) bits_back (of_zero (to_bits binary64 x) h))

  pub is_refused_holds : (to_bits binary64 x % 9223372036854775808 ≡ 0 → ⊥) → 9218868437227405312 ≤ to_bits binary64 x
      → None ≡ square_root x
  is_refused_holds n h =
      sym (subst (λ (y : Float). square_root y ≡ None) bits_back
      (of_refused (to_bits binary64 x) (to_bits-lt binary64 x held) n h))

  pub is_value : (r : ℕ) → square_root (of_bits binary64 (to_bits binary64 x)) ≡ Some (of_bits binary64 r)
      → Some (of_bits binary64 r) ≡ square_root x
  is_value r h = sym (subst (λ (y : Float). square_root y ≡ Some (of_bits binary64 r)) bits_back h)

-- ---- the NaN: zero by zero, and the pattern that the program writes for it
pub zero_by_zero : div binary64 (of_bits binary64 0) (of_bits binary64 0) ≡ nan
unfolding div of_bits
zero_by_zero = refl

pub nan_written : of_bits binary64 9221120237041090560 ≡ nan
unfolding of_bits of_fields
nan_written = refl
