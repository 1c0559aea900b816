-- Doubles as whole numbers of the smallest one, 2^-1074: how many such units a double is, that every finite double
-- above zero is scaled (Scaled.antt), and how far doubles lie apart. Assumes nothing.
use Rattle.std.specs.Prelude.{◌≡◌, refl, Bool, false, ◌&&◌, ℕ, zero, suc, ◌+◌, ◌-◌, ◌*◌, ◌/◌, ◌%◌, ◌^◌, ◌≤◌, ◌<◌, T}
use Rattle.std.specs.Prelude.{leb, ltb, eqb, ℤ, pos, negsuc, Float}
use Rattle.std.proofs.Common.{sym, ap, ◌∙◌, subst, mul-one, mul-div_cancel, zero-mul, mul-le-mul_right}
use Rattle.std.proofs.Common.{mul-lt-mul_of_pos_right, lt_of_le_of_lt, zero-lt-suc, arith, leb→le, ltb→lt, lit<}
use Rattle.std.proofs.Common.{pow-add, pow_pos}
use Rattle.std.proofs.Math.Nat.{zero-div}
use Rattle.std.proofs.lemmas.Nat.{leading_top}
use Rattle.std.specs.Float.{nan, inf, fin, binary64}
use Rattle.std.specs.Float.Ieee.{up, down, fits}
use Rattle.std.specs.Float.Ieee.Fits.{and_l, and_r, down_pos}
use Rattle.std.specs.Float.Ieee.Exact.{HasValue}
use Rattle.definitions.specs.Vectors.{units_in, is_double}
use Rattle.root.specs.Powers.{across_le, across_lt, pow_back, pow_back_le, join, moved_low, moved_high}
use Rattle.root.specs.Scaled.{ScaledBy}

-- ---- what it takes to be a double other than zero
pub record Fitting (m : ℕ) (e : ℤ) : Type 0 where
  pub few : m < 2 ^ 53
  pub deep : down e ≤ 2 ^ 1074
  pub high : m * up e < 2 ^ 1024 * down e

pub fitting : (s : Bool) (m : ℕ) (e : ℤ) → T (fits binary64 (fin s (suc m) e)) → Fitting (suc m) e
unfolding fits
fitting s m e h =
    let A = eqb (suc m % 2) 1 in
    let B = ltb (suc m) (2 ^ 53) in
    let C = leb (down e) (2 ^ 1074) in
    let D = ltb (suc m * up e) (2 ^ 1024 * down e) in
    record {
      few = ltb→lt (suc m) (2 ^ 53) (and_r A B (and_l (A && B) C (and_l (A && B && C) D h)));
      deep = leb→le (down e) (2 ^ 1074) (and_r (A && B) C (and_l (A && B && C) D h));
      high = ltb→lt (suc m * up e) (2 ^ 1024 * down e) (and_r (A && B && C) D h);
    }

-- ---- units
pub units_of : (x : Float) (s : Bool) (a : ℕ) → HasValue x s a (2 ^ 1074) → units_in x ≡ a
unfolding units_in
units_of nan s a v = absurd v
units_of (inf t) s a v = absurd v
units_of (fin t m e) s a v = ap (λ (x : ℕ). x / down e) v.1 ∙ mul-div_cancel a (down_pos e)

-- a double is a number below 2^53, times a power of two, of units
pub record InUnits (x : Float) : Type 0 where
  pub significand : ℕ
  pub exponent : ℕ
  pub few : significand < 2 ^ 53
  pub units : units_in x ≡ significand * 2 ^ exponent

pub nothing_in : (s : Bool) (e : ℤ) → units_in (fin s zero e) ≡ 0
unfolding units_in
nothing_in s e = ap (λ (x : ℕ). x * 2 ^ 1074 / down e) (zero-mul (up e)) ∙ zero-div (down e)

-- the exponents of both kinds, as one of units
pub lifted_up : (s : Bool) (m k : ℕ) → HasValue (fin s m (pos k)) s (m * 2 ^ (k + 1074)) (2 ^ 1074)
lifted_up s m k = (refl, join m k 1074 ∙ sym (mul-one (m * 2 ^ (k + 1074))))

pub lifted_down : (s : Bool) (m k : ℕ) → suc k ≤ 1074
    → HasValue (fin s m (negsuc k)) s (m * 2 ^ (1074 - suc k)) (2 ^ 1074)
lifted_down s m k h =
    let e : 1074 - suc k + suc k ≡ 1074 = omega arith in
    (refl, ap (λ (x : ℕ). x * 2 ^ 1074) (mul-one m) ∙ sym (join m (1074 - suc k) (suc k) ∙ ap (λ (x : ℕ). m * 2 ^ x) e))

pub in_units : (x : Float) → T (is_double x) → InUnits x
unfolding is_double
in_units nan h = absurd h
in_units (inf s) h = absurd h
in_units (fin s zero e) h = record { significand = 0; exponent = 0; few = lit< tt; units = nothing_in s e }
in_units (fin s (suc m) (pos k)) h = record {
  significand = suc m;
  exponent = k + 1074;
  few = (fitting s m (pos k) h).few;
  units = units_of (fin s (suc m) (pos k)) s (suc m * 2 ^ (k + 1074)) (lifted_up s (suc m) k);
}
in_units (fin s (suc m) (negsuc k)) h = record {
  significand = suc m;
  exponent = 1074 - suc k;
  few = (fitting s m (negsuc k) h).few;
  units =
      units_of (fin s (suc m) (negsuc k)) s (suc m * 2 ^ (1074 - suc k))
      (lifted_down s (suc m) k (pow_back_le (suc k) 1074 (fitting s m (negsuc k) h).deep));
}

-- ---- every double above zero is scaled
pub record Scaling (x : Float) : Type 0 where
  pub q : ℕ
  pub w : ℕ
  pub by : ScaledBy x q w
  -- the same in units
  pub units : units_in x * 2 ^ 52 ≡ q * 2 ^ w

module _ (m j : ℕ) (place : j ≤ 52) (from : 2 ^ j ≤ m) (to : m < 2 ^ suc j) where
  abbrev q' : ℕ
  q' = m * 2 ^ (52 - j)

  scaling_up : (k : ℕ) → Fitting m (pos k) → Scaling (fin false m (pos k))
  scaling_up k f =
      let w = k + 1074 + j in
      let a : 52 - j + w ≡ k + 1126 = omega arith in
      let v : m * 2 ^ k * 2 ^ 1126 ≡ q' * 2 ^ w * 1 = join m k 1126 ∙ ap (λ (x : ℕ). m * 2 ^ x) (sym a)
      ∙ sym (join m (52 - j) w) ∙ sym (mul-one (q' * 2 ^ w)) in
      let b : 2 ^ (j + k) < 2 ^ 1024 =
      lt_of_le_of_lt (across_le (pow-add 2 j k) refl (mul-le-mul_right (2 ^ k) from)) (rw mul-one at f.high) in
      let l = pow_back (j + k) 1024 b in
      let u : units_in (fin false m (pos k)) * 2 ^ 52 ≡ q' * 2 ^ w =
      ap (λ (x : ℕ). x * 2 ^ 52) (units_of (fin false m (pos k)) false (m * 2 ^ (k + 1074)) (lifted_up false m k))
      ∙ join m (k + 1074) 52 ∙ ap (λ (x : ℕ). m * 2 ^ x) (omega arith) ∙ sym (join m (52 - j) w) in
      record {
        q = q';
        w = w;
        by = record {
          low = moved_low m j place from to;
          high = moved_high m j place from to;
          reach = omega arith;
          value = (refl, v);
        };
        units = u;
      }

  scaling_down : (k : ℕ) → Fitting m (negsuc k) → Scaling (fin false m (negsuc k))
  scaling_down k f =
      let d : suc k ≤ 1074 = pow_back_le (suc k) 1074 f.deep in
      let w = 1074 - suc k + j in
      let a : 52 - j + w + suc k ≡ 1126 = omega arith in
      let v : m * 1 * 2 ^ 1126 ≡ q' * 2 ^ w * 2 ^ suc k =
      ap (λ (x : ℕ). x * 2 ^ 1126) (mul-one m) ∙ ap (λ (x : ℕ). m * 2 ^ x) (sym a) ∙ sym (join m (52 - j + w) (suc k))
      ∙ ap (λ (x : ℕ). x * 2 ^ suc k) (sym (join m (52 - j) w)) in
      let c : 1074 - suc k + 52 ≡ 52 - j + w = omega arith in
      let u : units_in (fin false m (negsuc k)) * 2 ^ 52 ≡ q' * 2 ^ w =
      ap (λ (x : ℕ). x * 2 ^ 52)
      (units_of (fin false m (negsuc k)) false (m * 2 ^ (1074 - suc k)) (lifted_down false m k d))
      ∙ join m (1074 - suc k) 52 ∙ ap (λ (x : ℕ). m * 2 ^ x) c ∙ sym (join m (52 - j) w) in
      record {
        q = q';
        w = w;
        by = record {
          low = moved_low m j place from to;
          high = moved_high m j place from to;
          reach = omega arith;
          value = (refl, v);
        };
        units = u;
      }

pub scaling : (m : ℕ) (e : ℤ) → T (fits binary64 (fin false (suc m) e)) → Scaling (fin false (suc m) e)
scaling m e h =
    let f = fitting false m e h in
    let found = leading_top 53 (suc m) (zero-lt-suc m) f.few in
    go e f found.0 (omega (arith, found.1)) found.2 found.3
  where
    go : (d : ℤ) → Fitting (suc m) d → (j : ℕ) → j ≤ 52 → 2 ^ j ≤ suc m → suc m < 2 ^ suc j
        → Scaling (fin false (suc m) d)
    go (pos k) f j p a b = scaling_up (suc m) j p a b k f
    go (negsuc k) f j p a b = scaling_down (suc m) j p a b k f

-- ---- from 2^52 × 2^k units on, doubles are multiples of 2^k units
pub gap : (x : Float) (k : ℕ) → InUnits x → 2 ^ 52 * 2 ^ k ≤ units_in x → (c : ℕ) × (units_in x ≡ c * 2 ^ k)
gap x k u h =
    let p = u.significand in
    let j = u.exponent in
    let a : 2 ^ 52 * 2 ^ k ≤ p * 2 ^ j = subst (λ (v : ℕ). 2 ^ 52 * 2 ^ k ≤ v) u.units h in
    let b = mul-lt-mul_of_pos_right u.few (pow_pos j) in
    let l : 52 + k
    < 53 + j = pow_back (52 + k) (53 + j) (across_lt (pow-add 2 52 k) (pow-add 2 53 j) (lt_of_le_of_lt a b)) in
    let e : j - k + k ≡ j = omega arith in
    (p * 2 ^ (j - k), u.units ∙ sym (join p (j - k) k ∙ ap (λ (v : ℕ). p * 2 ^ v) e))
