-- Bit patterns of doubles above zero: the value that a pattern stands for, by its two fields, and the pattern of a
-- value by its significand. Assumes nothing.
use Rattle.std.specs.Prelude.{◌≡◌, refl, Bool, true, cond, ℕ, zero, suc, ◌+◌, ◌-◌, ◌*◌, ◌/◌, ◌%◌, ◌^◌, ◌≤◌, ◌<◌, ltb}
use Rattle.std.specs.Prelude.{eqb, Float}
use Rattle.std.proofs.Common.{sym, ◌∙◌, subst, mul_right_comm, mul_assoc, pow-suc, lt_of_lt_of_le, lt_of_le_of_lt}
use Rattle.std.proofs.Common.{le_of_lt, lt→ltb, eqb→eq, lit≤, pow-add, pow_pos, shl_lt, pow_mono}
use Rattle.std.proofs.Math.Path.{ap}
use Rattle.std.proofs.Math.Bool.{false}
use Rattle.std.proofs.Math.Nat.{mod-eq_of_lt, eq_of_mul-eq-mul_right}
use native.Mathlib.Omega.{arith}
use Rattle.std.proofs.Math.Dec.{leb, not_T}
use Rattle.std.proofs.Math.Arith.{lt→nleb, digits_div, digits_mod}
use Rattle.std.specs.Int.Count.{count_trailing_zeros, count_leading_zeros, under}
use Rattle.std.proofs.lemmas.Nat.{leading_top}
use Rattle.std.specs.Float.{nan, inf, fin}
use Rattle.std.specs.Float.Ieee.{binary64, hid, top, up, down, minus, odd, units, of_fields, of_bits}
use Rattle.std.specs.Float.Ieee.Bits.{is_true, is_false}
use Rattle.std.specs.Float.Ieee.Exact.{HasValue, odd_sign}
use Rattle.root.specs.Powers.{pow_back, all_places, moved_low, moved_high}
use Rattle.root.specs.Scaled.{ScaledBy}

-- ---- from one fraction to another of the same size
pub same_value : (x : Float) (s : Bool) (a c b d : ℕ) → 0 < c → b * c ≡ a * d → HasValue x s a c → HasValue x s b d
same_value nan s a c b d p h v = v
same_value (inf t) s a c b d p h v = v
same_value (fin t m e) s a c b d p h v = (
  v.0,
  eq_of_mul-eq-mul_right c p (m * up e * d) (b * down e)
      (mul_right_comm (m * up e) d c ∙ ap (λ (x : ℕ). x * d) v.1 ∙ mul_right_comm a (down e) d
      ∙ ap (λ (x : ℕ). x * down e) (sym h) ∙ mul_right_comm b c (down e)),
)

-- ---- `odd` looks no further than the digits of its number
zeros_deeper : (d q : ℕ) → 0 < q → q < 2 ^ d → count_trailing_zeros (suc d) q ≡ count_trailing_zeros d q
unfolding count_trailing_zeros
zeros_deeper zero q h k = absurd (omega arith)
zeros_deeper (suc d) q h k = go (q % 2) refl (zeros_deeper d (q / 2))
  where
    go : (r : ℕ) → q % 2 ≡ r
        → (0 < q / 2 → q / 2 < 2 ^ d → count_trailing_zeros (suc d) (q / 2) ≡ count_trailing_zeros d (q / 2))
        → under r (count_trailing_zeros (suc d) (q / 2)) ≡ under r (count_trailing_zeros d (q / 2))
    go zero e deeper = let p = pow-suc 2 d in ap suc (deeper (omega arith) (omega arith))
    go (suc r) e deeper = refl

odd_deeper : (d : ℕ) (s : Bool) (q k l : ℕ) → q < 2 ^ d → odd (suc d) s q k l ≡ odd d s q k l
unfolding odd
odd_deeper d s zero k l h = refl
odd_deeper d s (suc q) k l h =
    ap (λ (t : ℕ). fin s (suc q / 2 ^ t) (minus (k + t) l)) (zeros_deeper d (suc q) (omega arith) h)

-- ---- the fields of a pattern below 2^63
module _ (field digits : ℕ) (small : digits < 2 ^ 52) where
  abbrev pattern : ℕ
  pattern = field * 2 ^ 52 + digits

  by_fields : field < 2048 → of_bits binary64 pattern ≡ of_fields binary64 false field digits
  unfolding of_bits
  by_fields h =
      let l : pattern < top binary64 = omega arith in
      let a : leb (top binary64) pattern
      ≡ false = is_false (leb (top binary64) pattern) (lt→nleb (top binary64) pattern l) in
      let b : pattern % top binary64 ≡ pattern = mod-eq_of_lt l in
      let c : pattern % top binary64 / hid binary64 ≡ field = ap (λ (x : ℕ). x / 2 ^ 52) b ∙ digits_div field small in
      let d : pattern % hid binary64 ≡ digits = digits_mod field small in
      ap (λ (x : Bool). of_fields binary64 x (pattern % top binary64 / hid binary64) (pattern % hid binary64)) a
      ∙ ap (λ (x : ℕ). of_fields binary64 false x (pattern % hid binary64)) c
      ∙ ap (λ (x : ℕ). of_fields binary64 false field x) d

pub of_subnormal : (digits : ℕ) → digits < 2 ^ 52 → of_bits binary64 (0 * 2 ^ 52 + digits) ≡ odd 53 false digits 0 1074
unfolding of_fields
of_subnormal digits h = by_fields 0 digits h (omega arith)

pub of_normal : (k digits : ℕ) → digits < 2 ^ 52 → suc k < 2047
    → of_bits binary64 (suc k * 2 ^ 52 + digits) ≡ odd 53 false (2 ^ 52 + digits) k 1074
unfolding of_fields
of_normal k digits h l =
    let n : eqb (suc k) 2047 ≡ false =
    is_false (eqb (suc k) 2047) (not_T (eqb (suc k) 2047) (λ t. let e = eqb→eq (suc k) 2047 t in omega arith)) in
    by_fields (suc k) digits h (omega arith)
    ∙ ap (λ (x : Bool). cond x (cond (eqb digits 0) (inf false) nan) (odd 53 false (2 ^ 52 + digits) k 1074)) n

-- ---- the pattern of s × 2^k units, for an s of 53 digits: the leading digit adds one to the field
pub of_units : (s k : ℕ) → 2 ^ 52 ≤ s → s < 2 ^ 53 → k < 2045
    → of_bits binary64 (s + k * 2 ^ 52) ≡ units binary64 false s k
unfolding units
of_units s k lo hi l =
    let digits = s - 2 ^ 52 in
    let e : s + k * 2 ^ 52 ≡ suc k * 2 ^ 52 + digits = omega arith in
    let d : 2 ^ 52 + digits ≡ s = omega arith in
    let p : s * 2 ^ k < 2 ^ (53 + k) = shl_lt 53 k hi in
    let b : 53 + k ≤ 2098 = omega arith in
    let m : 2 ^ (53 + k) ≤ 2 ^ 2098 = pow_mono b in
    let t : ltb (s * 2 ^ k) (2 ^ 2098)
    ≡ true = is_true (ltb (s * 2 ^ k) (2 ^ 2098)) (lt→ltb (s * 2 ^ k) (2 ^ 2098) (lt_of_lt_of_le p m)) in
    ap (of_bits binary64) e
    ∙ of_normal k digits (omega arith) (omega arith)
    ∙ ap (λ (x : ℕ). odd 53 false x k 1074) d
    ∙ sym (odd_deeper 53 false s k 1074 hi)
    ∙ sym (ap (λ (b : Bool). cond b (odd 54 false s k 1074) (inf false)) t)

regroup : (q a b c : ℕ) → q * (a * b) * c ≡ q * a * (b * c)
regroup q a b c = omega arith

-- ---- what the program makes of a pattern
pub scaled_normal : (bits w : ℕ) → bits < 2047 * 2 ^ 52 → 0 < bits / 4503599627370496 → w
    ≡ bits / 4503599627370496 + 51 → ScaledBy (of_bits binary64 bits) (4503599627370496 + bits % 4503599627370496) w
scaled_normal bits w h p e = go (bits / 2 ^ 52) refl
  where
    go : (field : ℕ) → bits / 2 ^ 52 ≡ field → ScaledBy (of_bits binary64 bits) (2 ^ 52 + bits % 2 ^ 52) w
    go zero d = absurd (omega arith)
    go (suc k) d =
        let digits = bits % 2 ^ 52 in
        let q = 2 ^ 52 + digits in
        let b : bits ≡ suc k * 2 ^ 52 + digits = omega arith in
        let x : of_bits binary64 bits ≡ odd 53 false q k 1074 = ap (of_bits binary64) b
        ∙ of_normal k digits (omega arith) (omega arith) in
        let l : w ≡ k + 52 = omega arith in
        let n : q * 2 ^ w * 2 ^ 1074 ≡ q * 2 ^ k * 2 ^ 1126 = ap (λ (z : ℕ). q * 2 ^ z * 2 ^ 1074) l
        ∙ ap (λ (z : ℕ). q * z * 2 ^ 1074) (pow-add 2 k 52) ∙ regroup q (2 ^ k) (2 ^ 52) (2 ^ 1074) in
        record {
          low = omega arith;
          high = omega arith;
          reach = omega arith;
          value =
              subst (λ (v : Float). HasValue v false (q * 2 ^ w) (2 ^ 1126)) (sym x)
              (same_value (odd 53 false q k 1074) false (q * 2 ^ k) (2 ^ 1074) (q * 2 ^ w) (2 ^ 1126) (pow_pos 1074) n
              (odd_sign 53 false q k 1074));
        }

-- digits whose leading one stands at place j, moved up to 53 places
module _ (digits j z : ℕ) (counted : z + suc j ≡ 64) (small : digits < 2 ^ 52) (from : 2 ^ j ≤ digits)
    (to : digits < 2 ^ suc j) where
  place : j < 52
  place = pow_back j 52 (lt_of_le_of_lt from small)

  lifted : (x y v : ℕ) → x * y * v ≡ x * 1 * (y * v)
  lifted x y v = omega arith

  moved_value : digits * 2 ^ (52 - j) * 2 ^ j * 2 ^ 1074 ≡ digits * 2 ^ 0 * 2 ^ 1126
  moved_value =
      ap (λ (y : ℕ). y * 2 ^ 1074) (mul_assoc digits (2 ^ (52 - j)) (2 ^ j)
      ∙ ap (λ (y : ℕ). digits * y) (all_places digits j (le_of_lt place) from to))
      ∙ lifted digits (2 ^ 52) (2 ^ 1074)

  moved : ScaledBy (odd 53 false digits 0 1074) (digits * 2 ^ (52 - j)) j
  moved =
      let p = place in
      record {
        low = moved_low digits j (le_of_lt place) from to;
        high = moved_high digits j (le_of_lt place) from to;
        reach = omega arith;
        value =
            same_value (odd 53 false digits 0 1074) false (digits * 2 ^ 0) (2 ^ 1074) (digits * 2 ^ (52 - j) * 2 ^ j)
            (2 ^ 1126) (pow_pos 1074) moved_value (odd_sign 53 false digits 0 1074);
      }

  abbrev pub Moved : ℕ → Float → Type 0
  Moved u x = (11 ≤ z) × (z ≤ 63) × (digits * 2 ^ u < 2 ^ 53) × ScaledBy x (digits * 2 ^ u) (63 - z)

  all_moved : Moved (z - 11) (odd 53 false digits 0 1074)
  all_moved =
      let p = place in
      let w : 63 - z ≡ j = omega arith in
      let u : z - 11 ≡ 52 - j = omega arith in
      (omega arith, omega arith, rw u (moved_high digits j (le_of_lt place) from to), rw (u, w) moved)

-- the leading zeros of the digits, among 64, say how far they move up
pub record MovedUp (bits z : ℕ) : Type 0 where
  pub least : 11 ≤ z
  pub most : z ≤ 63
  pub fits : bits % 4503599627370496 * 2 ^ (z - 11) < 2 ^ 53
  pub scaled : ScaledBy (of_bits binary64 bits) (bits % 4503599627370496 * 2 ^ (z - 11)) (63 - z)

pub scaled_subnormal : (bits : ℕ) → 0 < bits → bits / 4503599627370496 ≡ 0
    → MovedUp bits (count_leading_zeros 64 (bits % 4503599627370496))
scaled_subnormal bits p none =
    let digits = bits % 2 ^ 52 in
    let z = count_leading_zeros 64 digits in
    let e : bits ≡ 0 * 2 ^ 52 + digits = omega arith in
    let small : digits < 2 ^ 52 = omega arith in
    let found = leading_top 64 digits (omega arith) (lt_of_lt_of_le small (lit≤ tt)) in
    let m = all_moved digits found.0 z found.1 small found.2 found.3 in
    let x : of_bits binary64 bits ≡ odd 53 false digits 0 1074 = ap (of_bits binary64) e ∙ of_subnormal digits small in
    record {
      least = m.0;
      most = m.1;
      fits = m.2;
      scaled = subst (λ (v : Float). ScaledBy v (digits * 2 ^ (z - 11)) (63 - z)) (sym x) m.3;
    }
