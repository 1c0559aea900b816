-- The definition's root [3.2], from any whole root that has one binary digit more than a double: its value is half of
-- that root, rounded up, times a power of two. The definition takes 56 digits behind the point of whatever
-- significand it is handed, a program takes 54 in all; the two numbers whose roots they take differ by an even power
-- of two, so one root lies in the other's cell. Assumes nothing.
use Rattle.std.specs.Prelude.{◌≡◌, refl, Bool, not, T, leb, eqb, ℤ, pos, negsuc, Float}
use Rattle.std.proofs.Common.{sym, ap, ◌∙◌, subst, pow-suc, mul-pos, mul-le-mul_right, le_of_mul-le-mul_right}
use Rattle.std.proofs.Common.{lt_of_mul-lt-mul_right, lt_of_lt_of_le, mul-one, zero-mul, add_assoc, leb→le, eqb→eq}
use Rattle.std.proofs.Common.{lit≤, lit<, pow-add, pow_pos}
use Rattle.std.proofs.Math.Bool.{true, false, cond}
use Rattle.std.specs.Prelude.{Some}
use Prim.Native.Nat.{ℕ, zero, suc, ◌+◌, ◌-◌, ◌*◌, ◌/◌, ◌%◌, ◌^◌, ◌≤◌, ◌<◌}
use Rattle.std.proofs.Math.Nat.{mul-lt-mul_of_pos_right}
use native.Mathlib.Omega.{arith}
use Rattle.std.proofs.Math.Dec.{nleb→lt}
use Rattle.std.specs.Float.{nan, inf, fin}
use Rattle.std.specs.Float.Ieee.{binary64, up, down, fits, units, of_bits}
use Rattle.std.specs.Float.Ieee.Fits.{down_pos}
use Rattle.std.specs.Float.Ieee.Bits.{of_bits-fits}
use Rattle.definitions.specs.Vectors.{whole_root, twice_root, root_times, square_root}
use Rattle.laws.specs.Squares.{WholeRoot, root_lt, scaled_low, scaled_high}
use Rattle.root.specs.Powers.{across_le, across_lt, pow_back, join, balance, two_choices}
use Rattle.root.specs.Cell.{cell}
use Rattle.root.specs.Doubles.{fitting}
use Rattle.root.specs.Scaled.{ScaledBy}
use Rattle.root.specs.Pattern.{of_units}

-- ---- the definition's whole root is one
one_more : (n r : ℕ) (b : Bool) → leb (suc (2 * r) * suc (2 * r)) n ≡ b → WholeRoot (n / 4) r
    → WholeRoot n (cond b (suc (2 * r)) (2 * r))
one_more n r true e h =
    let l = leb→le (suc (2 * r) * suc (2 * r)) n (subst T (sym e) tt) in
    record { low = l; high = omega (arith, h.high) }
one_more n r false e h =
    let l = nleb→lt (suc (2 * r) * suc (2 * r)) n (subst (λ (x : Bool). T (not x)) (sym e) tt) in
    record { low = omega (arith, h.low); high = l }

pub whole_root_holds : (digits n : ℕ) → n < 4 ^ digits → WholeRoot n (whole_root digits n)
unfolding whole_root
whole_root_holds zero n h = record { low = omega arith; high = omega arith }
whole_root_holds (suc digits) n h =
    one_more n (whole_root digits (n / 4)) _ refl (whole_root_holds digits (n / 4) (omega (arith, pow-suc 4 digits)))

-- ---- twice the root, as the definition has it, lies in the cell of r: n is N g², and r the whole root of N
module _ (N g n r : ℕ) (gpos : 0 < g) (is : n ≡ N * (g * g)) (even : N % 2 ≡ 0) (root : WholeRoot N r) (R : ℕ)
    (fine : WholeRoot n R) where
  fine' : WholeRoot (N * (g * g)) R
  fine' = subst (λ (x : ℕ). WholeRoot x R) is fine

  twice_low : 2 * r * g ≤ twice_root n R
  unfolding twice_root
  twice_low = go (eqb (R * R) n)
    where
      go : (b : Bool) → 2 * r * g ≤ cond b (2 * R) (2 * R + 1)
      go true = let a = scaled_low N g r R root fine' in omega arith
      go false = let a = scaled_low N g r R root fine' in omega arith

  twice_high : twice_root n R < 2 * suc r * g
  unfolding twice_root
  twice_high = go (eqb (R * R) n)
    where
      go : (b : Bool) → cond b (2 * R) (2 * R + 1) < 2 * suc r * g
      go true = let a = scaled_high N g r R root fine' gpos in omega arith
      go false = let a = scaled_high N g r R root fine' gpos in omega arith

  -- N is even, so the square of an odd r is below it
  odd_below : r % 2 ≡ 1 → r * r < N
  odd_below o =
      let a = root.low in
      let e : r ≡ 2 * (r / 2) + 1 = omega arith in
      let s : r * r ≡ (2 * (r / 2) + 1) * (2 * (r / 2) + 1) = ap (λ (x : ℕ). x * x) e in
      omega arith

  twice_strict : r % 2 ≡ 1 → 2 * r * g < twice_root n R
  unfolding twice_root
  twice_strict o = go (eqb (R * R) n) (eqb→eq (R * R) n)
    where
      go : (b : Bool) → (T b → R * R ≡ n) → 2 * r * g < cond b (2 * R) (2 * R + 1)
      go true h =
          let a = mul-lt-mul_of_pos_right (odd_below o) (mul-pos gpos gpos) in
          let e = h tt in
          let l = root_lt (r * g) R (omega arith) in
          omega arith
      go false h = let a = scaled_low N g r R root fine' in omega arith

-- ---- so the definition's rounding is that of the cell. a / b is the power of two beside the root, and the cell is
-- 2^t units wide
module _ (N g m r : ℕ) (gpos : 0 < g) (is : m * 2 ^ 112 ≡ N * (g * g)) (even : N % 2 ≡ 0) (root : WholeRoot N r)
    (least : 2 ^ 53 ≤ r) (most : r < 2 ^ 54) (small : m < 2 ^ 54)
    (a b t : ℕ) (bpos : 0 < b) (unit : a * 2 ^ 1074 * g ≡ 2 ^ t * b * 2 ^ 56) where
  abbrev n : ℕ
  n = m * 2 ^ 112

  fine : WholeRoot n (whole_root 84 n)
  fine = whole_root_holds 84 n (lt_of_lt_of_le (mul-lt-mul_of_pos_right small (pow_pos 112)) (lit≤ tt))

  abbrev k : ℕ
  k = twice_root n (whole_root 84 n)

  -- both sides of the cell, times g
  over : (x : ℕ) → x * (b * 2 ^ 57 * 2 ^ t) * g ≡ 2 * x * g * (2 ^ t * b * 2 ^ 56)
  over x = omega arith

  mine : k * a * 2 ^ 1074 * g ≡ k * (2 ^ t * b * 2 ^ 56)
  mine = regroup k a (2 ^ 1074) g ∙ ap (λ (z : ℕ). k * z) unit
    where
      regroup : (x y z v : ℕ) → x * y * z * v ≡ x * (y * z * v)
      regroup x y z v = omega arith

  some_width : 0 < 2 ^ t * b * 2 ^ 56
  some_width = mul-pos (mul-pos (pow_pos t) bpos) (pow_pos 56)

  -- so a bound on twice the root is one on the fraction that is rounded
  at_least : (x : ℕ) → 2 * x * g ≤ k → x * (b * 2 ^ 57 * 2 ^ t) ≤ k * a * 2 ^ 1074
  at_least x h = le_of_mul-le-mul_right (across_le (over x) mine (mul-le-mul_right (2 ^ t * b * 2 ^ 56) h)) gpos

  more_than : (x : ℕ) → 2 * x * g < k → x * (b * 2 ^ 57 * 2 ^ t) < k * a * 2 ^ 1074
  more_than x h = lt_of_mul-lt-mul_right g (across_lt (over x) mine (mul-lt-mul_of_pos_right h some_width))

  less_than : (x : ℕ) → k < 2 * x * g → k * a * 2 ^ 1074 < x * (b * 2 ^ 57 * 2 ^ t)
  less_than x h = lt_of_mul-lt-mul_right g (across_lt mine (over x) (mul-lt-mul_of_pos_right h some_width))

  pub root_times_holds : root_times m a b ≡ units binary64 false (suc r / 2) (suc t)
  unfolding root_times
  root_times_holds =
      let R = whole_root 84 n in
      cell binary64 false r t (k * a) (b * 2 ^ 57) (mul-pos bpos (pow_pos 57)) least most
      (at_least r (twice_low N g n r gpos is even root R fine))
      (less_than (suc r) (twice_high N g n r gpos is even root R fine))
      (λ o. more_than r (twice_strict N g n r gpos is even root R fine o))

-- ---- the number whose root is taken: q or 2 q, as the exponent is even or odd
module _ (q w : ℕ) (lo : 2 ^ 52 ≤ q) (hi : q < 2 ^ 53) where
  pub radicand_low : 2 ^ 52 ≤ q * (1 + w % 2)
  radicand_low = go (w % 2)
    where
      go : (x : ℕ) → 2 ^ 52 ≤ q * (1 + x)
      go x = omega arith

  pub radicand_high : q * (1 + w % 2) + 2 ≤ 2 ^ 54
  radicand_high = go (w % 2) (omega arith)
    where
      go : (x : ℕ) → x < 2 → q * (1 + x) + 2 ≤ 2 ^ 54
      go zero h = omega arith
      go (suc zero) h = omega arith
      go (suc (suc x)) h = absurd (omega arith)

  pub root_range : (r : ℕ) → WholeRoot (q * (1 + w % 2) * 2 ^ 54) r → (2 ^ 53 ≤ r) × (r + 2 ≤ 2 ^ 54)
  root_range r root =
      let a = radicand_low in
      let b = radicand_high in
      let l = root_lt (2 ^ 53) (suc r) (omega (arith, root.high)) in
      let h = root_lt r (2 ^ 54 - 1) (omega (arith, root.low)) in
      (omega arith, omega arith)

-- ---- the two ways that the definition goes. q 2^w is the argument in units of 2^-1126, and r the whole root of N
module _ (m q w r : ℕ) (mpos : 0 < m) (small : m < 2 ^ 53) (lo : 2 ^ 52 ≤ q) (hi : q < 2 ^ 53)
    (root : WholeRoot (q * (1 + w % 2) * 2 ^ 54) r) where
  abbrev N : ℕ
  N = q * (1 + w % 2) * 2 ^ 54

  even : N % 2 ≡ 0
  even = omega arith

  -- N g² for g = 2^x
  filled : (x : ℕ) → N * (2 ^ x * 2 ^ x) ≡ q * 2 ^ (w % 2 + 54 + (x + x))
  filled x =
      ap (λ (y : ℕ). q * y * 2 ^ 54 * (2 ^ x * 2 ^ x)) (two_choices w)
      ∙ ap (λ (y : ℕ). y * (2 ^ x * 2 ^ x)) (join q (w % 2) 54)
      ∙ ap (λ (y : ℕ). q * 2 ^ (w % 2 + 54) * y) (sym (pow-add 2 x x))
      ∙ join q (w % 2 + 54) (x + x)

  -- m 2^y is q 2^w, in other units: so the exponents are near each other
  apart : (y z : ℕ) → m * 2 ^ y ≡ q * 2 ^ z → y < 53 + z
  apart y z h =
      pow_back y (53 + z)
      (let a = mul-lt-mul_of_pos_right hi (pow_pos z) in
      let b = pow-add 2 53 z in
      let c = mul-le-mul_right (2 ^ y) mpos in
      let d = mul_one' (2 ^ y) in omega arith)
    where
      mul_one' : (x : ℕ) → 1 * x ≡ x
      mul_one' x = omega arith

  choice_small : (x : ℕ) → m * 2 ^ (x % 2) < 2 ^ 54
  choice_small x = go (x % 2) (omega arith)
    where
      go : (y : ℕ) → y < 2 → m * 2 ^ y < 2 ^ 54
      go zero h = omega arith
      go (suc zero) h = omega arith
      go (suc (suc y)) h = absurd (omega arith)

  -- m 2^k
  pub up_case : (k : ℕ) → m * 2 ^ (k + 1126) ≡ q * 2 ^ w
      → root_times (m * 2 ^ (k % 2)) (2 ^ (k / 2)) 1 ≡ units binary64 false (suc r / 2) (w / 2 + 485)
  up_case k h =
      let near = apart (k + 1126) w h in
      let x = w / 2 - k / 2 - 534 in
      let t = w / 2 + 484 in
      let b = root_range q w lo hi r root in
      let is : m * 2 ^ (k % 2) * 2 ^ 112 ≡ N * (2 ^ x * 2 ^ x) = join m (k % 2) 112
      ∙ balance m q (k + 1126) w (k % 2 + 112) (w % 2 + 54 + (x + x)) h (omega arith) ∙ sym (filled x) in
      let e : k / 2 + 1074 + x ≡ t + 56 = omega arith in
      let unit : 2 ^ (k / 2) * 2 ^ 1074 * 2 ^ x ≡ 2 ^ t * 1 * 2 ^ 56 =
      join (2 ^ (k / 2)) 1074 x ∙ sym (pow-add 2 (k / 2) (1074 + x))
      ∙ ap (λ (y : ℕ). 2 ^ y) (sym (add_assoc (k / 2) 1074 x) ∙ e) ∙ pow-add 2 t 56
      ∙ ap (λ (y : ℕ). y * 2 ^ 56) (sym (mul-one (2 ^ t))) in
      root_times_holds N (2 ^ x) (m * 2 ^ (k % 2)) r (pow_pos x) is even root b.0 (omega arith) (choice_small k)
      (2 ^ (k / 2)) 1 t (omega arith) unit
      ∙ ap (λ (y : ℕ). units binary64 false (suc r / 2) y) (omega arith)

  -- m / 2^k
  pub down_case : (k : ℕ) → m * 2 ^ 1126 ≡ q * 2 ^ (w + k)
      → root_times (m * 2 ^ (k % 2)) 1 (2 ^ (suc k / 2)) ≡ units binary64 false (suc r / 2) (w / 2 + 485)
  down_case k h =
      let near = apart 1126 (w + k) h in
      let j = suc k / 2 in
      let x = w / 2 + j - 534 in
      let t = w / 2 + 484 in
      let b = root_range q w lo hi r root in
      let is : m * 2 ^ (k % 2) * 2 ^ 112 ≡ N * (2 ^ x * 2 ^ x) = join m (k % 2) 112
      ∙ balance m q 1126 (w + k) (k % 2 + 112) (w % 2 + 54 + (x + x)) h (omega arith) ∙ sym (filled x) in
      let e : 1074 + x ≡ t + j + 56 = omega arith in
      let unit : 1 * 2 ^ 1074 * 2 ^ x ≡ 2 ^ t * 2 ^ j * 2 ^ 56 =
      sym (pow-add 2 1074 x) ∙ ap (λ (y : ℕ). 2 ^ y) e ∙ pow-add 2 (t + j) 56
      ∙ ap (λ (y : ℕ). y * 2 ^ 56) (pow-add 2 t j) in
      root_times_holds N (2 ^ x) (m * 2 ^ (k % 2)) r (pow_pos x) is even root b.0 (omega arith) (choice_small k) 1
      (2 ^ j) t (pow_pos j) unit
      ∙ ap (λ (y : ℕ). units binary64 false (suc r / 2) y) (omega arith)

-- ---- the definition's root of q 2^w / 2^1126
pub root_of_scaled : (x : Float) (q w r : ℕ) → T (fits binary64 x) → ScaledBy x q w
    → WholeRoot (q * (1 + w % 2) * 2 ^ 54) r → square_root x ≡ Some (units binary64 false (suc r / 2) (w / 2 + 485))
unfolding square_root
root_of_scaled nan q w r f s root = absurd s.value
root_of_scaled (inf t) q w r f s root = absurd s.value
root_of_scaled (fin t zero e) q w r f s root = absurd (nothing q w e s.low s.value.1)
  where
    nothing : (q' w' : ℕ) (d : ℤ) → 2 ^ 52 ≤ q' → 0 * up d * 2 ^ 1126 ≡ q' * 2 ^ w' * down d → ⊥
    nothing q' w' d l h =
        let p = mul-pos (mul-pos (lt_of_lt_of_le (lit< {m = 0} {n = 2 ^ 52} tt) l) (pow_pos w')) (down_pos d) in
        let z : 0 * up d * 2 ^ 1126 ≡ 0 = ap (λ (x : ℕ). x * 2 ^ 1126) (zero-mul (up d)) in
        omega (arith, sym z ∙ h)
root_of_scaled (fin true (suc m) e) q w r f s root =
    let z : ◌≡◌ {A = Bool} true false = s.value.0 in
    absurd (true_false z)
  where
    true_false : true ≡ false → ⊥
    true_false z = subst T z tt
root_of_scaled (fin false (suc m) (pos k)) q w r f s root =
    ap Some
    (up_case (suc m) q w r (omega arith) (fitting false m (pos k) f).few s.low s.high root k
    (sym (join (suc m) k 1126) ∙ s.value.1 ∙ mul-one (q * 2 ^ w)))
root_of_scaled (fin false (suc m) (negsuc k)) q w r f s root =
    ap Some
    (down_case (suc m) q w r (omega arith) (fitting false m (negsuc k) f).few s.low s.high root (suc k)
    (ap (λ (x : ℕ). x * 2 ^ 1126) (sym (mul-one (suc m))) ∙ s.value.1 ∙ join q w (suc k)))

-- ---- in bits, as the program has it: b is the pattern of half of r, rounded up, and of the exponent
module _ (bits q w r : ℕ) (s : ScaledBy (of_bits binary64 bits) q w)
    (root : WholeRoot (q * (1 + w % 2) * 2 ^ 54) r) where
  half_range : (2 ^ 52 ≤ suc r / 2) × (suc r / 2 < 2 ^ 53)
  half_range = let b = root_range q w s.low s.high r root in (omega arith, omega arith)

  pub root_bits_small : suc r / 2 + (w / 2 + 485) * 2 ^ 52 < 2047 * 2 ^ 52
  root_bits_small = let b = half_range in omega (arith, s.reach)

  pub root_of_bits : (b : ℕ) → b ≡ suc r / 2 + (w / 2 + 485) * 2 ^ 52
      → square_root (of_bits binary64 bits) ≡ Some (of_bits binary64 b)
  root_of_bits b e =
      let h = half_range in
      root_of_scaled (of_bits binary64 bits) q w r (of_bits-fits binary64 bits) s root
      ∙ ap Some (sym (of_units (suc r / 2) (w / 2 + 485) h.0 h.1 (omega (arith, s.reach))))
      ∙ ap (λ (x : ℕ). Some (of_bits binary64 x)) (sym e)
