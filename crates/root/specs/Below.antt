-- Where the square alone tells whether a root lies below a tolerance. What exceeds a tolerance of at most 1 has no
-- root below it: `exceeds_tolerance`. What is below 2^-62 has a root of at most 2^-31, which lies below every
-- tolerance from 2^-30 on: `far_below_tolerance`. Both are read off from what IEEE 754 says of the root
-- (`NearestRoot`), where the tolerance, or 2^-31, is the other double. Leans on Ieee and Doubles. Assumes nothing.
use Rattle.std.specs.Prelude.{◌≡◌, Bool, not, ℕ, zero, suc, ◌+◌, ◌*◌, ◌^◌, ◌≤◌, ◌<◌, ltb, eqb, ℤ, pos, negsuc, Float}
use Rattle.std.proofs.Math.Path.{refl, ap, subst}
use Rattle.std.proofs.Common.{sym, ◌∙◌, mul-pos, mul-le-mul, mul-le-mul_right, mul-lt-mul_of_pos_right}
use Rattle.std.proofs.Common.{lt_of_mul-lt-mul_right, le_of_mul-le-mul_right, zero-mul, zero-lt-suc, arith, ltb→lt}
use Rattle.std.proofs.Common.{lt→ltb, nltb→le, eqb→eq, pow-add, pow_pos}
use Rattle.std.proofs.Math.Bool.{true, false}
use Rattle.std.specs.Prelude.{Some}
use Rattle.std.proofs.Math.Nat.{le_trans}
use Rattle.std.proofs.Math.Dec.{T, leb-suc-zero}
use Rattle.std.specs.Float.{nan, inf, fin, binary64}
use Rattle.std.specs.Float.Ieee.{up, down, fits, of_bits, lt, le}
use Rattle.std.specs.Float.Ieee.Fits.{up_pos, down_pos, and_l, and_r}
use Rattle.definitions.specs.Vectors.{square_root, value_of, zero64, units_in, four_times, sum_squared, is_double}
use Rattle.definitions.specs.Vectors.{sign_of, has_root, NearestRoot}
use Rattle.definitions.specs.Job.{least_tolerance}
use Rattle.laws.specs.Bools.{holds→true, true→holds}
use Rattle.laws.specs.Floats.{not_above}
use Rattle.root.specs.Powers.{pow_back_le}
use Rattle.root.specs.Doubles.{fitting, units_of, nothing_in, lifted_up, lifted_down}
use Rattle.root.specs.Ieee.{root_is_ieee}

-- ---- doubles with the sign + are ordered as their units are

-- a double is a whole number of units
in_full : (s : Bool) (m : ℕ) (e : ℤ) → T (is_double (fin s m e)) → m * up e * 2 ^ 1074 ≡ units_in (fin s m e) * down e
unfolding is_double
in_full s zero e h =
    ap (λ (x : ℕ). x * 2 ^ 1074) (zero-mul (up e))
    ∙ sym (ap (λ (x : ℕ). x * down e) (nothing_in s e) ∙ zero-mul (down e))
in_full s (suc m) (pos k) h =
    let v = lifted_up s (suc m) k in
    v.1 ∙ ap (λ (x : ℕ). x * 1) (sym (units_of (fin s (suc m) (pos k)) s _ v))
in_full s (suc m) (negsuc k) h =
    let v = lifted_down s (suc m) k (pow_back_le (suc k) 1074 (fitting s m (negsuc k) h).deep) in
    v.1 ∙ ap (λ (x : ℕ). x * 2 ^ suc k) (sym (units_of (fin s (suc m) (negsuc k)) s _ v))

-- x / p and y / q, which are a and b units of 1 / l
module _ (x p a y q b l : ℕ) (some-p : 0 < p) (some-q : 0 < q) (some-l : 0 < l) (first : x * l ≡ a * p)
    (second : y * l ≡ b * q) where
  first_over : x * q * l ≡ a * (p * q)
  first_over = let e = ap (λ (z : ℕ). z * q) first in omega arith

  second_over : y * p * l ≡ b * (p * q)
  second_over = let e = ap (λ (z : ℕ). z * p) second in omega arith

  units_lt : x * q < y * p → a < b
  units_lt h =
      let c = mul-lt-mul_of_pos_right h some-l in
      lt_of_mul-lt-mul_right (p * q) {m = a} {n = b} (omega (arith, first_over, second_over))

  units_le : x * q ≤ y * p → a ≤ b
  units_le h =
      let c = mul-le-mul_right l h in
      le_of_mul-le-mul_right {m = a} {n = b} (omega (arith, first_over, second_over)) (mul-pos some-p some-q)

module _ (m : ℕ) (e : ℤ) (double : T (is_double (fin false m e))) (n : ℕ) (d : ℤ)
    (other : T (is_double (fin false n d))) where
  less : T (lt (fin false m e) (fin false n d)) → units_in (fin false m e) < units_in (fin false n d)
  unfolding lt
  less h =
      units_lt (m * up e) (down e) _ (n * up d) (down d) _ (2 ^ 1074) (down_pos e) (down_pos d) (pow_pos 1074)
      (in_full false m e double) (in_full false n d other)
      (ltb→lt (m * up e * down d) (n * up d * down e) h)

  in_order_holds : m * up e * down d ≤ n * up d * down e → units_in (fin false m e) ≤ units_in (fin false n d)
  in_order_holds =
      units_le (m * up e) (down e) _ (n * up d) (down d) _ (2 ^ 1074) (down_pos e) (down_pos d) (pow_pos 1074)
      (in_full false m e double) (in_full false n d other)

  not_more : T (le (fin false m e) (fin false n d)) → units_in (fin false m e) ≤ units_in (fin false n d)
  unfolding le
  not_more h = in_order_holds (not_above (m * up e * down d) (n * up d * down e) h)

  not_less : lt (fin false n d) (fin false m e) ≡ false → units_in (fin false m e) ≤ units_in (fin false n d)
  unfolding lt
  not_less h =
      in_order_holds (nltb→le (n * up d * down e) (m * up e * down d) (subst (λ (b : Bool). T (not b)) (sym h) tt))

-- ---- the root of a double above zero has the sign +
record RootAbove (x : Float) : Type 0 where
  m : ℕ
  e : ℤ
  is : value_of (square_root x) ≡ fin false m e
  nearest : NearestRoot x (fin false m e)

root_above : (m : ℕ) (e : ℤ) → T (is_double (fin false (suc m) e)) → RootAbove (fin false (suc m) e)
unfolding has_root is_double sign_of value_of
root_above m e d = let found = root_is_ieee.value (fin false (suc m) e) d refl in go found.0 found.1 found.2
  where
    go : (r : Float) → square_root (fin false (suc m) e) ≡ Some r → NearestRoot (fin false (suc m) e) r
        → RootAbove (fin false (suc m) e)
    go nan i n = absurd n.double
    go (inf s) i n = absurd n.double
    go (fin true a b) i n = absurd (subst T n.sign tt)
    go (fin false a b) i n = record { m = a; e = b; is = ap value_of i; nearest = n }

-- ---- what exceeds a tolerance of at most 1
abbrev pub one : Float
one = of_bits binary64 0x3ff0000000000000

one_units : units_in one ≡ 2 ^ 1074
unfolding of_bits
one_units = units_of (fin false 1 (pos 0)) false (2 ^ 1074) (refl, refl)

one_double : T (is_double one)
unfolding of_bits is_double fits
one_double = tt

-- In units, of which 1 is l: where r < t ≤ 1 and t < x, the middle of r and t is below t, and so its square below t,
-- and below x. So r is not the root of x.
middle_too_low : (r t x l : ℕ) → r < t → t ≤ l → t < x → 4 * x * l ≤ (r + t) * (r + t) → ⊥
middle_too_low r t x l a b c h =
    let p : suc (r + t) ≤ t + t = omega arith in
    let q = mul-le-mul p p in
    let u = mul-le-mul_right t b in
    let v = mul-le-mul_right l c in
    omega arith

module _ (m : ℕ) (e : ℤ) (double : T (is_double (fin false (suc m) e))) (n : ℕ) (d : ℤ)
    (other : T (is_double (fin false n d))) where
  abbrev square : Float
  square = fin false (suc m) e

  abbrev tolerance : Float
  tolerance = fin false n d

  not_below_holds : T (le tolerance one) → T (lt tolerance square)
      → lt (value_of (square_root square)) tolerance ≡ false
  unfolding of_bits four_times sum_squared sign_of
  not_below_holds low h =
      let r = root_above m e double in
      ap (λ (y : Float). lt y tolerance) r.is ∙ go r.m r.e r.nearest _ refl
    where
      go : (a : ℕ) (b : ℤ) → NearestRoot square (fin false a b) → (c : Bool) → lt (fin false a b) tolerance ≡ c
          → c ≡ false
      go a b near false g = refl
      go a b near true g =
          let l = less a b near.double n d other (true→holds g) in
          let s : units_in tolerance ≤ 2 ^ 1074 =
          subst (λ (z : ℕ). units_in tolerance ≤ z) one_units (not_more n d other 1 (pos 0) one_double low) in
          absurd (middle_too_low (units_in (fin false a b)) (units_in tolerance) (units_in square) (2 ^ 1074) l s
          (less n d other (suc m) e double h) (near.none_above tolerance other refl l))

zero_times : (a b : ℕ) → 0 * a * b ≡ 0
zero_times a b = omega arith

not_below_zero : (b a c : ℕ) → ltb b (0 * a * c) ≡ false
not_below_zero b a c = ap (λ (z : ℕ). ltb b z) (zero_times a c) ∙ leb-suc-zero b

-- a zero is its own root, and does not lie below what it exceeds
zero_not_below : (s : Bool) (e : ℤ) (t : Float) → T (lt t (fin s zero e)) → lt (fin s zero e) t ≡ false
unfolding lt
zero_not_below s e nan h = refl
zero_not_below s e (inf true) h = refl
zero_not_below s e (inf false) h = absurd h
zero_not_below true e (fin true n d) h = not_below_zero (n * up d * down e) (up e) (down d)
zero_not_below false e (fin true n d) h = refl
zero_not_below true e (fin false n d) h = absurd h
zero_not_below false e (fin false n d) h = absurd (subst T (not_below_zero (n * up d * down e) (up e) (down d)) h)

root_not_below : (x t : Float) → T (fits binary64 x) → T (fits binary64 t) → T (le t one) → T (lt t x)
    → lt (value_of (square_root x)) t ≡ false
unfolding square_root value_of lt le is_double of_bits
root_not_below nan t f g low h = refl
root_not_below (inf s) t f g low h = refl
root_not_below (fin s zero e) t f g low h = zero_not_below s e t h
root_not_below (fin true (suc m) e) t f g low h = refl
root_not_below (fin false (suc m) e) nan f g low h = absurd low
root_not_below (fin false (suc m) e) (inf false) f g low h = absurd low
root_not_below (fin false (suc m) e) (inf true) f g low h = ap (λ (y : Float). lt y (inf true)) (root_above m e f).is
root_not_below (fin false (suc m) e) (fin true n d) f g low h =
    ap (λ (y : Float). lt y (fin true n d)) (root_above m e f).is
root_not_below (fin false (suc m) e) (fin false n d) f g low h = not_below_holds m e f n d g low h

-- ---- what is below 2^-62, against a tolerance of at least 2^-30
abbrev pub least : Float
least = of_bits binary64 0x3e10000000000000

abbrev pub tiny : Float
tiny = of_bits binary64 0x3c10000000000000

-- no tolerance of a job is below the least of these
billionth_covered : T (le least least_tolerance)
unfolding le of_bits
billionth_covered = tt

-- 2^-31: half of the least tolerance, and the root of 2^-62
abbrev half : Float
half = fin false 1 (negsuc 30)

least_units : units_in least ≡ 2 ^ 1044
unfolding of_bits
least_units = units_of (fin false 1 (negsuc 29)) false (2 ^ 1044) (refl, refl)

tiny_units : units_in tiny ≡ 2 ^ 1012
unfolding of_bits
tiny_units = units_of (fin false 1 (negsuc 61)) false (2 ^ 1012) (refl, refl)

half_units : units_in half ≡ 2 ^ 1043
half_units = units_of half false (2 ^ 1043) (refl, refl)

least_double : T (is_double least)
unfolding of_bits is_double fits
least_double = tt

tiny_double : T (is_double tiny)
unfolding of_bits is_double fits
tiny_double = tt

half_double : T (is_double half)
unfolding is_double fits
half_double = tt

twice_half : units_in least ≡ units_in half + units_in half
twice_half = least_units ∙ sym (ap (λ (z : ℕ). z + z) half_units)

half_squared : 2 ^ 1012 * 2 ^ 1074 ≡ units_in half * units_in half
half_squared = sym (ap (λ (z : ℕ). z * z) half_units ∙ sym (pow-add 2 1043 1043) ∙ pow-add 2 1012 1074)

some_half : 0 < units_in half
some_half = subst (λ (z : ℕ). 0 < z) (sym half_units) (pow_pos 1043)

above_half : (u r : ℕ) → 0 < u → u + u ≤ r → u < r
above_half u r a b = omega arith

-- In units, of which 1 is l: where x is below s, the square of u, and r is at least 2 u, the middle of r and u is
-- above u, and so its square above x. So r is not the root of x.
middle_too_high : (r u x s l : ℕ) → 0 < l → s * l ≡ u * u → x < s → u + u ≤ r → (r + u) * (r + u) ≤ 4 * x * l → ⊥
middle_too_high r u x s l p e a b h =
    let q : u + u ≤ r + u = omega arith in
    let v = mul-le-mul q q in
    let w = mul-le-mul_right l a in
    omega arith

module _ (m : ℕ) (e : ℤ) (double : T (is_double (fin false (suc m) e))) (n : ℕ) (d : ℤ)
    (other : T (is_double (fin false n d))) where
  abbrev square' : Float
  square' = fin false (suc m) e

  abbrev tolerance' : Float
  tolerance' = fin false n d

  below : T (le least tolerance') → T (lt square' tiny) → lt (value_of (square_root square')) tolerance' ≡ true
  unfolding of_bits four_times sum_squared sign_of
  below low h = let r = root_above m e double in ap (λ (y : Float). lt y tolerance') r.is ∙ go r.m r.e r.nearest _ refl
    where
      go : (a : ℕ) (b : ℤ) → NearestRoot square' (fin false a b) → (c : Bool) → lt (fin false a b) tolerance' ≡ c
          → c ≡ true
      go a b near true g = refl
      go a b near false g =
          let root = units_in (fin false a b) in
          let over =
          le_trans (not_more 1 (negsuc 29) least_double n d other low) (not_less n d other a b near.double g) in
          let twice : units_in half + units_in half ≤ root = subst (λ (z : ℕ). z ≤ root) twice_half over in
          let under : units_in square' < 2 ^ 1012 =
          subst (λ (z : ℕ). units_in square' < z) tiny_units (less (suc m) e double 1 (negsuc 61) tiny_double h) in
          absurd
          (middle_too_high root (units_in half) (units_in square') (2 ^ 1012) (2 ^ 1074)
          (pow_pos 1074) half_squared under twice
          (near.none_below half half_double refl (above_half (units_in half) root some_half twice)))

-- a tolerance has the sign +, if it is the least one or more
least_has_plus : (n : ℕ) (d : ℤ) → T (le least (fin true n d)) → ⊥
unfolding le of_bits
least_has_plus n d h =
    none (down d) (down_pos d)
    (eqb→eq (1 * 1 * down d) 0 (and_r (eqb (1 * 1 * down d) (n * up d * 2 ^ 30)) (eqb (1 * 1 * down d) 0) h))
  where
    none : (y : ℕ) → 0 < y → 1 * 1 * y ≡ 0 → ⊥
    none y p e = omega arith

-- and is no zero
least_above_zero : (d : ℤ) → T (is_double (fin false zero d)) → T (le least (fin false zero d)) → ⊥
unfolding of_bits
least_above_zero d g low =
    none (units_in least) (units_in (fin false zero d)) (not_more 1 (negsuc 29) least_double zero d g low)
    (subst (λ (z : ℕ). 0 < z) (sym least_units) (pow_pos 1044)) (nothing_in false d)
  where
    none : (y z : ℕ) → y ≤ z → 0 < y → z ≡ 0 → ⊥
    none y z l p i = omega arith

-- a zero of either sign lies below it
zero_below : (s : Bool) (e : ℤ) (t : Float) → T (fits binary64 t) → T (le least t) → lt (fin s zero e) t ≡ true
unfolding lt le of_bits is_double
zero_below s e nan g low = absurd low
zero_below s e (inf true) g low = absurd low
zero_below s e (inf false) g low = refl
zero_below s e (fin true n d) g low = absurd (least_has_plus n d low)
zero_below s e (fin false zero d) g low = absurd (least_above_zero d g low)
zero_below true e (fin false (suc n) d) g low =
    holds→true _ (lt→ltb 0 (0 * up e * down d + suc n * up d * down e)
    (sum_above (up e) (down d) (suc n * up d * down e) (mul-pos (mul-pos (zero-lt-suc n) (up_pos d)) (down_pos e))))
  where
    sum_above : (a b c : ℕ) → 0 < c → 0 < 0 * a * b + c
    sum_above a b c p = omega arith
zero_below false e (fin false (suc n) d) g low =
    holds→true _ (lt→ltb (0 * up e * down d) (suc n * up d * down e) (nothing_below (up e) (down d)
    (suc n * up d * down e) (mul-pos (mul-pos (zero-lt-suc n) (up_pos d)) (down_pos e))))
  where
    nothing_below : (a b c : ℕ) → 0 < c → 0 * a * b < c
    nothing_below a b c p = omega arith

-- +0 exceeds every number below zero
zero_above_negative : (m : ℕ) (e : ℤ) → T (le zero64 (fin true (suc m) e)) → ⊥
unfolding le of_bits
zero_above_negative m e h =
    none (down e) (suc m * up e) (mul-pos (zero-lt-suc m) (up_pos e)) (eqb→eq (0 * 1 * down e) (suc m * up e * 1)
    (and_l (eqb (0 * 1 * down e) (suc m * up e * 1)) (eqb (0 * 1 * down e) 0) h))
  where
    none : (y z : ℕ) → 0 < z → 0 * 1 * y ≡ z * 1 → ⊥
    none y z p i = omega arith

tiny_root_below : (x t : Float) → T (fits binary64 x) → T (fits binary64 t) → T (le least t) → T (le zero64 x)
    → T (lt x tiny) → lt (value_of (square_root x)) t ≡ true
unfolding square_root value_of lt le is_double of_bits
tiny_root_below nan t f g low z h = absurd z
tiny_root_below (inf true) t f g low z h = absurd z
tiny_root_below (inf false) t f g low z h = absurd h
tiny_root_below (fin s zero e) t f g low z h = zero_below s e t g low
tiny_root_below (fin true (suc m) e) t f g low z h = absurd (zero_above_negative m e z)
tiny_root_below (fin false (suc m) e) nan f g low z h = absurd low
tiny_root_below (fin false (suc m) e) (inf true) f g low z h = absurd low
tiny_root_below (fin false (suc m) e) (inf false) f g low z h =
    ap (λ (y : Float). lt y (inf false)) (root_above m e f).is
tiny_root_below (fin false (suc m) e) (fin true n d) f g low z h = absurd (least_has_plus n d low)
tiny_root_below (fin false (suc m) e) (fin false n d) f g low z h = below m e f n d g low h

-- ---- as the program asks
module _ (x t : Float) (holds : fits binary64 x ≡ true) (too : fits binary64 t ≡ true) where
  pub exceeds_tolerance : le t one ≡ true → lt t x ≡ true → false ≡ lt (value_of (square_root x)) t
  exceeds_tolerance low h = sym (root_not_below x t (true→holds holds) (true→holds too) (true→holds low) (true→holds h))

  pub far_below_tolerance : le least t ≡ true → le zero64 x ≡ true → lt x tiny ≡ true
      → true ≡ lt (value_of (square_root x)) t
  far_below_tolerance low z h =
      sym (tiny_root_below x t (true→holds holds) (true→holds too) (true→holds low) (true→holds z) (true→holds h))
