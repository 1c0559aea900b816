-- The square root [3.2] is IEEE 754's [3.3]: `root_is_ieee`. For every finite double not below zero it gives the
-- nearest double to the root, with the sign of its argument; at a tie, of which there is none but between zeros, the
-- even one; and everything else is refused. The root's value is s 2^k units, where 2 s is the whole root of a number
-- N or next to it, and 4 x is N 4^k squared units: so N lies between the squares of 2 s − 1 and 2 s + 1, and other
-- doubles lie at least 2^k units away. Assumes nothing.
use Rattle.std.specs.Prelude.{◌≡◌, refl, Bool, true, false, not, ℕ, zero, suc, ◌+◌, ◌-◌, ◌*◌, ◌/◌, ◌%◌, ◌^◌, ◌≤◌, ◌<◌}
use Rattle.std.specs.Prelude.{T, leb, ℤ, Float}
use Rattle.std.proofs.Math.Path.{sym, ap}
use Rattle.std.proofs.Common.{◌∙◌, subst, mul-pos, mul-le-mul, mul-le-mul_right, mul-lt-mul_of_pos_right}
use Rattle.std.proofs.Common.{lt_of_lt_of_le, le_of_lt, lt_of_mul-lt-mul_right, leb→le, lit≤, pow-add, pow_pos, shl_lt}
use Rattle.std.proofs.Common.{pow_mono}
use Rattle.std.specs.Prelude.{Some, None}
use native.Mathlib.Omega.{arith}
use Rattle.std.proofs.Math.Dec.{nleb→lt}
use Rattle.std.specs.Float.Ieee.{nan, fits, units}
use Rattle.std.specs.Float.{inf, fin, binary64}
use Rattle.std.specs.Float.Ieee.Bits.{of_bits-fits}
use Rattle.std.specs.Float.Ieee.Exact.{HasValue, units_val}
use Rattle.definitions.specs.Vectors.{square_root, units_in, four_times, sum_squared, is_double, sign_of, has_root}
use Rattle.definitions.specs.Vectors.{NearestRoot, RootIsIeee, whole_root}
use Rattle.laws.specs.Squares.{WholeRoot, square_le}
use Rattle.root.specs.Powers.{across_lt, join, balance, two_choices}
use Rattle.root.specs.Pattern.{of_units}
use Rattle.root.specs.Scaled.{ScaledBy}
use Rattle.root.specs.Doubles.{in_units, units_of, nothing_in, scaling, gap}
use Rattle.root.specs.RootLaw.{whole_root_holds, root_range, radicand_high, root_of_scaled}

-- ---- s is half the whole root r of N, rounded up
module _ (N r : ℕ) (root : WholeRoot N r) (even : N % 2 ≡ 0) (least : 2 ^ 53 ≤ r) where
  abbrev s : ℕ
  s = suc r / 2

  below_next : N < (2 * s + 1) * (2 * s + 1)
  below_next =
      let l : suc r ≤ 2 * s + 1 = omega arith in
      lt_of_lt_of_le root.high (square_le l)

  -- 2 s − 1 is r, where r is odd, and its square is not N, which is even; or it is below r
  above_last : (v : ℕ) → suc v ≡ 2 * s → v * v < N
  above_last v e = go (r % 2) refl
    where
      go : (b : ℕ) → r % 2 ≡ b → v * v < N
      go zero d = let l : suc v ≤ r = omega arith in let a = mul-le-mul l l in omega (arith, root.low)
      go (suc b) d =
          let a : v ≡ r = omega arith in
          let c : v ≡ 2 * (r / 2) + 1 = omega arith in
          let p : v * v ≡ r * r = ap (λ (x : ℕ). x * x) a in
          let o : v * v ≡ (2 * (r / 2) + 1) * (2 * (r / 2) + 1) = ap (λ (x : ℕ). x * x) c in
          omega (arith, root.low)

  -- ---- s units of P, against u, which is that of another double
  module _ (P : ℕ) (Ppos : 0 < P) (u : ℕ) (whole : 2 ^ 52 * P ≤ u → (c : ℕ) × (u ≡ c * P)) where
    pub nearer_than_above : s * P < u → N * (P * P) < (s * P + u) * (s * P + u)
    nearer_than_above h =
        let b : 2 ^ 52 ≤ s = omega arith in
        let a = mul-le-mul_right P b in
        let w = whole (omega arith) in
        let l : s < w.0 = lt_of_mul-lt-mul_right P {m = s} {n = w.0} (subst (λ (x : ℕ). s * P < x) w.1 h) in
        let k = mul-le-mul_right P l in
        let g : (2 * s + 1) * P ≤ s * P + u = omega (arith, w.1) in
        let f = mul-le-mul g g in
        let d = mul-lt-mul_of_pos_right below_next (mul-pos Ppos Ppos) in
        let e : (2 * s + 1) * (2 * s + 1) * (P * P) ≡ (2 * s + 1) * P * ((2 * s + 1) * P) = regroup (2 * s + 1) P in
        omega arith
      where
        regroup : (x y : ℕ) → x * x * (y * y) ≡ x * y * (x * y)
        regroup x y = omega arith

    -- below 2^52 P doubles lie closer together: where s is 2^52, the root is not below s P
    pub nearer_than_below : u < s * P → (s * P + u) * (s * P + u) < N * (P * P)
    nearer_than_below h = go (leb s (2 ^ 52)) (leb→le s (2 ^ 52)) (nleb→lt s (2 ^ 52))
      where
        squared : (x y z : ℕ) → y ≤ x * z → y * y ≤ x * x * (z * z)
        squared x y z l = let a = mul-le-mul l l in omega arith

        lowest : s ≤ 2 ^ 52 → (s * P + u) * (s * P + u) < N * (P * P)
        lowest l =
            let e : 2 * s ≤ r = omega arith in
            let a = mul-le-mul_right P e in
            let b : suc (s * P + u) ≤ r * P = omega arith in
            let c = squared r (suc (s * P + u)) P b in
            let d = mul-le-mul_right (P * P) root.low in
            omega arith

        last : (v : ℕ) → suc v ≡ 2 * s → s * P + u ≤ v * P → (s * P + u) * (s * P + u) < N * (P * P)
        last v e l =
            let a = squared v (s * P + u) P l in
            let b = mul-lt-mul_of_pos_right (above_last v e) (mul-pos Ppos Ppos) in
            omega arith

        -- u is at most s − 1 units of P
        one_less : 2 ^ 52 < s → (t : ℕ) → suc t ≡ s → u ≤ t * P
        one_less l t e = by (leb (2 ^ 52 * P) u) (leb→le (2 ^ 52 * P) u) (nleb→lt (2 ^ 52 * P) u)
          where
            by : (b : Bool) → (T b → 2 ^ 52 * P ≤ u) → (T (not b) → u < 2 ^ 52 * P) → u ≤ t * P
            by true f g =
                let w = whole (f tt) in
                let k : w.0 < s = lt_of_mul-lt-mul_right P {m = w.0} {n = s} (subst (λ (x : ℕ). x < s * P) w.1 h) in
                let i : w.0 ≤ t = omega arith in
                subst (λ (x : ℕ). x ≤ t * P) (sym w.1) (mul-le-mul_right P i)
            by false f g =
                let i : 2 ^ 52 ≤ t = omega arith in
                let a = mul-le-mul_right P i in
                let k = g tt in
                omega arith

        others : 2 ^ 52 < s → (s * P + u) * (s * P + u) < N * (P * P)
        others l =
            let e : suc (s - 1) ≡ s = omega arith in
            let o = one_less l (s - 1) e in
            let a : suc (2 * s - 1) ≡ 2 * s = omega arith in
            let b : s * P + (s - 1) * P ≡ (2 * s - 1) * P = added (s - 1) (2 * s - 1) s P (omega arith) in
            last (2 * s - 1) a (omega arith)
          where
            added : (x y z v : ℕ) → z + x ≡ y → z * v + x * v ≡ y * v
            added x y z v d = let q = ap (λ (i : ℕ). i * v) d in omega arith

        go : (b : Bool) → (T b → s ≤ 2 ^ 52) → (T (not b) → 2 ^ 52 < s) → (s * P + u) * (s * P + u) < N * (P * P)
        go true f g = lowest (f tt)
        go false f g = others (g tt)

-- ---- a double above zero
module _ (x : Float) (q w : ℕ) (holds : T (fits binary64 x)) (by : ScaledBy x q w)
    (in_all : units_in x * 2 ^ 52 ≡ q * 2 ^ w) where
  abbrev N' : ℕ
  N' = q * (1 + w % 2) * 2 ^ 54

  abbrev r' : ℕ
  r' = whole_root 84 N'

  abbrev k' : ℕ
  k' = w / 2 + 485

  is_root : WholeRoot N' r'
  is_root =
      whole_root_holds 84 N' (lt_of_lt_of_le (mul-lt-mul_of_pos_right {n = 2 ^ 54} (let h =
      radicand_high q w by.low by.high in omega arith) (pow_pos 54)) (lit≤ tt))

  range : (2 ^ 53 ≤ r') × (r' + 2 ≤ 2 ^ 54)
  range = root_range q w by.low by.high r' is_root

  is_even : N' % 2 ≡ 0
  is_even = go (q * (1 + w % 2))
    where
      go : (a : ℕ) → a * 2 ^ 54 % 2 ≡ 0
      go a = omega arith

  abbrev s' : ℕ
  s' = suc r' / 2

  abbrev root' : Float
  root' = units binary64 false s' k'

  half_range : (2 ^ 52 ≤ s') × (s' < 2 ^ 53)
  half_range = let b = range in (omega arith, omega arith)

  exponent_range : k' < 2045
  exponent_range = omega (arith, by.reach)

  root_value : HasValue root' false (s' * 2 ^ k') (2 ^ 1074)
  root_value =
      let l : 53 + k' ≤ 2098 = omega (arith, exponent_range) in
      units_val binary64 false s' k' (lt_of_lt_of_le (shl_lt 53 k' half_range.1) (pow_mono l))

  root_units : units_in root' ≡ s' * 2 ^ k'
  root_units = units_of root' false (s' * 2 ^ k') root_value

  root_fits : T (fits binary64 root')
  root_fits =
      subst (λ (v : Float). T (fits binary64 v)) (of_units s' k' half_range.0 half_range.1 exponent_range)
      (of_bits-fits binary64 (s' + k' * 2 ^ 52))

  -- 4 x in squared units
  four : four_times x ≡ N' * (2 ^ k' * 2 ^ k')
  unfolding four_times
  four =
      let a : units_in x * 2 ^ 1076 ≡ q * 2 ^ (w % 2 + 54 + (k' + k')) =
      balance (units_in x) q 52 w 1076 (w % 2 + 54 + (k' + k')) in_all (omega arith) in
      let b : N' * (2 ^ k' * 2 ^ k') ≡ q * 2 ^ (w % 2 + 54 + (k' + k')) =
      ap (λ (y : ℕ). q * y * 2 ^ 54 * (2 ^ k' * 2 ^ k')) (two_choices w)
      ∙ ap (λ (y : ℕ). y * (2 ^ k' * 2 ^ k')) (join q (w % 2) 54)
      ∙ ap (λ (y : ℕ). q * 2 ^ (w % 2 + 54) * y) (sym (pow-add 2 k' k'))
      ∙ join q (w % 2 + 54) (k' + k') in
      regroup (units_in x) (2 ^ 1074) ∙ a ∙ sym b
    where
      regroup : (y z : ℕ) → 4 * y * z ≡ y * (4 * z)
      regroup y z = omega arith

  module _ (y : Float) (double : T (is_double y)) where
    lies : 2 ^ 52 * 2 ^ k' ≤ units_in y → (c : ℕ) × (units_in y ≡ c * 2 ^ k')
    lies = gap y k' (in_units y double)

    sum_is : sum_squared root' y ≡ (s' * 2 ^ k' + units_in y) * (s' * 2 ^ k' + units_in y)
    unfolding sum_squared
    sum_is = ap (λ (z : ℕ). (z + units_in y) * (z + units_in y)) root_units

    above : units_in root' < units_in y → four_times x < sum_squared root' y
    above h =
        let a = nearer_than_above N' r' is_root is_even range.0 (2 ^ k') (pow_pos k') (units_in y) lies
        (subst (λ (z : ℕ). z < units_in y) root_units h) in
        across_lt four sum_is a

    below : units_in y < units_in root' → sum_squared root' y < four_times x
    below h =
        let a = nearer_than_below N' r' is_root is_even range.0 (2 ^ k') (pow_pos k') (units_in y) lies
        (subst (λ (z : ℕ). units_in y < z) root_units h) in
        across_lt sum_is four a

    -- no double lies as far from the root as its value does
    no_tie : (units_in y ≡ units_in root' → ⊥) → sum_squared root' y ≡ four_times x → ⊥
    no_tie n e =
        go (leb (units_in root') (units_in y)) (leb→le (units_in root') (units_in y))
        (nleb→lt (units_in root') (units_in y))
      where
        go : (b : Bool) → (T b → units_in root' ≤ units_in y) → (T (not b) → units_in y < units_in root') → ⊥
        go true f g = let l = f tt in let h = above (omega arith) in omega arith
        go false f g = let h = below (g tt) in omega arith

  -- what a value says of the float that has it
  double_of : (v : Float) (a c : ℕ) → HasValue v false a c → T (fits binary64 v) → T (is_double v)
  unfolding is_double
  double_of nan a c h f = absurd h
  double_of (inf t) a c h f = absurd h
  double_of (fin t m e) a c h f = f

  sign_of_holds : (v : Float) (a c : ℕ) → HasValue v false a c → sign_of v ≡ false
  unfolding sign_of
  sign_of_holds nan a c h = absurd h
  sign_of_holds (inf t) a c h = absurd h
  sign_of_holds (fin t m e) a c h = h.0

  nearest : NearestRoot x root'
  nearest = record {
    double = double_of root' (s' * 2 ^ k') (2 ^ 1074) root_value root_fits;
    sign =
        sign_of_holds root' (s' * 2 ^ k') (2 ^ 1074) root_value
        ∙ sym (sign_of_holds x (q * 2 ^ w) (2 ^ 1126) by.value);
    none_above = λ y d p h. le_of_lt (above y d h);
    none_below = λ y d p h. le_of_lt (below y d h);
    even_at_tie = λ y d p n e. absurd (no_tie y d n e);
  }

  pub with_root : (v : Float) × (square_root x ≡ Some v) × NearestRoot x v
  with_root = (root', root_of_scaled x q w r' holds by is_root, nearest)

-- ---- a zero is its own root
module _ (s : Bool) (e : ℤ) (double : T (is_double (fin s zero e))) where
  own_square : (y : Float) → sum_squared (fin s zero e) y ≡ units_in y * units_in y
  unfolding sum_squared
  own_square y = let z = nothing_in s e in ap (λ (u : ℕ). (u + units_in y) * (u + units_in y)) z ∙ omega arith

  no_four : four_times (fin s zero e) ≡ 0
  unfolding four_times
  no_four = ap (λ (u : ℕ). 4 * u * 2 ^ 1074) (nothing_in s e)

  pub zero_nearest : NearestRoot (fin s zero e) (fin s zero e)
  zero_nearest = record {
    double = double;
    sign = refl;
    none_above = λ y d p h. omega (arith, no_four);
    none_below = λ y d p h. absurd (omega (arith, nothing_in s e));
    even_at_tie = λ y d p n t. absurd (apart y n (sym (own_square y) ∙ t ∙ no_four));
  }
    where
      apart : (y : Float) → (units_in y ≡ units_in (fin s zero e) → ⊥) → units_in y * units_in y ≡ 0 → ⊥
      apart y n h =
          let z = nothing_in s e in
          let l : 0 < units_in y = omega arith in
          let a = mul-pos l l in
          omega arith

-- ---- the theorem
true_false : {A : Type 0} → true ≡ false → A
true_false e = absurd (subst T e tt)

rooted : (x : Float) → T (is_double x) → has_root x ≡ true → (r : Float) × (square_root x ≡ Some r) × NearestRoot x r
unfolding has_root is_double square_root
rooted nan d h = absurd d
rooted (inf s) d h = absurd d
rooted (fin s zero e) d h = (fin s zero e, refl, zero_nearest s e d)
rooted (fin true (suc m) e) d h = true_false (sym h)
rooted (fin false (suc m) e) d h = let c = scaling m e d in with_root (fin false (suc m) e) c.q c.w d c.by c.units

refused : (x : Float) → has_root x ≡ false → square_root x ≡ None
unfolding has_root square_root
refused nan h = refl
refused (inf s) h = refl
refused (fin s zero e) h = true_false h
refused (fin true (suc m) e) h = refl
refused (fin false (suc m) e) h = true_false h

pub root_is_ieee : RootIsIeee
root_is_ieee = record { value = rooted; refusal = refused }
