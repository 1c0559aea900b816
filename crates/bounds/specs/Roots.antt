-- The root of a double that is finite and has the sign +: it is finite, and where the double is at least 4 ^ j the
-- root is at least 2 ^ j (both in units of the smallest double). That it is the nearest double to the root is not
-- needed here. Leans on `round`'s bounds in `laws`, and on the whole root being the largest one.
use Rattle.std.specs.Prelude.{◌≡◌, refl, Bool, true, false, not, cond, ℕ, zero, suc, ◌+◌, ◌-◌, ◌*◌, ◌/◌, ◌%◌, ◌^◌, ◌≤◌}
use Rattle.std.specs.Prelude.{◌<◌, T, leb, eqb, pos, negsuc, Float}
use Rattle.std.proofs.Common.{sym, ap, ◌∙◌, subst, zero-le, suc-le-suc, le_refl, le_trans, le_of_eq, mul-le-mul}
use Rattle.std.proofs.Common.{mul-le-mul_left, mul-le-mul_right, mul-pos, pow-suc, mul-lt-mul_of_pos_right}
use Rattle.std.proofs.Common.{le_of_mul-le-mul_right, arith, leb→le, lit≤, pow_pos, pow_mono, pow-add}
use Rattle.std.proofs.Math.Dec.{nleb→lt}
use Rattle.std.specs.Float.{nan, inf, fin, binary64}
use Rattle.std.specs.Float.Ieee.{fits, up, down}
use Rattle.std.specs.Float.Ieee.Fits.{down_pos}
use Rattle.laws.specs.Floats.{held_digits, held_exponent}
use Rattle.laws.proofs.Rounding.{round_sized}
use Rattle.laws.specs.LowerBounds.{Plus, AtLeast, round_at_least}
use Rattle.definitions.specs.Vectors.{whole_root, twice_root, root_times, square_root, value_of, has_root}
use Rattle.bounds.specs.Sizes.{Double}

-- ---- the whole root

pub whole_root_below : (digits n : ℕ) → whole_root digits n < 2 ^ digits
unfolding whole_root
whole_root_below zero n = lit≤ tt
whole_root_below (suc digits) n =
    let r = whole_root digits (n / 4) in
    go r (whole_root_below digits (n / 4)) (leb (suc (2 * r) * suc (2 * r)) n)
  where
    go : (r : ℕ) → r < 2 ^ digits → (b : Bool) → cond b (suc (2 * r)) (2 * r) < 2 ^ suc digits
    go r h true = let e = pow-suc 2 digits in omega arith
    go r h false = let e = pow-suc 2 digits in omega arith

-- the next whole number is too large
pub whole_root_largest : (digits n : ℕ) → n < 4 ^ digits → n < suc (whole_root digits n) * suc (whole_root digits n)
unfolding whole_root
whole_root_largest zero n h = h
whole_root_largest (suc digits) n h =
    let r = whole_root digits (n / 4) in
    let e = pow-suc 4 digits in
    go r (whole_root_largest digits (n / 4) (omega arith)) (leb (suc (2 * r) * suc (2 * r)) n)
    (nleb→lt (suc (2 * r) * suc (2 * r)) n)
  where
    go : (r : ℕ) → n / 4 < suc r * suc r → (b : Bool) → (T (not b) → n < suc (2 * r) * suc (2 * r))
        → n < suc (cond b (suc (2 * r)) (2 * r)) * suc (cond b (suc (2 * r)) (2 * r))
    go r l true g = omega arith
    go r l false g = g tt

twice_root_at_most : (n r : ℕ) → twice_root n r ≤ 2 * r + 1
unfolding twice_root
twice_root_at_most n r = go (eqb (r * r) n)
  where
    go : (b : Bool) → cond b (2 * r) (2 * r + 1) ≤ 2 * r + 1
    go true = omega arith
    go false = le_refl (2 * r + 1)

twice_root_at_least : (n r : ℕ) → 2 * r ≤ twice_root n r
unfolding twice_root
twice_root_at_least n r = go (eqb (r * r) n)
  where
    go : (b : Bool) → 2 * r ≤ cond b (2 * r) (2 * r + 1)
    go true = le_refl (2 * r)
    go false = omega arith

-- ---- the root is finite

-- twice the root of any number, taken as a whole root of 84 digits, is below 2 ^ 85
root_digits : (n : ℕ) → twice_root n (whole_root 84 n) ≤ 2 ^ 85
root_digits n = let h = twice_root_at_most n (whole_root 84 n) in let l = whole_root_below 84 n in omega arith

root_times_small : (m a b : ℕ) → a ≤ 2 ^ 511 → 0 < b → Double 539 (root_times m a b)
unfolding root_times
root_times_small m a b A B =
    let t = twice_root (m * 2 ^ 112) (whole_root 84 (m * 2 ^ 112)) in
    round_sized binary64 false (t * a) (b * 2 ^ 57) 539 (mul-pos B (pow_pos 57)) (lit≤ tt)
    (le_trans (mul-le-mul (root_digits (m * 2 ^ 112)) A)
    (le_trans (lit≤ tt) (mul-le-mul_left (2 ^ 539) (mul-le-mul_right (2 ^ 57) B))))

nothing : (x y : ℕ) → 0 * x ≤ y
nothing x y = omega arith

pub root_small : (x : Float) → T (fits binary64 x) → Plus x → Double 539 (value_of (square_root x))
unfolding value_of square_root
root_small nan h p = absurd p
root_small (inf s) h p = absurd p
root_small (fin true m e) h p = absurd p
root_small (fin false zero e) h p = record { holds = h; within = nothing (up e) (2 ^ 539 * down e) }
root_small (fin false (suc m) (pos k)) h p =
    let l = held_exponent binary64 false m k h in
    root_times_small (suc m * 2 ^ (k % 2)) (2 ^ (k / 2)) 1 (pow_mono {i = k / 2} {j = 511} (omega arith)) (lit≤ tt)
root_small (fin false (suc m) (negsuc k)) h p =
    root_times_small (suc m * 2 ^ (suc k % 2)) 1 (2 ^ (suc (suc k) / 2)) (lit≤ tt) (pow_pos (suc (suc k) / 2))

-- ---- the root of what is not below a power of four

-- (2 ^ p / 2 ^ q)² ≤ n: the whole root of n is not below 2 ^ p / 2 ^ q, whose whole part is a power of two or nothing
power_below_root : (p q n r : ℕ) → 0 < n → n < suc r * suc r → 2 ^ p * 2 ^ p ≤ n * (2 ^ q * 2 ^ q) → 2 ^ p ≤ r * 2 ^ q
power_below_root p q n r N R h = go (leb p q) (leb→le p q) (nleb→lt p q)
  where
    one_at_least : (s : ℕ) → n < suc s * suc s → 1 ≤ s
    one_at_least zero l = absurd (omega arith)
    one_at_least (suc s) l = omega arith

    whole : (t : ℕ) → 2 ^ p ≡ 2 ^ t * 2 ^ q → 2 ^ t ≤ r
    whole t e = at (leb (2 ^ t) r) (leb→le (2 ^ t) r) (nleb→lt (2 ^ t) r)
      where
        squares : 2 ^ t * 2 ^ t ≤ n
        squares =
            le_of_mul-le-mul_right {k = 2 ^ q * 2 ^ q}
            (le_trans (le_of_eq (regroup (2 ^ t) (2 ^ q))) (subst (λ (z : ℕ). z * z ≤ n * (2 ^ q * 2 ^ q)) e h))
            (mul-pos (pow_pos q) (pow_pos q))
          where
            regroup : (x y : ℕ) → x * x * (y * y) ≡ x * y * (x * y)
            regroup x y = omega arith

        at : (b : Bool) → (T b → 2 ^ t ≤ r) → (T (not b) → r < 2 ^ t) → 2 ^ t ≤ r
        at true y z = y tt
        at false y z = let l = mul-le-mul (z tt) (z tt) in let s = squares in absurd (omega arith)

    go : (b : Bool) → (T b → p ≤ q) → (T (not b) → q < p) → 2 ^ p ≤ r * 2 ^ q
    go true y z = let l = pow_mono (y tt) in let s = mul-le-mul_right (2 ^ q) (one_at_least r R) in omega arith
    go false y z =
        let l = z tt in
        let e : p ≡ p - q + q = omega arith in
        let powers : 2 ^ p ≡ 2 ^ (p - q) * 2 ^ q = ap (λ (x : ℕ). 2 ^ x) e ∙ pow-add 2 (p - q) q in
        le_trans (le_of_eq powers) (mul-le-mul_right (2 ^ q) (whole (p - q) powers))

-- the same for √m × 2 ^ a / 2 ^ b against 2 ^ j / 2 ^ l, with w binary digits behind the point of √m
root_reaches : (m n r twice j a b l w : ℕ) → 0 < m → n ≡ m * (2 ^ w * 2 ^ w) → n < suc r * suc r → 2 * r ≤ twice
    → 2 ^ j * 2 ^ j * (2 ^ b * 2 ^ b) ≤ m * (2 ^ a * 2 ^ a) * (2 ^ l * 2 ^ l)
    → 2 ^ j * (2 ^ b * (2 ^ w * 2)) ≤ twice * 2 ^ a * 2 ^ l
root_reaches m n r twice j a b l w M e R h g =
    let up-power : 2 ^ (j + b + w) ≡ 2 ^ j * 2 ^ b * 2 ^ w = pow-add 2 (j + b) w
    ∙ ap (λ (z : ℕ). z * 2 ^ w) (pow-add 2 j b) in
    let low-power = pow-add 2 a l in
    let reached : 2 ^ (j + b + w) ≤ r * 2 ^ (a + l) =
    power_below_root (j + b + w) (a + l) n r
    (subst (λ (z : ℕ). 0 < z) (sym e) (mul-pos M (mul-pos (pow_pos w) (pow_pos w)))) R
    (subst (λ (z : ℕ). z * z ≤ n * (2 ^ (a + l) * 2 ^ (a + l))) (sym up-power)
    (subst (λ (z : ℕ). 2 ^ j * 2 ^ b * 2 ^ w * (2 ^ j * 2 ^ b * 2 ^ w) ≤ n * (z * z)) (sym low-power)
    (squared (2 ^ j) (2 ^ b) (2 ^ w) (2 ^ a) (2 ^ l) e g))) in
    finish (2 ^ j) (2 ^ b) (2 ^ w) (2 ^ a) (2 ^ l) (subst (λ (z : ℕ). z ≤ r * (2 ^ a * 2 ^ l)) up-power
    (subst (λ (z : ℕ). 2 ^ (j + b + w) ≤ r * z) low-power reached))
  where
    squared : (J B W A L : ℕ) → n ≡ m * (W * W) → J * J * (B * B) ≤ m * (A * A) * (L * L)
        → J * B * W * (J * B * W) ≤ n * (A * L * (A * L))
    squared J B W A L d s =
        let t = mul-le-mul_right (W * W) s in
        let u = ap (λ (z : ℕ). z * (A * L * (A * L))) d in
        omega arith

    finish : (J B W A L : ℕ) → J * B * W ≤ r * (A * L) → J * (B * (W * 2)) ≤ twice * A * L
    finish J B W A L s = let t = mul-le-mul_right (A * L) h in omega arith

-- `root_times` at powers of two, in units of the smallest double
root_times_at_least : (m j a b : ℕ) → 0 < m → m < 2 ^ 54 → a ≤ 511 → j ≤ 2097
    → 2 ^ j * 2 ^ j * (2 ^ b * 2 ^ b) ≤ m * (2 ^ a * 2 ^ a) * (2 ^ 1074 * 2 ^ 1074)
    → AtLeast binary64 j (root_times m (2 ^ a) (2 ^ b))
unfolding root_times
root_times_at_least m j a b M D A J h =
    let n = m * 2 ^ 112 in
    let r = whole_root 84 n in
    let reached : 2 ^ j * (2 ^ b * 2 ^ 57) ≤ twice_root n r * 2 ^ a * 2 ^ 1074 =
    root_reaches m n r (twice_root n r) j a b 1074 56 M refl (whole_root_largest 84 n (few_digits m D))
    (twice_root_at_least n r) h in
    round_at_least binary64 (twice_root n r * 2 ^ a) (2 ^ b * 2 ^ 57) j 539 (mul-pos (pow_pos b) (pow_pos 57)) J
    reached (root_times_small m (2 ^ a) (2 ^ b) (pow_mono A) (pow_pos b)).within
  where
    few_digits : (m : ℕ) → m < 2 ^ 54 → m * 2 ^ 112 < 4 ^ 84
    few_digits m d = le_trans (mul-lt-mul_of_pos_right d (pow_pos 112)) (lit≤ tt)

-- the digits of m, or of 2 m
with_one_more : (m k : ℕ) → suc m < 2 ^ 53 → suc m * 2 ^ (k % 2) < 2 ^ 54
with_one_more m k h = go (k % 2) (omega arith)
  where
    go : (c : ℕ) → c ≤ 1 → suc m * 2 ^ c < 2 ^ 54
    go c l = let s = mul-le-mul_left (suc m) (pow_mono l) in omega arith

-- what is known of x, for x with an exponent that is not negative, and with one that is
even_up : (i j k m l : ℕ) → i + l ≡ j + j → 2 ^ i * 1 ≤ m * 2 ^ k * 2 ^ l
    → 2 ^ j * 2 ^ j * (2 ^ 0 * 2 ^ 0) ≤ m * 2 ^ (k % 2) * (2 ^ (k / 2) * 2 ^ (k / 2)) * (2 ^ l * 2 ^ l)
even_up i j k m l e h =
    let halves : k ≡ k % 2 + (k / 2 + k / 2) = omega arith in
    go (2 ^ i) (2 ^ j) (2 ^ k) (2 ^ l) (2 ^ (k % 2)) (2 ^ (k / 2))
    (sym (pow-add 2 i l) ∙ ap (λ (z : ℕ). 2 ^ z) e ∙ pow-add 2 j j)
    (ap (λ (z : ℕ). 2 ^ z) halves ∙ pow-add 2 (k % 2) (k / 2 + k / 2)
    ∙ ap (λ (z : ℕ). 2 ^ (k % 2) * z) (pow-add 2 (k / 2) (k / 2))) h
  where
    go : (I J K L C H : ℕ) → I * L ≡ J * J → K ≡ C * (H * H) → I * 1 ≤ m * K * L → J * J * 1 ≤ m * C * (H * H) * (L * L)
    go I J K L C H a b c = let s = mul-le-mul_right L c in let u = ap (λ (z : ℕ). m * z * (L * L)) b in omega arith

even_down : (i j k m l : ℕ) → i + l ≡ j + j → 2 ^ i * 2 ^ suc k ≤ m * 1 * 2 ^ l
    → 2 ^ j * 2 ^ j * (2 ^ (suc (suc k) / 2) * 2 ^ (suc (suc k) / 2))
    ≤ m * 2 ^ (suc k % 2) * (2 ^ 0 * 2 ^ 0) * (2 ^ l * 2 ^ l)
even_down i j k m l e h =
    let half = suc (suc k) / 2 in
    let halves : half + half ≡ suc k + suc k % 2 = omega arith in
    go (2 ^ i) (2 ^ j) (2 ^ suc k) (2 ^ l) (2 ^ (suc k % 2)) (2 ^ half)
    (sym (pow-add 2 i l) ∙ ap (λ (z : ℕ). 2 ^ z) e ∙ pow-add 2 j j)
    (sym (pow-add 2 half half) ∙ ap (λ (z : ℕ). 2 ^ z) halves ∙ pow-add 2 (suc k) (suc k % 2)) h
  where
    go : (I J K L C H : ℕ) → I * L ≡ J * J → H * H ≡ K * C → I * K ≤ m * 1 * L → J * J * (H * H) ≤ m * C * 1 * (L * L)
    go I J K L C H a b c =
        let s = mul-le-mul_right (L * C) c in
        let u = ap (λ (z : ℕ). J * J * z) b in
        let v = ap (λ (z : ℕ). z * (K * C)) a in
        omega arith

zero_reaches_nothing : (b p u l : ℕ) → 0 < b → 0 < p → b * p ≤ 0 * u * l → ⊥
zero_reaches_nothing b p u l B P h = let r = mul-pos B P in omega arith

-- 4 ^ j ≤ x: then 2 ^ j ≤ √x. Here i is what 4 ^ j is in units of the smallest double, 2 ^ −1074.
pub root_at_least : (i j : ℕ) (x : Float) → T (fits binary64 x) → i + 1074 ≡ j + j → j ≤ 2097 → AtLeast binary64 i x
    → AtLeast binary64 j (value_of (square_root x))
unfolding value_of square_root
root_at_least i j nan h e J g = absurd g
root_at_least i j (inf s) h e J g = absurd g
root_at_least i j (fin true m d) h e J g = absurd g
root_at_least i j (fin false zero d) h e J g =
    absurd (zero_reaches_nothing (2 ^ i) (down d) (up d) (2 ^ 1074) (pow_pos i) (down_pos d) g)
root_at_least i j (fin false (suc m) (pos k)) h e J g =
    let l = held_exponent binary64 false m k h in
    root_times_at_least (suc m * 2 ^ (k % 2)) j (k / 2) 0 (mul-pos (suc-le-suc zero-le) (pow_pos (k % 2)))
    (with_one_more m k (held_digits binary64 false m (pos k) h)) (omega arith) J (even_up i j k (suc m) 1074 e g)
root_at_least i j (fin false (suc m) (negsuc k)) h e J g =
    root_times_at_least (suc m * 2 ^ (suc k % 2)) j 0 (suc (suc k) / 2)
    (mul-pos (suc-le-suc zero-le) (pow_pos (suc k % 2)))
    (with_one_more m (suc k) (held_digits binary64 false m (negsuc k) h)) zero-le J (even_down i j k (suc m) 1074 e g)

-- ---- hasRoot
pub plus_has_root : (x : Float) → Plus x → has_root x ≡ true
unfolding has_root
plus_has_root nan p = absurd p
plus_has_root (inf s) p = absurd p
plus_has_root (fin true m e) p = absurd p
plus_has_root (fin false zero e) p = refl
plus_has_root (fin false (suc m) e) p = refl
