-- The steps from a start to the whole root, on plain numbers. Leans on Start. Assumes nothing.
use Rattle.std.specs.Prelude.{◌≡◌, ℕ, suc, ◌+◌, ◌-◌, ◌*◌, ◌/◌, ◌%◌, ◌^◌, ◌≤◌, ◌<◌}
use Rattle.std.proofs.Common.{sym, subst, mul-le-mul, mul-le-mul_right, div-add-mod', mod-lt, div-mul-le_self}
use Rattle.std.proofs.Common.{div-lt_iff_lt-mul, arith}
use Rattle.laws.specs.Squares.{WholeRoot, le_by, root_lt, step_above, step_near}
use Rattle.root.specs.Start.{Start}

-- y is the whole root of m or above it, and its square passes m by little: of an m from 2^60 on, y has 17 binary
-- digits of the root
pub record Close (m y : ℕ) : Type 0 where
  pub above : m < suc y * suc y
  pub near : y * y ≤ m + 2 ^ 44

-- ---- the first step, from a start s of i to z, where i stands for the leading digits of n: s × 2^15 and the
-- quotient c are at most 2^23 apart
module _ (n i s c z : ℕ) (lo : i * 2 ^ 44 ≤ n) (hi : n < suc i * 2 ^ 44) (rule : Start i s) (under : c * s * 128 ≤ n)
    (over : n < suc c * s * 128) (half : 2 * z ≤ s * 2 ^ 15 + c) (half' : s * 2 ^ 15 + c ≤ 2 * z + 1) where
  start_high : s * 2 ^ 15 ≤ c + 2 ^ 23
  start_high =
      le_by (s * 2 ^ 15) (c + 2 ^ 23)
      (λ (l : c + 2 ^ 23 < s * 2 ^ 15).
      let a = mul-le-mul_right s l in omega (arith, rule.low))

  start_low : c ≤ s * 2 ^ 15 + 2 ^ 23
  start_low =
      le_by c (s * 2 ^ 15 + 2 ^ 23)
      (λ (l : s * 2 ^ 15 + 2 ^ 23 < c).
      let a = mul-le-mul_right s l in omega (arith, rule.high))

  pub first_close : Close (n * 2 ^ 8) z
  first_close = record {
    above = step_above (n * 2 ^ 8) (s * 2 ^ 15) c z (omega arith) half';
    near =
        let a = step_near (n * 2 ^ 8) (s * 2 ^ 15) c z (2 ^ 23) (omega arith) half start_high start_low in
        omega arith;
  }

-- as the program has it
module _ (n s : ℕ) (large : 2 ^ 52 ≤ n) (small : n < 2 ^ 54) (rule : Start (n / 17592186044416) s) where
  pub start_range : (2 ^ 14 ≤ s) × (s < 2 ^ 17)
  start_range = (
    le_by (2 ^ 14) s (λ (l : s < 2 ^ 14). let a = mul-le-mul l l in omega (arith, rule.high)),
    le_by (suc s) (2 ^ 17) (λ (l : 2 ^ 17 < suc s). let k : 2 ^ 17 ≤ s = omega arith in
        let a = mul-le-mul_right s k in omega (arith, rule.low)),
  )

  pub quotient_small : n / 128 / s < 2 ^ 33
  quotient_small =
      let r = start_range in
      let p : 0 < s = omega arith in
      (div-lt_iff_lt-mul p).1 (omega arith)

  pub first_step : (z : ℕ) → 2 * z ≤ s * 32768 + n / 128 / s → s * 32768 + n / 128 / s ≤ 2 * z + 1 → Close (n * 2 ^ 8) z
  first_step z half half' =
      let r = start_range in
      let d = div-add-mod' (n / 128) s in
      let p : 0 < s = omega arith in
      let l = mod-lt (n / 128) p in
      first_close n (n / 17592186044416) s (n / 128 / s) z (omega arith) (omega arith) rule (omega arith)
      (omega arith) half half'

-- ---- the second step
module _ (m y c z : ℕ) (large : 2 ^ 60 ≤ m) (close : Close m y) (under : c * y ≤ m) (over : m < suc c * y)
    (half : 2 * z ≤ y + c) (half' : y + c ≤ 2 * z + 1) where
  y_large : 2 ^ 30 ≤ y
  y_large = let a = root_lt (2 ^ 30) (suc y) (omega (arith, close.above)) in omega arith

  c_low : c ≤ y + 2 ^ 15
  c_low =
      le_by c (y + 2 ^ 15)
      (λ (l : y + 2 ^ 15 < c).
      let a = mul-le-mul_right y l in
      let b = y_large in omega (arith, close.above))

  c_high : y ≤ c + 2 ^ 15
  c_high =
      le_by y (c + 2 ^ 15)
      (λ (l : c + 2 ^ 15 < y).
      let a = mul-le-mul_right y l in
      let b = y_large in omega (arith, close.near))

  pub second_above : m < suc z * suc z
  second_above = step_above m y c z over half'

  pub second_near : z * z ≤ m + 2 ^ 28
  second_near = let a = step_near m y c z (2 ^ 15) under half c_high c_low in omega arith

  pub second_large : 2 ^ 30 ≤ z
  second_large = let a = root_lt (2 ^ 30) (suc z) (omega (arith, second_above)) in omega arith

  pub kept : z * z ≤ m → WholeRoot m z
  kept h = record { low = h; high = second_above }

  pub lowered : m < z * z → WholeRoot m (z - 1)
  lowered h =
      let a = second_large in
      let e : suc (z - 1) ≡ z = omega arith in
      let l : suc (z - 1) * suc (z - 1) ≤ m + 2 ^ 28 = rw e second_near in
      record { low = omega arith; high = rw e h }

-- as the program has it
module _ (m y : ℕ) (large : 2 ^ 60 ≤ m) (small : m < 2 ^ 62) (close : Close m y) where
  pub guess_range : (2 ^ 30 ≤ y) × (y < 2 ^ 32)
  guess_range =
      let a = root_lt (2 ^ 30) (suc y) (omega (arith, close.above)) in
      let b = root_lt y (2 ^ 32) (omega (arith, close.near)) in
      (omega arith, b)

  guess_pos : 0 < y
  guess_pos = let r = guess_range in omega arith

  under : m / y * y ≤ m
  under = div-mul-le_self m y

  over : m < suc (m / y) * y
  over = let d = div-add-mod' m y in let l = mod-lt m guess_pos in omega arith

  pub second_quotient : m / y < 2 ^ 33
  second_quotient = (div-lt_iff_lt-mul guess_pos).1 (let r = guess_range in omega arith)

  abbrev next : ℕ
  next = (y + m / y) / 2

  pub next_near : next * next ≤ m + 2 ^ 28
  next_near = second_near m y (m / y) next large close under over (omega arith) (omega arith)

  pub next_large : 2 ^ 30 ≤ next
  next_large = second_large m y (m / y) next large close under over (omega arith) (omega arith)

  pub next_kept : next * next ≤ m → WholeRoot m next
  next_kept = kept m y (m / y) next large close under over (omega arith) (omega arith)

  pub next_lowered : m < next * next → (v : ℕ) → v ≡ next - 1 → WholeRoot m v
  next_lowered h v e =
      subst (WholeRoot m) (sym e) (lowered m y (m / y) next large close under over (omega arith) (omega arith) h)

-- ---- the lower half: m is y² and a rest, and the root of m × 2^46 is y × 2^23 and what the rest, times 2^22, gives
-- when y divides it
module _ (m y d p : ℕ) (large : 2 ^ 60 ≤ m) (half : WholeRoot m y) (split : (m - y * y) * 2 ^ 22 ≡ d * y + p)
    (part : p < y) where
  y_big : 2 ^ 30 ≤ y
  y_big = let a = root_lt (2 ^ 30) (suc y) (omega (arith, half.high)) in omega arith

  whole : m * 2 ^ 22 ≡ y * y * 2 ^ 22 + d * y + p
  whole = let a = half.low in omega arith

  d_small : d ≤ 2 ^ 23
  d_small =
      le_by d (2 ^ 23)
      (λ (l : 2 ^ 23 < d).
      let a = mul-le-mul_right y l in
      let b = y_big in
      let w = whole in omega (arith, half.high))

  pub exact : d * d ≤ p * 2 ^ 24 → WholeRoot (m * 2 ^ 46) (y * 2 ^ 23 + d)
  exact h = record { low = let w = whole in omega arith; high = let w = whole in omega arith }

  pub one_less : p * 2 ^ 24 < d * d → WholeRoot (m * 2 ^ 46) (y * 2 ^ 23 + d - 1)
  one_less h =
      let a = d_small in
      let b = mul-le-mul a a in
      let l = y_big in
      let w = whole in
      let v = y * 2 ^ 23 + d in
      let e : suc (v - 1) ≡ v = omega arith in
      let q : suc (v - 1) * suc (v - 1) ≡ v * v = rw e in
      record { low = omega arith; high = omega arith }

-- as the program has it
module _ (m y : ℕ) (large : 2 ^ 60 ≤ m) (small : m < 2 ^ 62) (half : WholeRoot m y) where
  pub half_range : (2 ^ 30 ≤ y) × (y < 2 ^ 31)
  half_range =
      let a = root_lt (2 ^ 30) (suc y) (omega (arith, half.high)) in
      let b = root_lt y (2 ^ 31) (omega (arith, half.low)) in
      (omega arith, b)

  half_pos : 0 < y
  half_pos = let r = half_range in omega arith

  abbrev rest : ℕ
  rest = (m - y * y) * 4194304

  pub rest_small : rest < 2 ^ 54
  rest_small = let r = half_range in omega (arith, half.high, half.low)

  pub part_small : rest % y < y
  part_small = mod-lt rest half_pos

  splits : rest ≡ rest / y * y + rest % y
  splits = sym (div-add-mod' rest y)

  pub digits_small : (rest / y ≤ 2 ^ 23) × (rest / y * (rest / y) ≤ 2 ^ 46)
  digits_small =
      let a = d_small m y (rest / y) (rest % y) large half splits part_small in
      let b = mul-le-mul a a in
      (a, omega arith)

  pub halves_kept : rest / y * (rest / y) ≤ rest % y * 16777216 → WholeRoot (m * 2 ^ 46) (y * 8388608 + rest / y)
  halves_kept = exact m y (rest / y) (rest % y) large half splits part_small

  pub halves_lowered : rest % y * 16777216 < rest / y * (rest / y) → (v : ℕ) → v ≡ y * 8388608 + rest / y - 1
      → WholeRoot (m * 2 ^ 46) v
  halves_lowered h v e =
      subst (WholeRoot (m * 2 ^ 46)) (sym e) (one_less m y (rest / y) (rest % y) large half splits part_small h)
