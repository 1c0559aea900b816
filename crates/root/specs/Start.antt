-- The start of the square root: how near it is to lie to the root, and one test that tells it of all 768 arguments of
-- a polynomial. Assumes nothing.
use Rattle.std.specs.Prelude.{Bool, ◌&&◌, ℕ, suc, ◌+◌, ◌-◌, ◌*◌, ◌/◌, ◌^◌, ◌≤◌, ◌<◌, T, leb, ltb}
use Rattle.std.proofs.Common.{mul-le-mul, le_trans, lt_of_le_of_lt, arith, leb→le, ltb→lt}
use Rattle.std.specs.Float.Ieee.Fits.{and_l, and_r}
use Rattle.definitions.specs.Lists.{all_of, count_from}
use Rattle.laws.specs.Lists.{all_of_holds, in_count}

-- s lies near the root of every number from i × 2^22 to (i + 1) × 2^22: s and such a number divided by s are at most
-- 256 apart
pub record Start (i s : ℕ) : Type 0 where
  pub low : s * s ≤ i * 2 ^ 22 + 256 * s
  pub high : suc i * 2 ^ 22 ≤ s * s + 256 * s

-- a polynomial as the program has it: its coefficients stand in the program alone
abbrev pub cubic : ℕ → ℕ → ℕ → ℕ → ℕ → ℕ
cubic a b c d i = (a + i * (b - i * (c - i))) / d

-- ---- the rule, as a test
unfoldable pub is_start : ℕ → ℕ → Bool
is_start i s = leb (s * s) (i * 2 ^ 22 + 256 * s) && leb (suc i * 2 ^ 22) (s * s + 256 * s)

is_start_holds : (i s : ℕ) → T (is_start i s) → Start i s
unfolding is_start
is_start_holds i s t =
    let low = leb (s * s) (i * 2 ^ 22 + 256 * s) in
    let high = leb (suc i * 2 ^ 22) (s * s + 256 * s) in
    record {
      low = leb→le (s * s) (i * 2 ^ 22 + 256 * s) (and_l low high t);
      high = leb→le (suc i * 2 ^ 22) (s * s + 256 * s) (and_r low high t);
    }

-- the one test: the arguments are a list of the checker's, and no data of the program's
unfoldable pub gives_starts : (ℕ → ℕ) → Bool
gives_starts f = all_of (λ (i : ℕ). is_start i (f i)) (count_from 256 768)

pub start_rule : (f : ℕ → ℕ) (i : ℕ) → 256 ≤ i → i < 1024 → T (gives_starts f) → Start i (f i)
unfolding gives_starts
start_rule f i h l t =
    is_start_holds i (f i)
    (all_of_holds (λ (i : ℕ). is_start i (f i)) (count_from 256 768) t i (in_count 256 768 i h (omega arith)))

-- ---- a polynomial's products and sums, with a bound that the checker computes: no difference is cut off at zero,
-- and nothing passes 64 bits
module _ (i x y z : ℕ) (small : i < 1024) where
  product_most : i * (x - y) ≤ 1023 * x
  product_most =
      let a : i ≤ 1023 = omega arith in
      let b : x - y ≤ x = omega arith in
      mul-le-mul a b

  pub product_le : T (leb (1023 * x) z) → i * (x - y) ≤ z
  product_le t = le_trans product_most (leb→le (1023 * x) z t)

  pub product_lt : T (ltb (1023 * x) z) → i * (x - y) < z
  product_lt t = lt_of_le_of_lt product_most (ltb→lt (1023 * x) z t)

  pub sum_lt : (a : ℕ) → T (ltb (a + 1023 * x) z) → a + i * (x - y) < z
  sum_lt a t = let h = ltb→lt (a + 1023 * x) z t in omega (arith, product_most)
