-- Powers of two: their order, and products with them; orders across equations. Assumes nothing.
use Rattle.std.specs.Prelude.{◌≡◌, refl, ℕ, zero, suc, ◌+◌, ◌-◌, ◌*◌, ◌%◌, ◌^◌, ◌≤◌, ◌<◌}
use Rattle.std.proofs.Common.{sym, ap, ◌∙◌, mul_assoc, mul-pos, lt_of_not-le, not-le_of_lt, lt_of_le_of_lt, le_refl}
use Rattle.std.proofs.Common.{mul-le-mul_right, mul-lt-mul_of_pos_right, arith, pow-add, pow_pos, pow_mono}
use Rattle.std.proofs.Math.Nat.{eq_of_mul-eq-mul_right, pow-succ'}
use Rattle.std.proofs.Math.Pow.{pow-lt}

pub across_le : {i j m n : ℕ} → i ≡ j → m ≡ n → j ≤ n → i ≤ m
across_le d e h = omega arith

pub across_lt : {i j m n : ℕ} → i ≡ j → m ≡ n → j < n → i < m
across_lt d e h = omega arith

pub pow_back : (a b : ℕ) → 2 ^ a < 2 ^ b → a < b
pow_back a b h = lt_of_not-le (λ (g : b ≤ a). not-le_of_lt h (pow_mono g))

pub pow_back_le : (a b : ℕ) → 2 ^ a ≤ 2 ^ b → a ≤ b
pow_back_le a b h = let l = pow_back a (suc b) (lt_of_le_of_lt h (pow-lt (le_refl (suc b)))) in omega arith

pub join : (m a b : ℕ) → m * 2 ^ a * 2 ^ b ≡ m * 2 ^ (a + b)
join m a b = mul_assoc m (2 ^ a) (2 ^ b) ∙ ap (λ (x : ℕ). m * x) (sym (pow-add 2 a b))

-- an equation between products with powers of two holds at any two exponents that lie as far apart
pub balance : (m q a b c d : ℕ) → m * 2 ^ a ≡ q * 2 ^ b → a + d ≡ b + c → m * 2 ^ c ≡ q * 2 ^ d
balance m q a b c d h e =
    let p : 2 ^ a * 2 ^ d ≡ 2 ^ b * 2 ^ c = sym (pow-add 2 a d) ∙ ap (λ (x : ℕ). 2 ^ x) e ∙ pow-add 2 b c in
    eq_of_mul-eq-mul_right (2 ^ a * 2 ^ d) (mul-pos (pow_pos a) (pow_pos d)) (m * 2 ^ c) (q * 2 ^ d)
    (left m (2 ^ a) (2 ^ c) (2 ^ d) ∙ ap (λ (x : ℕ). x * (2 ^ c * 2 ^ d)) h ∙ right q (2 ^ b) (2 ^ c) (2 ^ d)
    ∙ ap (λ (x : ℕ). q * 2 ^ d * x) (sym p))
  where
    left : (x y z v : ℕ) → x * z * (y * v) ≡ x * y * (z * v)
    left x y z v = omega arith

    right : (x y z v : ℕ) → x * y * (z * v) ≡ x * v * (y * z)
    right x y z v = omega arith

-- 1 or 2, as a number is even or odd
pub two_choices : (w : ℕ) → 1 + w % 2 ≡ 2 ^ (w % 2)
two_choices w = go (w % 2) (omega arith)
  where
    go : (x : ℕ) → x < 2 → 1 + x ≡ 2 ^ x
    go zero h = refl
    go (suc zero) h = refl
    go (suc (suc x)) h = absurd (omega arith)

-- a number whose leading digit stands at place j, moved up to 53 digits
module _ (a j : ℕ) (place : j ≤ 52) (from : 2 ^ j ≤ a) (to : a < 2 ^ suc j) where
  pub all_places : 2 ^ (52 - j) * 2 ^ j ≡ 2 ^ 52
  all_places = let e : 52 - j + j ≡ 52 = omega arith in sym (pow-add 2 (52 - j) j) ∙ ap (λ (x : ℕ). 2 ^ x) e

  pub moved_low : 2 ^ 52 ≤ a * 2 ^ (52 - j)
  moved_low = let p = all_places in let c = mul-le-mul_right (2 ^ (52 - j)) from in omega arith

  pub moved_high : a * 2 ^ (52 - j) < 2 ^ 53
  moved_high =
      let p = all_places in
      let b : a < 2 * 2 ^ j = rw pow-succ' at to in
      let c = mul-lt-mul_of_pos_right b (pow_pos (52 - j)) in
      omega arith
