-- Squares of whole numbers: their order, the whole root, and Newton's step towards it. Assumes nothing.
use Rattle.std.specs.Prelude.{◌≡◌, Bool, true, false, not, ℕ, suc, ◌+◌, ◌-◌, ◌*◌, ◌≤◌, ◌<◌, T, leb}
use Rattle.std.proofs.Common.{sym, subst, mul-le-mul, mul-lt-mul_of_pos_right, mul-pos, mul-le-mul_right, arith, leb→le}
use Rattle.std.proofs.Math.Dec.{nleb→lt}

-- x ≤ y, where the contrary is absurd
pub le_by : (x y : ℕ) → (y < x → ⊥) → x ≤ y
le_by x y f = go (leb x y) (leb→le x y) (nleb→lt x y)
  where
    go : (b : Bool) → (T b → x ≤ y) → (T (not b) → y < x) → x ≤ y
    go true h k = h tt
    go false h k = absurd (f (k tt))

-- ---- the order of squares is that of the numbers
pub square_le : {x y : ℕ} → x ≤ y → x * x ≤ y * y
square_le h = mul-le-mul h h

pub root_lt : (x y : ℕ) → x * x < y * y → x < y
root_lt x y h =
    le_by (suc x) y (λ (l : y < suc x). let k : y ≤ x = omega arith in let a = mul-le-mul k k in omega arith)

-- ---- the whole root: r is the largest number whose square is at most n
pub record WholeRoot (n r : ℕ) : Type 0 where
  pub low : r * r ≤ n
  pub high : n < suc r * suc r

-- a number that g times fills: the whole roots of n and of n g² lie side by side
module _ (n g r s : ℕ) (small : WholeRoot n r) (large : WholeRoot (n * (g * g)) s) where
  pub scaled_low : r * g ≤ s
  scaled_low =
      let a = mul-le-mul_right (g * g) small.low in
      let l : r * g < suc s = root_lt (r * g) (suc s) (omega (arith, large.high)) in
      omega arith

  pub scaled_high : 0 < g → s < suc r * g
  scaled_high p =
      let a = mul-lt-mul_of_pos_right small.high (mul-pos p p) in
      root_lt s (suc r * g) (omega (arith, large.low))

-- ---- Newton's step: from y to z, half the sum of y and c, where c is n / y
pub mean_square : (a b : ℕ) → 4 * (a * b) ≤ (a + b) * (a + b)
mean_square a b = go (leb a b) (leb→le a b) (nleb→lt a b)
  where
    rises : (d : ℕ) → 4 * (a * (a + d)) ≤ (a + (a + d)) * (a + (a + d))
    rises d = omega arith

    falls : (d : ℕ) → 4 * ((b + d) * b) ≤ (b + d + b) * (b + d + b)
    falls d = omega arith

    go : (x : Bool) → (T x → a ≤ b) → (T (not x) → b < a) → 4 * (a * b) ≤ (a + b) * (a + b)
    go true h k =
        let l = h tt in
        let e : a + (b - a) ≡ b = omega arith in
        subst (λ (v : ℕ). 4 * (a * v) ≤ (a + v) * (a + v)) e (rises (b - a))
    go false h k =
        let l = k tt in
        let e : b + (a - b) ≡ a = omega arith in
        subst (λ (v : ℕ). 4 * (v * b) ≤ (v + b) * (v + b)) e (falls (a - b))

-- the step ends at the whole root or above it, wherever it begins
pub step_above : (n y c z : ℕ) → n < suc c * y → y + c ≤ 2 * z + 1 → n < suc z * suc z
step_above n y c z h k =
    let a = mean_square (suc c) y in
    let l : suc c + y ≤ 2 * suc z = omega arith in
    let b = mul-le-mul l l in
    omega arith

-- and near it, where y and c are near each other
pub step_near : (n y c z d : ℕ) → c * y ≤ n → 2 * z ≤ y + c → y ≤ c + d → c ≤ y + d → 4 * (z * z) ≤ 4 * n + d * d
step_near n y c z d h k u v = go (leb c y) (leb→le c y) (nleb→lt c y)
  where
    twice : 4 * (z * z) ≤ (y + c) * (y + c)
    twice = let b = mul-le-mul k k in omega arith

    falls : (x : ℕ) → x ≤ d → y ≡ c + x → 4 * (z * z) ≤ 4 * n + d * d
    falls x l e =
        let s = mul-le-mul l l in
        let t : (y + c) * (y + c) ≡ 4 * (c * y) + x * x =
        subst (λ (w : ℕ). (w + c) * (w + c) ≡ 4 * (c * w) + x * x) (sym e) (omega arith) in
        omega (arith, twice)

    rises : (x : ℕ) → x ≤ d → c ≡ y + x → 4 * (z * z) ≤ 4 * n + d * d
    rises x l e =
        let s = mul-le-mul l l in
        let t : (y + c) * (y + c) ≡ 4 * (c * y) + x * x =
        subst (λ (w : ℕ). (y + w) * (y + w) ≡ 4 * (w * y) + x * x) (sym e) (omega arith) in
        omega (arith, twice)

    go : (b : Bool) → (T b → c ≤ y) → (T (not b) → y < c) → 4 * (z * z) ≤ 4 * n + d * d
    go true f g = let l = f tt in falls (y - c) (omega arith) (omega arith)
    go false f g = let l = g tt in rises (c - y) (omega arith) (omega arith)
