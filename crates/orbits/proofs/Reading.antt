-- Why a set's number, cut to n bits, is read without overflow. Leans on powers of 2.
use mathlib.Core.Path.{◌≡◌, ap, ◌∙◌}
use Prim.Native.Nat.{ℕ, ◌*◌, ◌%◌, ◌^◌, ◌≤◌, ◌<◌}
use native.Mathlib.Nat.{mod-eq_of_lt, mod-lt, pow-le-pow_right}
use native.Mathlib.Omega.{arith}
use lib.Pow.{pow_pos}

-- 2 ^ n, shifted in 32 bits
pub shifted : (n : ℕ) → n ≤ 20 → (1 * 2 ^ n) % 4294967296 ≡ 2 ^ n
shifted n h =
    let small : 2 ^ n ≤ 1048576 = pow-le-pow_right {n = 2} (omega arith) {i = n} {j = 20} h in
    let e : 1 * 2 ^ n ≡ 2 ^ n = omega arith in
    ap (λ (k : ℕ). k % 4294967296) e ∙ mod-eq_of_lt (omega arith)

pub rest_small : (x y n : ℕ) → n ≤ 20 → x ≡ y
    → (x % ((1 * 2 ^ n) % 4294967296) ≡ y % 2 ^ n) × (x % ((1 * 2 ^ n) % 4294967296) < 2 ^ n)
rest_small x y n h e = rw (shifted n h) (ap (λ (k : ℕ). k % 2 ^ n) e, mod-lt x (pow_pos n))
