-- Rounding within a cell. A cell is what lies between r and r + 1 times a power of two, where r has one binary digit
-- more than the format keeps: all of it rounds to the half of r, rounded up. At its lower end that holds where r is
-- even, since then the end itself is a value of the format. Assumes nothing.
use Rattle.std.specs.Prelude.{◌≡◌, refl, Bool, not, T, eqb}
use Rattle.std.proofs.Common.{sym, ap, ◌∙◌, subst, le-div_iff_mul-le, div-lt_iff_lt-mul, mul-le-mul_right, mul_assoc}
use Rattle.std.proofs.Common.{mul_comm, lt_of_not-le, not-le_of_lt, lt_of_lt_of_le, arith, leb→le, eqb→eq, pow-add}
use Rattle.std.proofs.Common.{pow_mono}
use Prim.Native.Nat.{ℕ, zero, suc, ◌+◌, ◌-◌, ◌*◌, ◌/◌, ◌%◌, ◌^◌, ◌≤◌, ◌<◌, compare, Ordering}
use Rattle.std.proofs.Math.Nat.{pow-succ'}
use Rattle.std.proofs.Math.Dec.{is_le, compare_is_eq, nleb→lt, eqb_refl}
use Rattle.std.proofs.Math.Arith.{lt_of_le-ne, digits_div, digits_mod}
use Rattle.std.specs.Float.{Format}
use Rattle.std.specs.Float.Ieee.{prec, low, size, nearest, units, round}
use Rattle.std.specs.Float.Ieee.Digits.{size-lt, size-le}
use Rattle.std.specs.Float.Ieee.Fits.{core, round_is}

-- ---- what `compare` answers
abbrev Compares : Ordering → ℕ → ℕ → Type 0
Compares Ordering.lt a b = a < b
Compares Ordering.eq a b = a ≡ b
Compares Ordering.gt a b = b < a

says : (a b : ℕ) → Compares (compare a b) a b
says a b =
    go (compare a b) (leb→le a b) (nleb→lt a b) (eqb→eq a b)
    (λ (e : a ≡ b). subst (λ (x : ℕ). T (eqb a x)) e (eqb_refl a))
  where
    go : (o : Ordering) → (T (is_le o) → a ≤ b) → (T (not (is_le o)) → b < a) → (T (compare_is_eq o) → a ≡ b)
        → (a ≡ b → T (compare_is_eq o)) → Compares o a b
    go Ordering.lt h k e n = lt_of_le-ne (h tt) n
    go Ordering.eq h k e n = e tt
    go Ordering.gt h k e n = k tt

pub compare_lt : (a b : ℕ) → a < b → compare a b ≡ Ordering.lt
compare_lt a b h = go (compare a b) (says a b)
  where
    go : (o : Ordering) → Compares o a b → o ≡ Ordering.lt
    go Ordering.lt c = refl
    go Ordering.eq c = absurd (omega arith)
    go Ordering.gt c = absurd (omega arith)

pub compare_gt : (a b : ℕ) → b < a → compare a b ≡ Ordering.gt
compare_gt a b h = go (compare a b) (says a b)
  where
    go : (o : Ordering) → Compares o a b → o ≡ Ordering.gt
    go Ordering.lt c = absurd (omega arith)
    go Ordering.eq c = absurd (omega arith)
    go Ordering.gt c = refl

-- ---- in units of two cells: w lies in the cell of r, which is d wide
module _ (r d w : ℕ) (low : r * d ≤ w) (high : w < suc r * d) (strict : r % 2 ≡ 1 → r * d < w) where
  -- w is h units and a rest, whether r is 2 h or 2 h + 1
  lower : (h : ℕ) → r ≡ 2 * h → nearest (w / (d * 2)) (compare (w % (d * 2) * 2) (d * 2)) ≡ h
  lower h e =
      let a : r * d ≡ 2 * h * d = ap (λ (x : ℕ). x * d) e in
      let s : h * (d * 2) + (w - h * (d * 2)) ≡ w = omega arith in
      let l : w - h * (d * 2) < d * 2 = omega arith in
      let q : w / (d * 2) ≡ h = ap (λ (x : ℕ). x / (d * 2)) (sym s) ∙ digits_div h l in
      let p : w % (d * 2) ≡ w - h * (d * 2) = ap (λ (x : ℕ). x % (d * 2)) (sym s) ∙ digits_mod h l in
      let c : compare (w % (d * 2) * 2) (d * 2) ≡ Ordering.lt = compare_lt (w % (d * 2) * 2) (d * 2) (omega arith) in
      ap (λ (o : Ordering). nearest (w / (d * 2)) o) c ∙ q

  upper : (h : ℕ) → r ≡ 2 * h + 1 → nearest (w / (d * 2)) (compare (w % (d * 2) * 2) (d * 2)) ≡ suc h
  upper h e =
      let a : r * d ≡ (2 * h + 1) * d = ap (λ (x : ℕ). x * d) e in
      let t = strict (omega arith) in
      let s : h * (d * 2) + (w - h * (d * 2)) ≡ w = omega arith in
      let l : w - h * (d * 2) < d * 2 = omega arith in
      let q : w / (d * 2) ≡ h = ap (λ (x : ℕ). x / (d * 2)) (sym s) ∙ digits_div h l in
      let p : w % (d * 2) ≡ w - h * (d * 2) = ap (λ (x : ℕ). x % (d * 2)) (sym s) ∙ digits_mod h l in
      let c : compare (w % (d * 2) * 2) (d * 2) ≡ Ordering.gt = compare_gt (w % (d * 2) * 2) (d * 2) (omega arith) in
      ap (λ (o : Ordering). nearest (w / (d * 2)) o) c ∙ ap suc q

  pub in_pairs : nearest (w / (d * 2)) (compare (w % (d * 2) * 2) (d * 2)) ≡ suc r / 2
  in_pairs = go (r % 2) refl
    where
      go : (b : ℕ) → r % 2 ≡ b → nearest (w / (d * 2)) (compare (w % (d * 2) * 2) (d * 2)) ≡ suc r / 2
      go zero e = lower (r / 2) (omega arith) ∙ omega arith
      go (suc b) e = upper (r / 2) (omega arith) ∙ omega arith

-- ---- how many binary digits the cell's numbers have
pub size_is : (n p : ℕ) → 2 ^ p ≤ n → n < 2 ^ suc p → size n ≡ suc p
size_is n p lo hi =
    let a = size-le n (suc p) hi in
    let b : p < size n = lt_of_not-le (λ (g : size n ≤ p). not-le_of_lt (lt_of_lt_of_le (size-lt n) (pow_mono g)) lo) in
    omega arith

-- ---- the cell
module _ (f : Format) (s : Bool) (r t num den : ℕ) (dpos : 0 < den) (least : 2 ^ prec f ≤ r)
    (most : r < 2 ^ suc (prec f)) where
  places : r * (den * 2 ^ t) ≤ num * 2 ^ low f → num * 2 ^ low f < suc r * (den * 2 ^ t)
      → size (num * 2 ^ low f / den) - prec f ≡ suc t
  places lo hi =
      let w = num * 2 ^ low f in
      let a : r * 2 ^ t ≤ w / den = (le-div_iff_mul-le dpos).1 (omega arith) in
      let b : w / den < suc r * 2 ^ t = (div-lt_iff_lt-mul dpos).1 (omega arith) in
      let c = mul-le-mul_right (2 ^ t) least in
      let d = mul-le-mul_right (2 ^ t) most in
      let e = pow-add 2 (prec f) t in
      let g = pow-add 2 (suc (prec f)) t in
      let x : suc (prec f + t) ≡ suc (prec f) + t = omega arith in
      let y : 2 ^ suc (prec f + t) ≡ 2 ^ (suc (prec f) + t) = ap (λ (z : ℕ). 2 ^ z) x in
      let k = size_is (w / den) (prec f + t) (omega arith) (omega arith) in
      omega arith

  pub cell : r * (den * 2 ^ t) ≤ num * 2 ^ low f → num * 2 ^ low f < suc r * (den * 2 ^ t)
      → (r % 2 ≡ 1 → r * (den * 2 ^ t) < num * 2 ^ low f) → round f s num den ≡ units f s (suc r / 2) (suc t)
  cell lo hi strict =
      let w = num * 2 ^ low f in
      let u : den * 2 ^ suc t ≡ den * 2 ^ t * 2 = ap (λ (x : ℕ). den * x) (pow-succ' 2 t ∙ mul_comm 2 (2 ^ t))
      ∙ sym (mul_assoc den (2 ^ t) 2) in
      round_is f s num den
      ∙ ap (core f s w den) (places lo hi)
      ∙ ap (λ (x : ℕ). units f s (nearest (w / x) (compare (w % x * 2) x)) (suc t)) u
      ∙ ap (λ (x : ℕ). units f s x (suc t)) (in_pairs r (den * 2 ^ t) w lo hi strict)
