-- How large a float is. `Sized f k x`: the format f holds x, and x is finite and at most 2 ^ k in size. Rounding
-- keeps such a bound, since it keeps the order and leaves powers of two alone; so sums, differences, products and
-- quotients have bounds of their own, as long as the power is one that the format holds. Leans on lib.Ieee's laws of
-- `round`: `round_mono`, `round_exact` and the operations' `-fits`.
use Rattle.std.specs.Prelude.{Bool, true, false, not, ◌&&◌, ◌||◌, cond, T, eqb, ℤ, pos, Float}
use Rattle.std.proofs.Common.{sym, subst, le_trans, le_of_eq, mul-le-mul_right, arith, leb→le, eqb→eq, pow_mono}
use Prim.Native.Nat.{ℕ, zero, suc, ◌+◌, ◌-◌, ◌*◌, ◌/◌, ◌%◌, ◌^◌, ◌≤◌, ◌<◌, zero-le, suc-le-suc, compare}
use Rattle.std.proofs.Math.Dec.{leb, ltb, ltb→lt, nleb→lt}
use Rattle.std.proofs.Math.Pow.{pow-lt}
use Rattle.std.specs.Float.{nan, inf, fin, Format}
use Rattle.std.specs.Float.Ieee.{prec, emax, low, up, down, nearest, size, odd, units, round, neg, fits}
use Rattle.std.specs.Float.Ieee.Fits.{round_is, neg-fits, and_l, and_r}

-- ---- sizes

-- finite, and at most 2 ^ k in size
abbrev pub AtMostPower : ℕ → Float → Type 0
AtMostPower k nan = ⊥
AtMostPower k (inf s) = ⊥
AtMostPower k (fin s m e) = m * up e ≤ 2 ^ k * down e

-- a value that the format f holds, finite and at most 2 ^ k in size
pub record Sized (f : Format) (k : ℕ) (x : Float) : Type 0 where
  pub holds : T (fits f x)
  pub within : AtMostPower k x

pub within_wider : {j k : ℕ} (x : Float) → j ≤ k → AtMostPower j x → AtMostPower k x
within_wider nan h w = w
within_wider (inf s) h w = w
within_wider (fin s m e) h w = le_trans w (mul-le-mul_right (down e) (pow_mono h))

pub wider : {f : Format} {j k : ℕ} {x : Float} → j ≤ k → Sized f j x → Sized f k x
wider {x = x} h z = record { holds = z.holds; within = within_wider x h z.within }

-- ---- the sign of what is rounded

-- with the sign +, or +∞
abbrev pub Upright : Float → Type 0
Upright nan = ⊥
Upright (inf true) = ⊥
Upright (inf false) = Unit {0}
Upright (fin true m e) = ⊥
Upright (fin false m e) = Unit {0}

odd_upright : (d q k l : ℕ) → Upright (odd d false q k l)
unfolding odd
odd_upright d zero k l = tt
odd_upright d (suc q) k l = tt

units_upright : (f : Format) (q k : ℕ) → Upright (units f false q k)
unfolding units
units_upright f q k = go (ltb (q * 2 ^ k) (2 ^ (low f + suc (emax f))))
  where
    go : (b : Bool) → Upright (cond b (odd (suc (prec f)) false q k (low f)) (inf false))
    go true = odd_upright (suc (prec f)) q k (low f)
    go false = tt

pub round_upright : (f : Format) (a c : ℕ) → Upright (round f false a c)
round_upright f a c =
    let n = a * 2 ^ low f in
    let k = size (n / c) - prec f in
    subst Upright (sym (round_is f false a c))
    (units_upright f (nearest (n / (c * 2 ^ k)) (compare (n % (c * 2 ^ k) * 2) (c * 2 ^ k))) k)

-- ---- rounding keeps the bounds

-- what `le` tests of two values with the sign +
pub not_above : (a b : ℕ) → T (ltb a b || (eqb a b && true)) → a ≤ b
not_above a b = go (ltb a b) (ltb→lt a b)
  where
    go : (x : Bool) → (T x → a < b) → T (x || (eqb a b && true)) → a ≤ b
    go true h t = let l = h tt in omega arith
    go false h t = le_of_eq (eqb→eq a b (and_l (eqb a b) true t))

pub one_below_power : (p : ℕ) → 0 < p → 1 < 2 ^ p
one_below_power p h = let l : 2 ^ 0 < 2 ^ p = pow-lt h in l

-- ---- sums, differences and products

neg_within : (k : ℕ) (x : Float) → AtMostPower k x → AtMostPower k (neg x)
unfolding neg
neg_within k nan h = h
neg_within k (inf s) h = h
neg_within k (fin s m e) h = h

pub neg_sized : (f : Format) (k : ℕ) (x : Float) → Sized f k x → Sized f k (neg x)
neg_sized f k x a = record { holds = neg-fits f x a.holds; within = neg_within k x a.within }

-- ---- what a format holds

module _ (f : Format) (s : Bool) (m : ℕ) (e : ℤ) (h : T (fits f (fin s (suc m) e))) where
  -- no more digits than the format keeps
  pub held_digits : suc m < 2 ^ prec f
  unfolding fits
  held_digits =
      ltb→lt (suc m) (2 ^ prec f)
      (and_r (eqb (suc m % 2) 1) (ltb (suc m) (2 ^ prec f))
      (and_l (eqb (suc m % 2) 1 && ltb (suc m) (2 ^ prec f)) (leb (down e) (2 ^ low f))
      (and_l (eqb (suc m % 2) 1 && ltb (suc m) (2 ^ prec f)
      && leb (down e) (2 ^ low f)) (ltb (suc m * up e) (2 ^ suc (emax f) * down e)) h)))

  -- below the power of two from which on there are infinities
  pub held_below : suc m * up e < 2 ^ suc (emax f) * down e
  unfolding fits
  held_below =
      ltb→lt (suc m * up e) (2 ^ suc (emax f) * down e)
      (and_r (eqb (suc m % 2) 1 && ltb (suc m) (2 ^ prec f)
      && leb (down e) (2 ^ low f)) (ltb (suc m * up e) (2 ^ suc (emax f) * down e)) h)

-- the exponent of a value that the format holds
pub held_exponent : (f : Format) (s : Bool) (m k : ℕ) → T (fits f (fin s (suc m) (pos k))) → k ≤ emax f
held_exponent f s m k h = go (leb k (emax f)) (leb→le k (emax f)) (nleb→lt k (emax f))
  where
    go : (b : Bool) → (T b → k ≤ emax f) → (T (not b) → emax f < k) → k ≤ emax f
    go true y n = y tt
    go false y n =
        let l = held_below f s m (pos k) h in
        let p = pow_mono (n tt) in
        let q = mul-le-mul_right (2 ^ k) (suc-le-suc {n = 0} {m = m} zero-le) in
        absurd (omega arith)
