-- Theorems on the definitions of specs/Floats.
use Rattle.std.specs.Prelude.{◌≡◌, Bool, true, false, cond, T, Float}
use Rattle.std.proofs.Common.{sym, ap, subst, true≢false, le_of_mul-le-mul_right, arith, pow_pos, pow-add}
use Prim.Native.Nat.{ℕ, zero, suc, ◌+◌, ◌-◌, ◌*◌, ◌/◌, ◌%◌, ◌^◌, ◌≤◌, ◌<◌, compare}
use Rattle.std.proofs.Math.Dec.{ltb}
use Rattle.std.proofs.Math.Pow.{pow-lt}
use Rattle.std.specs.Float.{nan, inf, fin, Format}
use Rattle.std.specs.Float.Ieee.{prec, emax, low, up, down, nearest, size, odd, units, round, le}
use Rattle.std.specs.Float.Ieee.Fits.{round_is, round-fits, down_pos, two, two-le_pos}
use Rattle.std.specs.Float.Ieee.Exact.{HasValue, round_exact}
use Rattle.std.specs.Float.Ieee.Order.{round_mono}
use Rattle.laws.specs.Floats.{AtMostPower, Sized, Upright, not_above, one_below_power, round_upright}

-- ---- the sign of what is rounded

-- a size does not depend on the sign
odd_signed : (j d : ℕ) (s : Bool) (q k l : ℕ) → AtMostPower j (odd d false q k l) → AtMostPower j (odd d s q k l)
unfolding odd
odd_signed j d s zero k l h = h
odd_signed j d s (suc q) k l h = h

units_signed : (j : ℕ) (f : Format) (s : Bool) (q k : ℕ) → AtMostPower j (units f false q k)
    → AtMostPower j (units f s q k)
unfolding units
units_signed j f s q k = go (ltb (q * 2 ^ k) (2 ^ (low f + suc (emax f))))
  where
    go : (b : Bool) → AtMostPower j (cond b (odd (suc (prec f)) false q k (low f)) (inf false))
        → AtMostPower j (cond b (odd (suc (prec f)) s q k (low f)) (inf s))
    go true h = odd_signed j (suc (prec f)) s q k (low f) h
    go false h = absurd h

round_signed : (j : ℕ) (f : Format) (s : Bool) (a c : ℕ) → AtMostPower j (round f false a c)
    → AtMostPower j (round f s a c)
round_signed j f s a c h =
    let n = a * 2 ^ low f in
    let k = size (n / c) - prec f in
    subst (AtMostPower j) (sym (round_is f s a c))
    (units_signed j f s (nearest (n / (c * 2 ^ k)) (compare (n % (c * 2 ^ k) * 2) (c * 2 ^ k))) k
    (subst (AtMostPower j) (round_is f false a c) h))

-- ---- rounding keeps the bounds

-- x / p ≤ n / q and n / q = b
under_whole : (x p n q b : ℕ) → 0 < q → x * q ≤ n * p → n * 1 ≡ b * q → x ≤ b * p
under_whole x p n q b Q h e = le_of_mul-le-mul_right {k = q} (let g = ap (λ (z : ℕ). z * p) e in omega arith) Q

le_within : (k : ℕ) (x y : Float) → Upright x → HasValue y false (2 ^ k) 1 → T (le x y) → AtMostPower k x
unfolding le
le_within k nan y u v t = absurd u
le_within k (inf true) y u v t = absurd u
le_within k (inf false) nan u v t = absurd v
le_within k (inf false) (inf s) u v t = absurd v
le_within k (inf false) (fin s n d) u v t = absurd t
le_within k (fin true m e) y u v t = absurd u
le_within k (fin false m e) nan u v t = absurd v
le_within k (fin false m e) (inf s) u v t = absurd v
le_within k (fin false m e) (fin true n d) u v t = absurd (true≢false v.0)
le_within k (fin false m e) (fin false n d) u v t =
    under_whole (m * up e) (down e) (n * up d) (down d) (2 ^ k) (down_pos d)
    (not_above (m * up e * down d) (n * up d * down e) t) v.1

-- 2 ^ k rounds to itself, for every k up to the format's largest exponent
power_exact : (f : Format) (k : ℕ) → k ≤ emax f → HasValue (round f false (2 ^ k) 1) false (2 ^ k) 1
power_exact f k h =
    round_exact f false (2 ^ k) 1 1 (low f + k) (pow_pos 0) (one_below_power (prec f) (two-le_pos (prec f) (two f)))
    (subst (λ (z : ℕ). z < 2 ^ (low f + suc (emax f))) (sym (times_one (2 ^ (low f + k))))
    (pow-lt (room (low f) k (emax f) h)))
    (let e = pow-add 2 (low f) k in omega arith)
  where
    times_one : (x : ℕ) → 1 * x ≡ x
    times_one x = omega arith

    room : (l k e : ℕ) → k ≤ e → l + k < l + suc e
    room l k e h = omega arith

pub round_sized : (f : Format) (s : Bool) (a c k : ℕ) → 0 < c → k ≤ emax f → a ≤ 2 ^ k * c → Sized f k (round f s a c)
round_sized f s a c k C K h = record {
  holds = round-fits f s a c;
  within =
      round_signed k f s a c
      (le_within k (round f false a c) (round f false (2 ^ k) 1) (round_upright f a c) (power_exact f k K)
      (round_mono f a c (2 ^ k) 1 C (pow_pos 0) (let g = h in omega arith)));
}
