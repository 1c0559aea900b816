-- How small a float is at least, in units of the format's smallest value. `Reaches f i x`: x is finite and at least 2
-- ^ i units in size. `AtLeast f i x`: it has the sign + too. Rounding keeps the bound, so the square of a value that
-- reaches 2 ^ j has one, and a sum of values with the sign + is at least as large as each. `NotBeyond k x y`: x is at
-- most 2 ^ k times y in size; then the quotient x / y is at most 2 ^ k. Leans on Floats.
use Rattle.std.specs.Prelude.{◌≡◌, Bool, true, false, ℕ, zero, suc, ◌+◌, ◌*◌, ◌/◌, ◌^◌, ◌≤◌, ◌<◌, T, eqb, ℤ, Float}
use Rattle.std.proofs.Common.{sym, ap, ◌∙◌, subst, true≢false, le_trans, le_of_eq, mul-le-mul, mul-le-mul_right}
use Rattle.std.proofs.Common.{mul-pos, mul_comm, le_of_mul-le-mul_right, le-div_iff_mul-le, div-lt_iff_lt-mul, pow-suc}
use Rattle.std.proofs.Common.{arith, ltb→lt, eqb→eq, pow_pos, pow-add}
use Rattle.std.proofs.Math.Pow.{pow-lt}
use Rattle.std.specs.Float.{nan, inf, fin, Format}
use Rattle.std.specs.Float.Ieee.{prec, emax, low, up, down, unlike, size, round, sum, add, mul, lt, le}
use Rattle.std.specs.Float.Ieee.Digits.{size-lt, size_reaches}
use Rattle.std.specs.Float.Ieee.Fits.{down_pos, two, two-le_pos, and_r}
use Rattle.std.specs.Float.Ieee.Exact.{HasValue, round_exact}
use Rattle.std.specs.Float.Ieee.Order.{round_mono}
use Rattle.std.specs.Float.Ieee.Positive.{through}
use Rattle.laws.specs.Floats.{AtMostPower, Upright, round_upright, not_above, one_below_power}

-- finite, with the sign +
abbrev pub Plus : Float → Type 0
Plus nan = ⊥
Plus (inf s) = ⊥
Plus (fin true m e) = ⊥
Plus (fin false m e) = Unit {0}

-- finite, with the sign +, and at least 2 ^ i times the smallest value of the format f
abbrev pub AtLeast : Format → ℕ → Float → Type 0
AtLeast f i nan = ⊥
AtLeast f i (inf s) = ⊥
AtLeast f i (fin true m e) = ⊥
AtLeast f i (fin false m e) = 2 ^ i * down e ≤ m * up e * 2 ^ low f

-- at least 2 ^ i times the smallest value of the format f in size, whatever the sign
abbrev pub Reaches : Format → ℕ → Float → Type 0
Reaches f i nan = ⊥
Reaches f i (inf s) = ⊥
Reaches f i (fin s m e) = 2 ^ i * down e ≤ m * up e * 2 ^ low f

-- b / l = n / q ≤ x / p
over_part : (b l n q x p : ℕ) → 0 < q → n * l ≡ b * q → n * p ≤ x * q → b * p ≤ x * l
over_part b l n q x p Q e h =
    le_of_mul-le-mul_right {k = q} (let g = ap (λ (z : ℕ). z * p) e in let r = mul-le-mul_right l h in omega arith) Q

le_at_least : (f : Format) (i k : ℕ) (x y : Float) → AtMostPower k x → Upright x
    → HasValue y false (2 ^ i) (2 ^ low f) → T (le y x) → AtLeast f i x
unfolding le
le_at_least f i k nan y w u v t = absurd u
le_at_least f i k (inf s) y w u v t = absurd w
le_at_least f i k (fin true m e) y w u v t = absurd u
le_at_least f i k (fin false m e) nan w u v t = absurd v
le_at_least f i k (fin false m e) (inf s) w u v t = absurd v
le_at_least f i k (fin false m e) (fin true n d) w u v t = absurd (true≢false v.0)
le_at_least f i k (fin false m e) (fin false n d) w u v t =
    over_part (2 ^ i) (2 ^ low f) (n * up d) (down d) (m * up e) (down e) (down_pos d) v.1
    (not_above (n * up d * down e) (m * up e * down d) t)

-- 2 ^ i smallest values round to themselves
part_exact : (f : Format) (i : ℕ) → i ≤ low f + emax f
    → HasValue (round f false (2 ^ i) (2 ^ low f)) false (2 ^ i) (2 ^ low f)
part_exact f i h =
    round_exact f false (2 ^ i) (2 ^ low f) 1 i (pow_pos (low f))
    (one_below_power (prec f) (two-le_pos (prec f) (two f)))
    (subst (λ (z : ℕ). z < 2 ^ (low f + suc (emax f))) (sym (times_one (2 ^ i))) (pow-lt (room (low f) i (emax f) h)))
    (omega arith)
  where
    times_one : (x : ℕ) → 1 * x ≡ x
    times_one x = omega arith

    room : (l k e : ℕ) → k ≤ l + e → k < l + suc e
    room l k e h = omega arith

pub round_at_least : (f : Format) (a c i k : ℕ) → 0 < c → i ≤ low f + emax f → 2 ^ i * c ≤ a * 2 ^ low f
    → AtMostPower k (round f false a c) → AtLeast f i (round f false a c)
round_at_least f a c i k C I h w =
    le_at_least f i k (round f false a c) (round f false (2 ^ i) (2 ^ low f)) w (round_upright f a c)
    (part_exact f i I) (round_mono f (2 ^ i) (2 ^ low f) a c (pow_pos (low f)) C h)

-- ---- values with the sign +

upright_plus : (k : ℕ) (x : Float) → Upright x → AtMostPower k x → Plus x
upright_plus k nan u w = w
upright_plus k (inf s) u w = w
upright_plus k (fin true m e) u w = u
upright_plus k (fin false m e) u w = tt

pub round_plus : (f : Format) (a c k : ℕ) → AtMostPower k (round f false a c) → Plus (round f false a c)
round_plus f a c k w = upright_plus k (round f false a c) (round_upright f a c) w

pub add_plus : (f : Format) (k : ℕ) (x y : Float) → Plus x → Plus y → AtMostPower k (add f x y) → Plus (add f x y)
unfolding add sum
add_plus f k nan y p q w = absurd p
add_plus f k (inf s) y p q w = absurd p
add_plus f k (fin true m e) y p q w = absurd p
add_plus f k (fin false m e) nan p q w = absurd q
add_plus f k (fin false m e) (inf t) p q w = absurd q
add_plus f k (fin false m e) (fin true n d) p q w = absurd q
add_plus f k (fin false m e) (fin false n d) p q w =
    round_plus f (m * up e * down d + n * up d * down e) (down e * down d) k w

-- a square has the sign +
pub square_plus : (f : Format) (k : ℕ) (x : Float) → AtMostPower k (mul f x x) → Plus (mul f x x)
unfolding mul
square_plus f k nan w = w
square_plus f k (inf true) w = w
square_plus f k (inf false) w = w
square_plus f k (fin true m e) w = round_plus f (m * up e * (m * up e)) (down e * down e) k w
square_plus f k (fin false m e) w = round_plus f (m * up e * (m * up e)) (down e * down e) k w

-- a sum of two values with the sign + is at least as large as each
sum_reaches : (b l x p y q : ℕ) → b * p ≤ x * l → b * (p * q) ≤ (x * q + y) * l
sum_reaches b l x p y q h = let r = mul-le-mul_right q h in omega arith

pub add_at_least_left : (f : Format) (i k : ℕ) (x y : Float) → i ≤ low f + emax f → AtLeast f i x → Plus y
    → AtMostPower k (add f x y) → AtLeast f i (add f x y)
unfolding add sum
add_at_least_left f i k nan y I h q w = absurd h
add_at_least_left f i k (inf s) y I h q w = absurd h
add_at_least_left f i k (fin true m e) y I h q w = absurd h
add_at_least_left f i k (fin false m e) nan I h q w = absurd q
add_at_least_left f i k (fin false m e) (inf t) I h q w = absurd q
add_at_least_left f i k (fin false m e) (fin true n d) I h q w = absurd q
add_at_least_left f i k (fin false m e) (fin false n d) I h q w =
    round_at_least f (m * up e * down d + n * up d * down e) (down e * down d) i k (mul-pos (down_pos e) (down_pos d)) I
    (sum_reaches (2 ^ i) (2 ^ low f) (m * up e) (down e) (n * up d * down e) (down d) h) w

pub add_at_least_right : (f : Format) (i k : ℕ) (x y : Float) → i ≤ low f + emax f → Plus x → AtLeast f i y
    → AtMostPower k (add f x y) → AtLeast f i (add f x y)
unfolding add sum
add_at_least_right f i k nan y I p h w = absurd p
add_at_least_right f i k (inf s) y I p h w = absurd p
add_at_least_right f i k (fin true m e) y I p h w = absurd p
add_at_least_right f i k (fin false m e) nan I p h w = absurd h
add_at_least_right f i k (fin false m e) (inf t) I p h w = absurd h
add_at_least_right f i k (fin false m e) (fin true n d) I p h w = absurd h
add_at_least_right f i k (fin false m e) (fin false n d) I p h w =
    round_at_least f (m * up e * down d + n * up d * down e) (down e * down d) i k (mul-pos (down_pos e) (down_pos d)) I
    (le_trans (le_of_eq (ap (λ (z : ℕ). 2 ^ i * z) (mul_comm (down e) (down d))))
    (le_trans (sum_reaches (2 ^ i) (2 ^ low f) (n * up d) (down d) (m * up e * down d) (down e) h)
    (le_of_eq (omega arith)))) w

-- the square of what reaches 2 ^ j smallest values, where 4 ^ j is not below the smallest value again
square_reaches : (b c l x p : ℕ) → 0 < l → c * l ≡ b * b → b * p ≤ x * l → c * (p * p) ≤ x * x * l
square_reaches b c l x p L e h =
    le_of_mul-le-mul_right {k = l} (let g = ap (λ (z : ℕ). z * (p * p)) e in let r = mul-le-mul h h in omega arith) L

pub square_at_least : (f : Format) (i j k : ℕ) (x : Float) → i ≤ low f + emax f → i + low f ≡ j + j → Reaches f j x
    → AtMostPower k (mul f x x) → AtLeast f i (mul f x x)
unfolding mul
square_at_least f i j k nan I e h w = h
square_at_least f i j k (inf s) I e h w = absurd h
square_at_least f i j k (fin s m d) I e h w = go s w
  where
    powers : 2 ^ i * 2 ^ low f ≡ 2 ^ j * 2 ^ j
    powers = sym (pow-add 2 i (low f)) ∙ ap (λ (z : ℕ). 2 ^ z) e ∙ pow-add 2 j j

    go : (t : Bool) → AtMostPower k (round f (unlike t t) (m * up d * (m * up d)) (down d * down d))
        → AtLeast f i (round f (unlike t t) (m * up d * (m * up d)) (down d * down d))
    go true v =
        round_at_least f (m * up d * (m * up d)) (down d * down d) i k (mul-pos (down_pos d) (down_pos d)) I
        (square_reaches (2 ^ j) (2 ^ i) (2 ^ low f) (m * up d) (down d) (pow_pos (low f)) powers h) v
    go false v =
        round_at_least f (m * up d * (m * up d)) (down d * down d) i k (mul-pos (down_pos d) (down_pos d)) I
        (square_reaches (2 ^ j) (2 ^ i) (2 ^ low f) (m * up d) (down d) (pow_pos (low f)) powers h) v

-- ---- what a comparison says

pub not_zero : (b p a l q : ℕ) → 0 < b → 0 < p → 0 < q → b * p ≤ a * l → a * q ≡ 0 → ⊥
not_zero b p a l q B P Q h e =
    let r = mul-pos (mul-pos B P) Q in
    let s = mul-le-mul_right q h in
    let g = ap (λ (z : ℕ). z * l) e in
    omega arith

-- x at least 2 ^ i units, x ≤ y, and y < z: so is z
pub below_at_least : (f : Format) (i k : ℕ) (x y z : Float) → AtLeast f i x → T (le x y) → T (lt y z)
    → AtMostPower k z → AtLeast f i z
unfolding le lt
below_at_least f i k nan y z h s t w = absurd h
below_at_least f i k (inf r) y z h s t w = absurd h
below_at_least f i k (fin true m e) y z h s t w = absurd h
below_at_least f i k (fin false m e) nan z h s t w = absurd s
below_at_least f i k (fin false m e) (inf true) z h s t w = absurd s
below_at_least f i k (fin false m e) (inf false) nan h s t w = absurd t
below_at_least f i k (fin false m e) (inf false) (inf r) h s t w = absurd w
below_at_least f i k (fin false m e) (inf false) (fin r p c) h s t w = absurd t
below_at_least f i k (fin false m e) (fin true n d) z h s t w =
    let a = m * up e * down d in
    absurd (not_zero (2 ^ i) (down e) (m * up e) (2 ^ low f) (down d) (pow_pos i) (down_pos e) (down_pos d) h
    (eqb→eq a 0 (and_r (eqb a (n * up d * down e)) (eqb a 0) s)))
below_at_least f i k (fin false m e) (fin false n d) nan h s t w = absurd t
below_at_least f i k (fin false m e) (fin false n d) (inf r) h s t w = absurd w
below_at_least f i k (fin false m e) (fin false n d) (fin true p c) h s t w = absurd t
below_at_least f i k (fin false m e) (fin false n d) (fin false p c) h s t w =
    through (2 ^ i) (m * up e) (p * up c) (2 ^ low f) (down e) (down c) (down_pos e) h
    (through (m * up e) (n * up d) (p * up c) (down e) (down d) (down c) (down_pos d)
    (not_above (m * up e * down d) (n * up d * down e) s)
    (let l = ltb→lt (n * up d * down c) (p * up c * down d) t in omega arith))

-- ---- quotients

-- both finite, and x at most 2 ^ k times y in size
abbrev pub NotBeyond : ℕ → Float → Float → Type 0
NotBeyond k nan y = ⊥
NotBeyond k (inf s) y = ⊥
NotBeyond k (fin s m e) nan = ⊥
NotBeyond k (fin s m e) (inf t) = ⊥
NotBeyond k (fin s m e) (fin t n d) = m * up e * down d ≤ 2 ^ k * (n * up d * down e)

-- ---- the power of two below a value

-- a / p lies from a power of two up to its double, for an a / p that is not below 1
pub power_below : (a p : ℕ) → 0 < p → p ≤ a → (j : ℕ) × (2 ^ j * p ≤ a) × (a < 2 ^ suc j * p)
power_below a p P h = go (size (a / p)) (size-lt (a / p)) (size_reaches (a / p))
  where
    one_at_least : 1 ≤ a / p
    one_at_least = (le-div_iff_mul-le P).1 (omega arith)

    go : (z : ℕ) → a / p < 2 ^ z → ((j : ℕ) → j < z → 2 ^ j ≤ a / p) → (j : ℕ) × (2 ^ j * p ≤ a) × (a < 2 ^ suc j * p)
    go zero u r = let l = one_at_least in absurd (omega arith)
    go (suc j) u r = (j, (le-div_iff_mul-le P).0 (r j (omega arith)), (div-lt_iff_lt-mul P).0 u)

twice_through : (x l b e y d : ℕ) → 0 < l → x * l ≤ b * 2 * e → b * d ≤ y * l → x * d ≤ 2 * (y * e)
twice_through x l b e y d L h g =
    le_of_mul-le-mul_right {k = l} (let r = mul-le-mul_right d h in let s = mul-le-mul_right e g in omega arith) L

-- x is below twice the power that y reaches, so below twice y
pub below_twice : (f : Format) (j : ℕ) (s : Bool) (m : ℕ) (e : ℤ) (y : Float)
    → m * up e * 2 ^ low f ≤ 2 ^ suc j * down e → AtLeast f j y → NotBeyond 1 (fin s m e) y
below_twice f j s m e nan h g = g
below_twice f j s m e (inf t) h g = g
below_twice f j s m e (fin true n d) h g = absurd g
below_twice f j s m e (fin false n d) h g =
    twice_through (m * up e) (2 ^ low f) (2 ^ j) (down e) (n * up d) (down d) (pow_pos (low f))
    (subst (λ (z : ℕ). m * up e * 2 ^ low f ≤ z * down e) (pow-suc 2 j) h) g
