-- Numbers and vectors: docs/SPECIFICATION.md, chapter 3. A float is a value of lib.Ieee; its add, sub, mul and div
-- at binary64 are those of IEEE 754, rounded once each.
-- The root is given twice: as a definition that computes, and by what IEEE 754 says of it (`NearestRoot`), with
-- whole numbers only.
use Rattle.std.specs.Prelude.{◌≡◌, Bool, true, false, cond, List, [], ◌∷◌, map, ℕ, zero, suc, ◌+◌, ◌*◌, ◌/◌, ◌%◌, ◌^◌}
use Rattle.std.specs.Prelude.{◌≤◌, ◌<◌, T, leb, eqb, pos, negsuc, Float}
use Rattle.std.specs.Prelude.{Option, Some, None}
use Rattle.std.specs.Float.{nan, inf, fin, binary64}
use Rattle.std.specs.Float.Ieee.{round, add, sub, mul, div, of_bits, to_bits, fits, up, down, low}

-- [3.1] a list of doubles
abbrev pub Vec : Type 0
Vec = List Float

-- [3.1] +0
abbrev pub zero64 : Float
zero64 = of_bits binary64 0

-- ---- the square root, as it is worked out

-- [3.2] The largest r whose square is at most n, for n below 4 ^ digits: the root of n / 4, and one binary digit
-- more.
unfoldable pub whole_root : ℕ → ℕ → ℕ
whole_root zero n = 0
whole_root (suc digits) n =
    let twice = 2 * whole_root digits (n / 4) in
    cond (leb (suc twice * suc twice) n) (suc twice) twice

-- [3.2] 2 √n where √n is a whole number, and else the odd number next to it: it lies on the same side of every even
-- number as 2 √n does.
unfoldable pub twice_root : ℕ → ℕ → ℕ
twice_root n r = cond (eqb (r * r) n) (2 * r) (2 * r + 1)

-- [3.2] √m × a / b, rounded once. √m is taken with 56 binary digits behind the point, so that the last of them lies
-- below every digit that rounding looks at.
unfoldable pub root_times : ℕ → ℕ → ℕ → Float
root_times m a b = let n = m * 2 ^ 112 in round binary64 false (twice_root n (whole_root 84 n) * a) (b * 2 ^ 57)

-- [3.2] The root, with a value exactly for finite doubles not below zero; a zero keeps its sign. m × 2 ^ e is m or
-- 2 m times an even power of 2, whose root is taken by halving the exponent.
unfoldable pub square_root : Float → Option Float
square_root nan = None
square_root (inf s) = None
square_root (fin s zero e) = Some (fin s zero e)
square_root (fin true (suc m) e) = None
square_root (fin false (suc m) (pos k)) = Some (root_times (suc m * 2 ^ (k % 2)) (2 ^ (k / 2)) 1)
square_root (fin false (suc m) (negsuc k)) = Some (root_times (suc m * 2 ^ (suc k % 2)) 1 (2 ^ (suc (suc k) / 2)))

-- ---- the square root, as IEEE 754 has it

-- [3.3] A finite double that is not below zero, as a whole number of the smallest double, 2 ^ −1074.
unfoldable pub units_in : Float → ℕ
units_in nan = 0
units_in (inf s) = 0
units_in (fin s m e) = m * up e * 2 ^ low binary64 / down e

-- [3.3] 4 x in squared units: y and r lie equally far from √x exactly when (y + r)² is this number.
unfoldable pub four_times : Float → ℕ
four_times x = 4 * units_in x * 2 ^ low binary64

-- [3.3] (r + y)², in squared units
unfoldable pub sum_squared : Float → Float → ℕ
sum_squared r y = (units_in r + units_in y) * (units_in r + units_in y)

-- [3.3] a finite double
unfoldable pub is_double : Float → Bool
is_double nan = false
is_double (inf s) = false
is_double (fin s m e) = fits binary64 (fin s m e)

-- [3.3] whether a value has the sign −, as −0 has
unfoldable pub sign_of : Float → Bool
sign_of nan = false
sign_of (inf s) = s
sign_of (fin s m e) = s

-- [3.3] r is the double nearest to √x, and at a tie the even one, by whole numbers alone. Of two doubles r < y, y
-- lies nearer to √x exactly when √x is above their middle, that is when (r + y)² < 4 x. Only doubles y not below
-- zero are asked: zero lies nearer to a root than anything below zero does.
pub record NearestRoot (x r : Float) : Type 0 where
  pub double : T (is_double r)
  -- the root has the sign of x: that of −0 is −0
  pub sign : sign_of r ≡ sign_of x
  -- no double above r lies nearer, and none below
  pub none_above : (y : Float) → T (is_double y) → sign_of y ≡ false → units_in r < units_in y
      → four_times x ≤ sum_squared r y
  pub none_below : (y : Float) → T (is_double y) → sign_of y ≡ false → units_in y < units_in r
      → sum_squared r y ≤ four_times x
  -- at a tie the last bit of r is 0
  pub even_at_tie : (y : Float) → T (is_double y) → sign_of y ≡ false → (units_in y ≡ units_in r → ⊥)
      → sum_squared r y ≡ four_times x → to_bits binary64 r % 2 ≡ 0

-- [3.2] finite and not below zero; −0 is not below zero
unfoldable pub has_root : Float → Bool
has_root nan = false
has_root (inf s) = false
has_root (fin s zero e) = true
has_root (fin s (suc m) e) = cond s false true

-- [3.3] [13.2] What is to be proved of the definition: it has a value exactly where [3.2] says so, and that is the
-- nearest one.
pub record RootIsIeee : Type 0 where
  pub value : (x : Float) → T (is_double x) → has_root x ≡ true
      → (r : Float) × (square_root x ≡ Some r) × NearestRoot x r
  pub refusal : (x : Float) → has_root x ≡ false → square_root x ≡ None

-- ---- vectors

-- [3.4] each product is rounded and added to the sum so far, in index order
unfoldable pub dot_from : Float → Vec → Vec → Float
dot_from sum [] ys = sum
dot_from sum (x ∷ xs) [] = sum
dot_from sum (x ∷ xs) (y ∷ ys) = dot_from (add binary64 sum (mul binary64 x y)) xs ys

-- [3.4] the sum begins with +0
unfoldable pub dot : Vec → Vec → Float
dot = dot_from zero64

-- [3.5] Where a root has no value a norm is `nan`. No job that passes its own tests comes to it: that is a
-- promise of its own.
unfoldable pub value_of : Option Float → Float
value_of None = nan
value_of (Some x) = x

-- [3.5] the root of v · v
unfoldable pub norm : Vec → Float
norm v = value_of (square_root (dot v v))

-- [3.5] each component divided by the norm
unfoldable pub normalised : Vec → Vec
normalised v = let length = norm v in map (λ (x : Float). div binary64 x length) v

-- [3.6] p − q
unfoldable pub minus : Vec → Vec → Vec
minus [] qs = []
minus (p ∷ ps) [] = []
minus (p ∷ ps) (q ∷ qs) = sub binary64 p q ∷ minus ps qs

-- [3.6] q + b × s, the product rounded, then the sum
unfoldable pub plus_times : Vec → Vec → Float → Vec
plus_times [] bs s = []
plus_times (q ∷ qs) [] s = []
plus_times (q ∷ qs) (b ∷ bs) s = add binary64 q (mul binary64 b s) ∷ plus_times qs bs s
