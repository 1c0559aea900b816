-- Norms of small vectors. A sum of squares from +0 is finite and has the sign +, so its root has a value, and the
-- norm is finite. A norm that exceeds the tolerance, if that is 1e-9 or more, is at least half of every component, so
-- that a normalised vector's numbers are at most 2 in size: if 2 ^ k ≤ |x| then x² rounds to at least 4 ^ k, and so
-- the norm is at least 2 ^ k. Where |x| is at most 2 ^ −29 it is at most twice the tolerance. Leans on Sizes and
-- Roots.
use Rattle.std.specs.Prelude.{◌≡◌, Bool, true, false, not, [], ◌∷◌, ℕ, suc, ◌+◌, ◌-◌, ◌*◌, ◌^◌, ◌≤◌, ◌<◌, T, leb}
use Rattle.std.specs.Prelude.{length, Float}
use Rattle.std.proofs.Common.{sym, ap, subst, mul-le-mul_right, mul-lt-mul_of_pos_right, arith, leb→le, lit≤, pow_pos}
use Rattle.std.proofs.Common.{pow_mono, pow-add}
use Rattle.std.proofs.Math.Dec.{nleb→lt}
use Rattle.std.proofs.Math.Pow.{pow-lt}
use Rattle.std.proofs.lemmas.List.{length-map}
use Rattle.std.specs.Float.{nan, inf, fin, binary64}
use Rattle.std.specs.Float.Ieee.{up, down, of_bits, add, mul, div, lt, le, fits}
use Rattle.std.specs.Float.Ieee.Fits.{down_pos}
use Rattle.laws.specs.Floats.{wider}
use Rattle.laws.proofs.Sums.{add_sized, mul_sized}
use Rattle.laws.specs.LowerBounds.{Plus, AtLeast, Reaches, NotBeyond, add_plus, square_plus, square_at_least}
use Rattle.laws.specs.LowerBounds.{add_at_least_left, add_at_least_right, below_at_least, power_below, below_twice}
use Rattle.laws.proofs.LowerBounds.{div_sized}
use Rattle.definitions.specs.Vectors.{Vec, zero64, dot_from, dot, value_of, square_root, has_root, norm, normalised}
use Rattle.definitions.specs.Job.{least_tolerance}
use Rattle.bounds.specs.Sizes.{Each, each_map, each_both, Double, Small, zero_small}
use Rattle.bounds.specs.Roots.{root_small, root_at_least, plus_has_root}

-- ---- a sum of squares

-- a finite double of size at most 2 ^ k with the sign +
pub record NotNegative (k : ℕ) (x : Float) : Type 0 where
  pub double : Double k x
  pub plus : Plus x

square_not_negative : (k : ℕ) (x : Float) → k + k ≤ 1023 → Double k x → NotNegative (k + k) (mul binary64 x x)
square_not_negative k x K h =
    let d = mul_sized binary64 k k x x K h h in
    record { double = d; plus = square_plus binary64 (k + k) x d.within }

sum_not_negative : (k : ℕ) (x y : Float) → suc k ≤ 1023 → NotNegative k x → NotNegative k y
    → NotNegative (suc k) (add binary64 x y)
sum_not_negative k x y K a b =
    let d = add_sized binary64 k x y K a.double b.double in
    record { double = d; plus = add_plus binary64 (suc k) x y a.plus b.plus d.within }

not_negative_wider : {j k : ℕ} {x : Float} → j ≤ k → NotNegative j x → NotNegative k x
not_negative_wider h a = record { double = wider h a.double; plus = a.plus }

-- one step of a sum of squares
step_not_negative : (k i : ℕ) (sum x : Float) → k + k + suc i ≤ 1023 → NotNegative (k + k + i) sum → Double k x
    → NotNegative (k + k + suc i) (add binary64 sum (mul binary64 x x))
step_not_negative k i sum x K s a =
    not_negative_wider (omega arith) (sum_not_negative (k + k + i) sum (mul binary64 x x) (omega arith) s
    (not_negative_wider (omega arith) (square_not_negative k x (omega arith) a)))

squares_not_negative : (k i : ℕ) (sum : Float) (xs : Vec) → k + k + i + length xs ≤ 1023 → NotNegative (k + k + i) sum
    → Each (Double k) xs → NotNegative (k + k + i + length xs) (dot_from sum xs xs)
unfolding dot_from
squares_not_negative k i sum [] K s a = not_negative_wider (omega arith) s
squares_not_negative k i sum (x ∷ xs) K s a =
    not_negative_wider (omega arith)
    (squares_not_negative k (suc i) (add binary64 sum (mul binary64 x x)) xs (omega arith)
    (step_not_negative k i sum x (omega arith) s a.0) a.1)

zero_not_negative : (k : ℕ) → NotNegative k zero64
unfolding of_bits
zero_not_negative k = record { double = zero_small k; plus = tt }

pub squared_not_negative : (n k : ℕ) (v : Vec) → k + k + n ≤ 1023 → Small n k v → NotNegative (k + k + n) (dot v v)
unfolding dot
squared_not_negative n k v K a =
    let short = a.short in
    not_negative_wider (omega arith)
    (squares_not_negative k 0 zero64 v (omega arith) (zero_not_negative (k + k + 0)) a.sized)

-- ---- the norm has a value

-- the root that a norm asks for
pub norm_has_root : (n k : ℕ) (v : Vec) → k + k + n ≤ 1023 → Small n k v → has_root (dot v v) ≡ true
norm_has_root n k v K a = plus_has_root (dot v v) (squared_not_negative n k v K a).plus

pub norm_finite : (n k : ℕ) (v : Vec) → k + k + n ≤ 1023 → Small n k v → Double 539 (norm v)
unfolding norm
norm_finite n k v K a = let s = squared_not_negative n k v K a in root_small (dot v v) s.double.holds s.plus

-- ---- each component against the sum

-- the square of what x reaches is a bound for the sum
abbrev Dominates : Float → Float → Type 0
Dominates sum x = (i j : ℕ) → i + 1074 ≡ j + j → i ≤ 2097 → Reaches binary64 j x → AtLeast binary64 i sum

kept : (k i c : ℕ) (sum : Float) (xs : Vec) → k + k + i + length xs ≤ 1023 → c ≤ 2097 → NotNegative (k + k + i) sum
    → AtLeast binary64 c sum → Each (Double k) xs
    → AtLeast binary64 c (dot_from sum xs xs)
unfolding dot_from
kept k i c sum [] K C s g a = g
kept k i c sum (x ∷ xs) K C s g a =
    let next = step_not_negative k i sum x (omega arith) s a.0 in
    let square = square_not_negative k x (omega arith) a.0 in
    kept k (suc i) c (add binary64 sum (mul binary64 x x)) xs (omega arith) C next
    (add_at_least_left binary64 c (k + k + suc i) sum (mul binary64 x x) C g square.plus next.double.within) a.1

each_dominated : (k i : ℕ) (sum : Float) (xs : Vec) → k + k + i + length xs ≤ 1023 → NotNegative (k + k + i) sum
    → Each (Double k) xs → Each (Dominates (dot_from sum xs xs)) xs
unfolding dot_from
each_dominated k i sum [] K s a = tt
each_dominated k i sum (x ∷ xs) K s a =
    let next = step_not_negative k i sum x (omega arith) s a.0 in
    let square = square_not_negative k x (omega arith) a.0 in (
      λ c j e C r.
          kept k (suc i) c (add binary64 sum (mul binary64 x x)) xs (omega arith) C next
          (add_at_least_right binary64 c (k + k + suc i) sum (mul binary64 x x) C s.plus
          (square_at_least binary64 c j (k + k) x C e r square.double.within) next.double.within) a.1,
      each_dominated k (suc i) (add binary64 sum (mul binary64 x x)) xs (omega arith) next a.1,
    )

pub components_dominated : (n k : ℕ) (v : Vec) → k + k + n ≤ 1023 → Small n k v → Each (Dominates (dot v v)) v
unfolding dot
components_dominated n k v K a =
    let short = a.short in
    each_dominated k 0 zero64 v (omega arith) (zero_not_negative (k + k + 0)) a.sized

-- ---- a component against the norm

exponent_above : (b j a p : ℕ) → 2 ^ b * p < a → a < 2 ^ suc j * p → b ≤ j
exponent_above b j a p h g = go (leb b j) (leb→le b j) (nleb→lt b j)
  where
    go : (t : Bool) → (T t → b ≤ j) → (T (not t) → j < b) → b ≤ j
    go true y n = y tt
    go false y n = let l = mul-le-mul_right p (pow_mono {i = suc j} {j = b} (n tt)) in absurd (omega arith)

exponent_below : (j k l a p : ℕ) → 0 < p → 2 ^ j * p ≤ a → a ≤ 2 ^ k * p * 2 ^ l → j ≤ k + l
exponent_below j k l a p P h g = go (leb j (k + l)) (leb→le j (k + l)) (nleb→lt j (k + l))
  where
    go : (t : Bool) → (T t → j ≤ k + l) → (T (not t) → k + l < j) → j ≤ k + l
    go true y n = y tt
    go false y n =
        let s : 2 ^ (k + l) * p < 2 ^ j * p = mul-lt-mul_of_pos_right (pow-lt (n tt)) P in
        let e = ap (λ (z : ℕ). z * p) (pow-add 2 k l) in
        absurd (omega arith)

-- the half of x is at most the root of the sum, if that is at least 2 ^ −30
component_half : (k : ℕ) (x sum : Float) → k + k ≤ 1023 → Double k x → T (fits binary64 sum) → Dominates sum x
    → AtLeast binary64 1044 (value_of (square_root sum))
    → NotBeyond 1 x (value_of (square_root sum))
component_half k nan sum K h f d g = absurd h.within
component_half k (inf s) sum K h f d g = absurd h.within
component_half k (fin s m e) sum K h f d g =
    let root = value_of (square_root sum) in
    let a = m * up e * 2 ^ 1074 in
    let large : T (not (leb a (2 ^ 1045 * down e))) → NotBeyond 1 (fin s m e) root = λ t.
    let above = nleb→lt a (2 ^ 1045 * down e) t in
    let found = power_below a (down e) (down_pos e) (one_at_least (2 ^ 1045) (down e) a (pow_pos 1045) above) in
    let j = found.0 in
    let j-above : 1045 ≤ j = exponent_above 1045 j a (down e) above found.2 in
    let j-below : j
    ≤ k + 1074 = exponent_below j k 1074 a (down e) (down_pos e) found.1 (mul-le-mul_right (2 ^ 1074) h.within) in
    below_twice binary64 j s m e root (weaken a (2 ^ suc j * down e) found.2)
    (root_at_least (j + j - 1074) j sum f (omega arith) (omega arith)
    (d (j + j - 1074) j (omega arith) (omega arith) found.1)) in
    go (leb a (2 ^ 1045 * down e)) (λ t. below_twice binary64 1044 s m e root (leb→le a (2 ^ 1045 * down e) t) g) large
  where
    one_at_least : (b p a : ℕ) → 0 < b → b * p < a → p ≤ a
    one_at_least b p a B l = let s = mul-le-mul_right p B in omega arith

    weaken : (a b : ℕ) → a < b → a ≤ b
    weaken a b l = omega arith

    go : {X : Type 0} (t : Bool) → (T t → X) → (T (not t) → X) → X
    go true y n = y tt
    go false y n = n tt

-- ---- normalised vectors

-- the least tolerance of a job is more than 2 ^ −30
least_reaches : AtLeast binary64 1044 least_tolerance
unfolding of_bits
least_reaches = lit≤ tt

pub normalised_small : (n k : ℕ) (tolerance : Float) (v : Vec) → k + k + n ≤ 1023 → T (le least_tolerance tolerance)
    → T (lt tolerance (norm v)) → Small n k v → Small n 1 (normalised v)
unfolding normalised norm
normalised_small n k tolerance v K low t a =
    let s = squared_not_negative n k v K a in
    let root = value_of (square_root (dot v v)) in
    let reached : AtLeast binary64 1044 root = below_at_least binary64 1044 539 least_tolerance tolerance root
    least_reaches low t (norm_finite n k v K a).within in
    record {
      short = subst (λ (z : ℕ). z ≤ n) (sym (length-map v (λ (x : Float). div binary64 x root))) a.short;
      sized =
          each_map (λ (x : Float). Double k x × Dominates (dot v v) x) (Double 1) (λ (x : Float). div binary64 x root)
          (λ x h. div_sized binary64 1044 1 x root (lit≤ tt) reached
          (component_half k x (dot v v) (omega arith) h.0 s.double.holds h.1 reached)) v
          (each_both (Double k) (Dominates (dot v v)) v a.sized (components_dominated n k v K a));
    }
