-- Vectors of bounded numbers. `Small n k v`: at most n numbers, each a finite double of size at most 2 ^ k.
-- Differences, dot products, projections, residuals and flattened points of such vectors are small too, by exponents
-- that grow with n. Basis vectors have numbers of size at most 2. Leans on the sizes of floats in `laws`.
use Rattle.std.proofs.Common.{sym, subst, zero-le, le_trans, arith}
use Rattle.std.specs.Prelude.{List, [], ◌∷◌, ◌++◌, map, ℕ, zero, suc, ◌+◌, ◌*◌, ◌≤◌, T, length, get_or, Float}
use Rattle.std.proofs.lemmas.List.{length-map}
use Rattle.std.specs.Float.{nan, inf, fin, binary64}
use Rattle.std.specs.Float.Ieee.{of_bits, add, mul, fits}
use Rattle.laws.specs.Floats.{AtMostPower, Sized, wider}
use Rattle.laws.proofs.Differences.{sub_sized}
use Rattle.laws.proofs.Sums.{add_sized, mul_sized}
use Rattle.definitions.specs.Vectors.{Vec, zero64, is_double, dot_from, dot, minus, plus_times}
use Rattle.definitions.specs.Subspace.{Subspace, gains, project, residual, flatten}

-- ---- every item of a list

abbrev pub Each : {A : Type 0} → (A → Type 0) → List A → Type 0
Each P [] = Unit {0}
Each P (x ∷ xs) = P x × Each P xs

module _ {A : Type 0} (P : A → Type 0) where
  pub each_append : (xs ys : List A) → Each P xs → Each P ys → Each P (xs ++ ys)
  each_append [] ys h g = g
  each_append (x ∷ xs) ys h g = (h.0, each_append xs ys h.1 g)

  -- also where there is no such place, if what stands for it has the property
  pub each_get_d : (xs : List A) (i : ℕ) (other : A) → P other → Each P xs → P (get_or xs i other)
  each_get_d [] i other p h = p
  each_get_d (x ∷ xs) zero other p h = h.0
  each_get_d (x ∷ xs) (suc i) other p h = each_get_d xs i other p h.1

  pub each_of_map : {B : Type 0} (f : B → A) → ((x : B) → P (f x)) → (xs : List B) → Each P (map f xs)
  each_of_map f g [] = tt
  each_of_map f g (x ∷ xs) = (g x, each_of_map f g xs)

module _ {A B : Type 0} (P : A → Type 0) (Q : B → Type 0) where
  pub each_map : (f : A → B) → ((x : A) → P x → Q (f x)) → (xs : List A) → Each P xs → Each Q (map f xs)
  each_map f g [] h = tt
  each_map f g (x ∷ xs) h = (g x h.0, each_map f g xs h.1)

module _ {A : Type 0} (P Q : A → Type 0) where
  pub each_so : ((x : A) → P x → Q x) → (xs : List A) → Each P xs → Each Q xs
  each_so f [] h = tt
  each_so f (x ∷ xs) h = (f x h.0, each_so f xs h.1)

  pub each_both : (xs : List A) → Each P xs → Each Q xs → Each (λ (x : A). P x × Q x) xs
  each_both [] h g = tt
  each_both (x ∷ xs) h g = ((h.0, g.0), each_both xs h.1 g.1)

-- ---- doubles

-- a finite double of size at most 2 ^ k
abbrev pub Double : ℕ → Float → Type 0
Double = Sized binary64

abbrev pub IsDouble : Float → Type 0
IsDouble x = T (is_double x)

finite_double : (k : ℕ) (x : Float) → T (fits binary64 x) → AtMostPower k x → IsDouble x
unfolding is_double
finite_double k nan h w = w
finite_double k (inf s) h w = w
finite_double k (fin s m e) h w = h

pub is_double_holds : (k : ℕ) (x : Float) → Double k x → IsDouble x
is_double_holds k x d = finite_double k x d.holds d.within

-- +0 is within every bound
pub zero_small : (k : ℕ) → Double k zero64
unfolding of_bits fits
zero_small k = record { holds = tt; within = zero-le }

-- ---- vectors

-- at most n numbers, each a finite double of size at most 2 ^ k
pub record Small (n k : ℕ) (v : Vec) : Type 0 where
  pub short : length v ≤ n
  pub sized : Each (Double k) v

pub small_wider : {n j k : ℕ} (v : Vec) → j ≤ k → Small n j v → Small n k v
small_wider {j = j} {k = k} v h s = record {
  short = s.short;
  sized = each_so (Double j) (Double k) (λ x. wider h) v s.sized;
}

-- no numbers at all
pub small_none : (n k : ℕ) → Small n k []
small_none n k = record { short = zero-le; sized = tt }

-- ---- differences

minus_sized : (k : ℕ) (ps qs : Vec) → suc k ≤ 1023 → Each (Double k) ps → Each (Double k) qs
    → Each (Double (suc k)) (minus ps qs)
unfolding minus
minus_sized k [] qs K a b = tt
minus_sized k (p ∷ ps) [] K a b = tt
minus_sized k (p ∷ ps) (q ∷ qs) K a b = (sub_sized binary64 k p q K a.0 b.0, minus_sized k ps qs K a.1 b.1)

minus_short : (ps qs : Vec) → length (minus ps qs) ≤ length ps
unfolding minus
minus_short [] qs = zero-le
minus_short (p ∷ ps) [] = zero-le
minus_short (p ∷ ps) (q ∷ qs) = let h = minus_short ps qs in omega arith

pub minus_small : {n k : ℕ} (ps qs : Vec) → suc k ≤ 1023 → Small n k ps → Small n k qs → Small n (suc k) (minus ps qs)
minus_small {k = k} ps qs K a b = record {
  short = le_trans (minus_short ps qs) a.short;
  sized = minus_sized k ps qs K a.sized b.sized;
}

-- ---- dot products

-- Each product is at most 2 ^ (j + k), and each sum at most twice as large as the one before.
dot_from_sized : (j k i : ℕ) (sum : Float) (xs ys : Vec) → j + k + i + length xs ≤ 1023 → Double (j + k + i) sum
    → Each (Double j) xs → Each (Double k) ys
    → Double (j + k + i + length xs) (dot_from sum xs ys)
unfolding dot_from
dot_from_sized j k i sum [] ys K s a b = wider (omega arith) s
dot_from_sized j k i sum (x ∷ xs) [] K s a b = wider (omega arith) s
dot_from_sized j k i sum (x ∷ xs) (y ∷ ys) K s a b =
    wider (omega arith)
    (dot_from_sized j k (suc i) (add binary64 sum (mul binary64 x y)) xs ys (omega arith)
    (wider (omega arith) (add_sized binary64 (j + k + i) sum (mul binary64 x y) (omega arith) s
    (wider (omega arith) (mul_sized binary64 j k x y (omega arith) a.0 b.0)))) a.1 b.1)

pub dot_sized : (n j k : ℕ) (xs ys : Vec) → j + k + n ≤ 1023 → Small n j xs → Small n k ys
    → Double (j + k + n) (dot xs ys)
unfolding dot
dot_sized n j k xs ys K a b =
    let short = a.short in
    wider (omega arith) (dot_from_sized j k 0 zero64 xs ys (omega arith) (zero_small (j + k + 0)) a.sized b.sized)

-- ---- projections

plus_times_sized : (c t : ℕ) (qs bs : Vec) (s : Float) → suc c ≤ t → suc t ≤ 1023 → Each (Double t) qs
    → Each (Double 1) bs → Double c s → Each (Double (suc t)) (plus_times qs bs s)
unfolding plus_times
plus_times_sized c t [] bs s C K a b h = tt
plus_times_sized c t (q ∷ qs) [] s C K a b h = tt
plus_times_sized c t (q ∷ qs) (x ∷ xs) s C K a b h = (
  add_sized binary64 t q (mul binary64 x s) K a.0
      (wider (omega arith) (mul_sized binary64 1 c x s (omega arith) b.0 h)),
  plus_times_sized c t qs xs s C K a.1 b.1 h,
)

plus_times_short : (qs bs : Vec) (s : Float) → length (plus_times qs bs s) ≤ length qs
unfolding plus_times
plus_times_short [] bs s = zero-le
plus_times_short (q ∷ qs) [] s = zero-le
plus_times_short (q ∷ qs) (b ∷ bs) s = let h = plus_times_short qs bs s in omega arith

-- each basis vector at most doubles the bound, once it is above what is gained
gains_small : (n c t : ℕ) (away : Vec) (bs : List Vec) (q : Vec) → c + n + 2 ≤ t → t + length bs ≤ 1023
    → Small n c away → Each (Small n 1) bs → Small n t q
    → Small n (t + length bs) (gains away bs q)
unfolding gains
gains_small n c t away [] q C K a b h = small_wider q (omega arith) h
gains_small n c t away (x ∷ xs) q C K a b h =
    let s = dot away x in
    let size : Double (c + 1 + n) s = dot_sized n c 1 away x (omega arith) a b.0 in
    let next : Small n (suc t) (plus_times q x s) = record {
      short = le_trans (plus_times_short q x s) h.short;
      sized = plus_times_sized (c + 1 + n) t q x s (omega arith) (omega arith) h.sized b.0.sized size;
    } in
    small_wider (gains away xs (plus_times q x s)) (omega arith)
    (gains_small n c (suc t) away xs (plus_times q x s) (omega arith) (omega arith) a b.1 next)

-- ---- subspaces

-- an offset of small numbers, and at most n basis vectors whose numbers are at most 2 in size
pub record Tame (n k : ℕ) (s : Subspace) : Type 0 where
  pub offset : Small n k s.offset
  pub basis : Each (Small n 1) s.basis
  pub few : length s.basis ≤ n

pub project_small : (n k : ℕ) (s : Subspace) (p : Vec) → k + 3 + 2 * n ≤ 1023 → Tame n k s → Small n k p
    → Small n (k + 3 + 2 * n) (project s p)
unfolding project
project_small n k s p K h a =
    let few = h.few in
    let away = minus p s.offset in
    small_wider (gains away s.basis s.offset) (omega arith)
    (gains_small n (suc k) (k + 3 + n) away s.basis s.offset (omega arith) (omega arith)
    (minus_small p s.offset (omega arith) a h.offset) h.basis (small_wider s.offset (omega arith) h.offset))

pub residual_small : (n k : ℕ) (s : Subspace) (p : Vec) → k + 4 + 2 * n ≤ 1023 → Tame n k s → Small n k p
    → Small n (k + 4 + 2 * n) (residual s p)
unfolding residual
residual_small n k s p K h a =
    small_wider (minus p (project s p)) (omega arith) (minus_small p (project s p) (omega arith)
    (small_wider p (omega arith) a) (project_small n k s p (omega arith) h a))

pub flatten_small : (n k : ℕ) (s : Subspace) (p : Vec) → k + 2 + n ≤ 1023 → Tame n k s → Small n k p
    → Small n (k + 2 + n) (flatten s p)
unfolding flatten
flatten_small n k s p K h a = record {
  short = subst (λ (z : ℕ). z ≤ n) (sym (length-map s.basis (dot (minus p s.offset)))) h.few;
  sized =
      each_map (Small n 1) (Double (k + 2 + n)) (dot (minus p s.offset))
      (λ b small. wider (omega arith) (dot_sized n (suc k) 1 (minus p s.offset) b (omega arith)
      (minus_small p s.offset (omega arith) a h.offset) small)) s.basis h.basis;
}
