-- The turns of the loops over an orbit's facets. Leans on Facets.
use mathlib.Core.Path.{◌≡◌, sym, ap, ◌∙◌}
use mathlib.Core.List.{List, [], ◌++◌, flat_map}
use Prim.Native.Nat.{ℕ, zero, suc, ◌+◌, ◌-◌, ◌≤◌, ◌<◌}
use native.Mathlib.Numerals.{add-one}
use native.Mathlib.Omega.{arith}
use borrow.Author.Tests.{eq-eqb, ne_eqb}
use lib.ListN.{length, get_or, take, drop, length-drop, drop_of_length-le}
use lib.Seq.{drop-cons, get_or-drop}
use Rattle.std.specs.Prelude.{Option, None, Some, MatchOption}
use Rattle.std.specs.Option.{unwrap_or}
use Rattle.definitions.specs.Lists.{place_of}
use Rattle.possible_facets.specs.Facets.{leading}
use Rattle.figure_words.specs.Laws.{flat_more}

-- ---- the end of an orbit

module _ (orbit : ℕ) (l : List ℕ) (i : ℕ) where
  pub leading_stops : i < length l → (get_or l i 0 ≡ orbit → ⊥) → i ≡ i + leading orbit (drop i l)
  unfolding leading place_of
  leading_stops h ne = rw (drop-cons l i 0 h, ne_eqb (get_or l i 0) orbit ne) (omega arith)

  pub leading_more : i < length l → get_or l i 0 ≡ orbit
      → i + 1 + leading orbit (drop (i + 1) l) ≡ i + leading orbit (drop i l)
  unfolding leading place_of
  leading_more h e = rw (drop-cons l i 0 h, eq-eqb (get_or l i 0) orbit e, add-one i) (omega arith)

  pub leading_ends : length l ≤ i → i ≡ i + leading orbit (drop i l)
  unfolding leading place_of
  leading_ends h = rw (drop_of_length-le l h) (omega arith)

module _ (orbit : ℕ) (l : List ℕ) (end : ℕ) where
  -- all from k to the end are of the orbit
  leading_all : (m k : ℕ) → k + m ≡ end → end ≤ length l → ((j : ℕ) → k ≤ j → j < end → get_or l j 0 ≡ orbit)
      → end + leading orbit (drop end l) ≡ k + leading orbit (drop k l)
  leading_all zero k q h e = let same : end ≡ k = omega arith in ap (λ (n : ℕ). n + leading orbit (drop n l)) same
  leading_all (suc m) k q h e =
      leading_all m (k + 1) (omega arith) h (λ j a b. e j (omega arith) b)
      ∙ leading_more orbit l k (omega arith) (e k (omega arith) (omega arith))

-- the first that is not of the orbit, or the end
pub first_other : (orbit : ℕ) (l : List ℕ) (x to : ℕ) → x ≤ to → length l ≡ to → (r : Option ℕ)
    → MatchOption r ((k : ℕ) → x ≤ k → k < to → get_or l k 0 ≡ orbit) (λ i. (x ≤ i) × (i < to)
    × (get_or l i 0 ≡ orbit → ⊥) × ((k : ℕ) → x ≤ k → k < i → get_or l k 0 ≡ orbit))
    → (unwrap_or r to ≡ x + leading orbit (drop x l)) × (unwrap_or r to ≤ to)
first_other orbit l x to h long None a = (
  leading_ends orbit l to (omega arith)
      ∙ leading_all orbit l to (to - x) x (omega arith) (omega arith) a,
  omega arith,
)
first_other orbit l x to h long (Some i) a = (
  leading_stops orbit l i (omega (arith, a.1)) a.2
      ∙ leading_all orbit l i (i - x) x (omega (arith, a.0)) (omega (arith, a.1)) a.3,
  omega (arith, a.1),
)

-- ---- a stretch of facets

pub stretch_more : (f : List ℕ → List ℕ) (l : List (List ℕ)) (from x : ℕ) → from ≤ x → x < length l
    → flat_map f (take (x - from) (drop from l)) ++ f (get_or l x []) ≡ flat_map f (take (x + 1 - from) (drop from l))
stretch_more f l from x h g =
    let e : x + 1 - from ≡ x - from + 1 = omega arith in
    let b : from + (x - from) ≡ x = omega arith in
    let n = length-drop from l in
    ap (λ (k : ℕ). flat_map f (take (x - from) (drop from l)) ++ f (get_or l k [])) (sym b)
    ∙ (ap (λ (r : List ℕ). flat_map f (take (x - from) (drop from l)) ++ f r) (sym (get_or-drop from l (x - from) []))
    ∙ (flat_more f (drop from l) (x - from) [] (omega arith)
    ∙ ap (λ (k : ℕ). flat_map f (take k (drop from l))) (sym e)))

pub stretch_none : (f : List ℕ → List ℕ) (l : List (List ℕ)) (from : ℕ)
    → [] ≡ flat_map f (take (from - from) (drop from l))
unfolding flat_map
stretch_none f l from =
    let e : from - from ≡ 0 = omega arith in
    ap (λ (k : ℕ). flat_map f (take k (drop from l))) (sym e)
