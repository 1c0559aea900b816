-- The facets of a call by their numbers: orbit by orbit, an orbit's facets one behind another. Numbers ascend with
-- orbit and facet, and each facet's label names facets of its own orbit. Leans on the lists over all facets of
-- `layout`.
use Rattle.std.specs.Prelude.{◌≡◌, refl, ◌⊎◌, length, get_or}
use Rattle.std.proofs.Common.{sym, ◌∙◌, subst, inl, inr, length-append, get_or-append-add}
use Rattle.std.proofs.Math.Path.{ap}
use mathlib.Core.List.{List, [], ◌∷◌, ◌++◌, map, flat_map}
use Rattle.std.specs.Prelude.{Option, None}
use Prim.Native.Nat.{ℕ, zero, suc, ◌+◌, ◌-◌, ◌≤◌, ◌<◌, compare, Ordering}
use native.Mathlib.Omega.{arith}
use Rattle.std.proofs.lemmas.List.{length-map}
use Rattle.std.proofs.Math.ListN.{get_or-append}
use Rattle.definitions.specs.Lists.{Pair, map_at, count_from, compare_pair, then_by}
use Rattle.definitions.specs.Figures.{components_of}
use Rattle.definitions.specs.Search.{Facet}
use Rattle.laws.specs.Lists.{Mem, of_map, in_append, map_at_holds, count_at, count_length}
use Rattle.laws.specs.Pairs.{pairs_append, pairs_map, count_ascends}
use Rattle.laws.specs.Orders.{nats, pairs, compare_lt, lt_compare}
use Rattle.laws.specs.Segments.{le_or_lt}
use Rattle.laws.specs.Ascending.{Ascends}
use Rattle.laws.specs.Places.{ascending_at, keeps_compare}
use Rattle.shapes.specs.Kept.{Kept}
use Rattle.layout.specs.Keeps.{joined, facets_in, facets_of, raised, labels_from}
use Rattle.layout.specs.Leaves.{facet_at}

-- an orbit with nothing kept
unfoldable pub no_orbit : Kept
no_orbit = record {
  orbit = record { vertices = []; count = 0 };
  ends = [];
  counts = [];
  places = [];
  edges = [];
  compounds = [];
}

abbrev pub kept_in : List Kept → ℕ → Kept
kept_in kept orbit = get_or kept orbit no_orbit

-- the number of an orbit's first facet
unfoldable pub start_of : List Kept → ℕ → ℕ
start_of [] orbit = 0
start_of (k ∷ kept) zero = 0
start_of (k ∷ kept) (suc orbit) = facets_in k + start_of kept orbit

-- the facets of one orbit, and of all from it on
unfoldable own_facets : ℕ → Kept → List Facet
own_facets orbit k = map (λ (f : ℕ). (orbit, f)) (count_from 0 (facets_in k))

unfoldable facets_from : ℕ → List Kept → List Facet
facets_from orbit kept =
    joined (map_at (λ orbit (k : Kept). map (λ (f : ℕ). (orbit, f)) (count_from 0 (facets_in k))) orbit kept)

own_length : (orbit : ℕ) (k : Kept) → length (own_facets orbit k) ≡ facets_in k
unfolding own_facets
own_length orbit k = length-map (count_from 0 (facets_in k)) (λ (f : ℕ). (orbit, f)) ∙ count_length 0 (facets_in k)

facets_cons : (orbit : ℕ) (k : Kept) (kept : List Kept)
    → facets_from orbit (k ∷ kept) ≡ own_facets orbit k ++ facets_from (suc orbit) kept
unfolding facets_from own_facets map_at flat_map
facets_cons orbit k kept = refl

facets_none : (orbit : ℕ) → facets_from orbit [] ≡ []
unfolding facets_from map_at flat_map
facets_none orbit = refl

facets_length : (orbit : ℕ) (k : Kept) (kept : List Kept)
    → length (facets_from orbit (k ∷ kept)) ≡ facets_in k + length (facets_from (suc orbit) kept)
facets_length orbit k kept =
    let l = own_length orbit k in
    ap length (facets_cons orbit k kept)
    ∙ (length-append (own_facets orbit k) (facets_from (suc orbit) kept) ∙ omega arith)

own_orbit : (orbit : ℕ) (k : Kept) (f : Facet) → Mem f (own_facets orbit k) → f.0 ≡ orbit
unfolding own_facets
own_orbit orbit k f m = ap (λ (g : Facet). g.0) (of_map (λ (f : ℕ). (orbit, f)) f (count_from 0 (facets_in k)) m).2

before : (f g : Facet) → f.0 < g.0 → compare_pair f g ≡ Ordering.lt
unfolding compare_pair then_by
before f g h = ap (λ (o : Ordering). then_by o (compare f.1 g.1)) (lt_compare f.0 g.0 h)

same_orbit : (orbit x y : ℕ) → x < y → compare_pair (orbit, x) (orbit, y) ≡ Ordering.lt
unfolding compare_pair then_by
same_orbit orbit x y h = ap (λ (o : Ordering). then_by o (compare x y)) (nats.self orbit) ∙ lt_compare x y h

own_ascends : (orbit : ℕ) (k : Kept) → Ascends compare_pair (own_facets orbit k)
unfolding own_facets
own_ascends orbit k =
    pairs_map (λ x y. x < y) (λ (f g : Facet). compare_pair f g ≡ Ordering.lt) (λ (f : ℕ). (orbit, f))
    (count_from 0 (facets_in k)) (λ x i y j h. same_orbit orbit x y h) (count_ascends 0 (facets_in k))

-- ---- a facet's number, and its label

own_at : (orbit : ℕ) (k : Kept) (f : ℕ) → f < facets_in k → get_or (own_facets orbit k) f (0, 0) ≡ (orbit, f)
unfolding own_facets
own_at orbit k f g =
    let c = count_length 0 (facets_in k) in
    let z : 0 + f ≡ f = omega arith in
    map_at_holds (λ (f : ℕ). (orbit, f)) (count_from 0 (facets_in k)) f (0, 0) 0 (omega arith)
    ∙ ap (λ (i : ℕ). (orbit, i)) (count_at 0 (facets_in k) f 0 g ∙ z)

facet_of_holds : (first orbit : ℕ) (kept : List Kept) (f : ℕ) → orbit < length kept
    → f < facets_in (kept_in kept orbit)
    → get_or (facets_from first kept) (start_of kept orbit + f) (0, 0) ≡ (first + orbit, f)
unfolding start_of
facet_of_holds first orbit [] f h g = absurd (omega arith)
facet_of_holds first zero (k ∷ kept) f h g =
    let n : 0 + f ≡ f = omega arith in
    let l = own_length first k in
    let o : first ≡ first + 0 = omega arith in
    ap (λ (i : ℕ). get_or (facets_from first (k ∷ kept)) i (0, 0)) n
    ∙ (ap (λ (l : List Facet). get_or l f (0, 0)) (facets_cons first k kept)
    ∙ (get_or-append (own_facets first k) (facets_from (suc first) kept) (0, 0) f (omega arith)
    ∙ (own_at first k f g ∙ ap (λ (o : ℕ). (o, f)) o)))
facet_of_holds first (suc orbit) (k ∷ kept) f h g =
    let l = own_length first k in
    let n : facets_in k + start_of kept orbit + f
    ≡ length (own_facets first k) + (start_of kept orbit + f) = omega arith in
    let o : suc first + orbit ≡ first + suc orbit = omega arith in
    ap (λ (i : ℕ). get_or (facets_from first (k ∷ kept)) i (0, 0)) n
    ∙ (ap (λ (l : List Facet).
    get_or l (length (own_facets first k) + (start_of kept orbit + f)) (0, 0)) (facets_cons first k kept)
    ∙ (get_or-append-add (own_facets first k) (facets_from (suc first) kept) (start_of kept orbit + f) (0, 0)
    ∙ (facet_of_holds (suc first) orbit kept f (omega arith) g ∙ ap (λ (o : ℕ). (o, f)) o)))

facet_below : (first orbit : ℕ) (kept : List Kept) (f : ℕ) → orbit < length kept → f < facets_in (kept_in kept orbit)
    → start_of kept orbit + f < length (facets_from first kept)
unfolding start_of
facet_below first orbit [] f h g = absurd (omega arith)
facet_below first zero (k ∷ kept) f h g = omega (arith, facets_length first k kept)
facet_below first (suc orbit) (k ∷ kept) f h g =
    omega (arith, facets_length first k kept, facet_below (suc first) orbit kept f (omega arith) g)

-- the orbit and facet with a number; the label's numbers begin at the orbit's first facet
pub record Located (first : ℕ) (kept : List Kept) (x : ℕ) : Type 0 where
  pub orbit : ℕ
  pub facet : ℕ
  pub inside : orbit < length kept
  pub below : facet < facets_in (kept_in kept orbit)
  pub number : x ≡ start_of kept orbit + facet
  pub label : get_or (labels_from first kept) x None
      ≡ raised (first + start_of kept orbit) (components_of (kept_in kept orbit).compounds facet)

-- the labels of one orbit
unfoldable own_labels : ℕ → Kept → List (Option Pair)
own_labels first k = map (λ (f : ℕ). raised first (components_of k.compounds f)) (count_from 0 (facets_in k))

labels_cons : (first : ℕ) (k : Kept) (kept : List Kept)
    → labels_from first (k ∷ kept) ≡ own_labels first k ++ labels_from (first + facets_in k) kept
unfolding labels_from own_labels
labels_cons first k kept = refl

own_labels_holds : (first : ℕ) (k : Kept) → length (own_labels first k) ≡ facets_in k
unfolding own_labels
own_labels_holds first k =
    length-map (count_from 0 (facets_in k)) (λ (f : ℕ). raised first (components_of k.compounds f))
    ∙ count_length 0 (facets_in k)

own_label : (first : ℕ) (k : Kept) (f : ℕ) → f < facets_in k
    → get_or (own_labels first k) f None ≡ raised first (components_of k.compounds f)
unfolding own_labels
own_label first k f g =
    let c = count_length 0 (facets_in k) in
    let z : 0 + f ≡ f = omega arith in
    map_at_holds (λ (f : ℕ). raised first (components_of k.compounds f)) (count_from 0 (facets_in k)) f None 0
    (omega arith)
    ∙ ap (λ (i : ℕ). raised first (components_of k.compounds i)) (count_at 0 (facets_in k) f 0 g ∙ z)

labels_many : (orbit first : ℕ) (kept : List Kept) → length (labels_from first kept) ≡ length (facets_from orbit kept)
unfolding labels_from
labels_many orbit first [] = sym (ap length (facets_none orbit))
labels_many orbit first (k ∷ kept) =
    let a = length-append (own_labels first k) (labels_from (first + facets_in k) kept) in
    let m = own_labels_holds first k in
    let e = labels_many (suc orbit) (first + facets_in k) kept in
    ap length (labels_cons first k kept) ∙ (omega (arith, facets_length orbit k kept))

in_first : (first : ℕ) (k : Kept) (kept : List Kept) (x : ℕ) → x < facets_in k → Located first (k ∷ kept) x
unfolding start_of
in_first first k kept x l =
    let m = own_labels_holds first k in
    let z : first ≡ first + 0 = omega arith in
    record {
      orbit = 0;
      facet = x;
      inside = omega arith;
      below = l;
      number = omega arith;
      label =
          ap (λ (os : List (Option Pair)). get_or os x None) (labels_cons first k kept)
          ∙ (get_or-append (own_labels first k) (labels_from (first + facets_in k) kept) None x (omega arith)
          ∙ (own_label first k x l ∙ ap (λ (n : ℕ). raised n (components_of k.compounds x)) z));
    }

in_later : (first : ℕ) (k : Kept) (kept : List Kept) (x : ℕ) → Located (first + facets_in k) kept x
    → Located first (k ∷ kept) (facets_in k + x)
unfolding start_of
in_later first k kept x r =
    let m = own_labels_holds first k in
    let e : facets_in k + x ≡ length (own_labels first k) + x = omega arith in
    let z : first + facets_in k + start_of kept r.orbit ≡ first + (facets_in k + start_of kept r.orbit) = omega arith in
    record {
      orbit = suc r.orbit;
      facet = r.facet;
      inside = omega (arith, r.inside);
      below = r.below;
      number = omega (arith, r.number);
      label =
          ap (λ (n : ℕ). get_or (labels_from first (k ∷ kept)) n None) e
          ∙ (ap (λ (os : List (Option Pair)). get_or os (length (own_labels first k) + x) None)
          (labels_cons first k kept)
          ∙ (get_or-append-add (own_labels first k) (labels_from (first + facets_in k) kept) x None
          ∙ (r.label ∙ ap (λ (n : ℕ). raised n (components_of (kept_in kept r.orbit).compounds r.facet)) z)));
    }

locate : (orbit first : ℕ) (kept : List Kept) (x : ℕ) → x < length (facets_from orbit kept) → Located first kept x
locate orbit first [] x h = let e = ap length (facets_none orbit) in absurd (omega arith)
locate orbit first (k ∷ kept) x h =
    go (le_or_lt (facets_in k) x)
    (λ l. locate (suc orbit) (first + facets_in k) kept (x - facets_in k) (omega (arith, facets_length orbit k kept)))
  where
    go : (facets_in k ≤ x) ⊎ (x < facets_in k)
        → (facets_in k ≤ x → Located (first + facets_in k) kept (x - facets_in k)) → Located first (k ∷ kept) x
    go (inl l) later =
        let e : facets_in k + (x - facets_in k) ≡ x = omega arith in
        subst (Located first (k ∷ kept)) e (in_later first k kept (x - facets_in k) (later l))
    go (inr l) later = in_first first k kept x l

-- ---- numbers ascend with the facets

from_orbit : (orbit : ℕ) (kept : List Kept) (f : Facet) → Mem f (facets_from orbit kept) → orbit ≤ f.0
from_orbit orbit [] f m = elim (subst (Mem f) (facets_none orbit) m) [ ]
from_orbit orbit (k ∷ kept) f m =
    go (in_append f (own_facets orbit k) (facets_from (suc orbit) kept) (subst (Mem f) (facets_cons orbit k kept) m))
    (from_orbit (suc orbit) kept f)
  where
    go : Mem f (own_facets orbit k) ⊎ Mem f (facets_from (suc orbit) kept)
        → (Mem f (facets_from (suc orbit) kept) → suc orbit ≤ f.0) → orbit ≤ f.0
    go (inl i) later = let e = own_orbit orbit k f i in omega arith
    go (inr i) later = let b = later i in omega arith

facets_ascend : (orbit : ℕ) (kept : List Kept) → Ascends compare_pair (facets_from orbit kept)
facets_ascend orbit [] = subst (Ascends compare_pair) (sym (facets_none orbit)) tt
facets_ascend orbit (k ∷ kept) =
    subst (Ascends compare_pair) (sym (facets_cons orbit k kept))
    (pairs_append (λ (f g : Facet). compare_pair f g ≡ Ordering.lt) (own_facets orbit k)
    (facets_from (suc orbit) kept) (own_ascends orbit k) (facets_ascend (suc orbit) kept)
    (λ f i g j. let e = own_orbit orbit k f i in let b = from_orbit (suc orbit) kept g j in before f g (omega arith)))

-- ---- the call's own numbers

module _ (kept : List Kept) where
  abbrev pub facet_count : ℕ
  facet_count = length (facets_of kept)

  pub located : (x : ℕ) → x < facet_count → Located 0 kept x
  unfolding facets_of facets_from
  located x h = locate 0 0 kept x h

  pub labels_length : length (labels_from 0 kept) ≡ facet_count
  unfolding facets_of facets_from
  labels_length = labels_many 0 0 kept

  pub numbered : (orbit f : ℕ) → orbit < length kept → f < facets_in (kept_in kept orbit)
      → (start_of kept orbit + f < facet_count) × (facet_at kept (start_of kept orbit + f) ≡ (orbit, f))
  unfolding facets_of facets_from facet_at
  numbered orbit f h g =
      let z : 0 + orbit ≡ orbit = omega arith in
      (facet_below 0 orbit kept f h g, facet_of_holds 0 orbit kept f h g ∙ ap (λ (o : ℕ). (o, f)) z)

  -- numbers compare as their facets do
  pub ordered : (m n : ℕ) → m < facet_count → n < facet_count
      → compare_pair (facet_at kept m) (facet_at kept n) ≡ compare m n
  unfolding facets_of facets_from facet_at
  ordered m n h k =
      keeps_compare compare nats compare_pair pairs (facet_at kept) (λ (x : ℕ). x < facet_count)
      (λ x y p q e. ascending_at compare_pair pairs (
        0,
        0,
      ) (facets_of kept) (facets_ascend 0 kept) x y (compare_lt x y e) q) m n h k
