-- How much there can be: facets in an emitted list and in a split list, edges of a figure, sets in a hyperplane
-- orbit. Bounds that code needs for its regions and counters, from the definitions alone. Leans on Emitted,
-- SplitCalls, EdgeSets and Sets.
use Rattle.std.specs.Prelude.{◌≡◌, refl, Bool, true, false, eqb, length, get_or}
use Rattle.std.proofs.Common.{sym, ap, ◌∙◌, subst, arith, eqb→eq, length-append}
use mathlib.Core.List.{List, [], ◌∷◌, ◌++◌, map}
use Prim.Native.Nat.{ℕ, zero, suc, ◌+◌, ◌*◌, ◌≤◌, ◌<◌, compare}
use Rattle.std.proofs.lemmas.List.{length-map}
use Rattle.definitions.specs.Lists.{Pair, compare_pair, sort_nats, count_from}
use Rattle.definitions.specs.Outcome.{answered}
use Rattle.definitions.specs.Orbits.{Row, image, set_image}
use Rattle.definitions.specs.Search.{Facet, Found}
use Rattle.definitions.specs.Recursion.{Rules, Inner}
use Rattle.definitions.specs.Faceting.{Prepared, search_from}
use Rattle.laws.specs.Bools.{first, true→holds, apart}
use Rattle.laws.specs.Lists.{Mem, in_map, of_map, in_left, in_right, in_count, count_length, count_at}
use Rattle.laws.specs.Orders.{nats, pairs}
use Rattle.laws.specs.Pairs.{pairs_map}
use Rattle.laws.specs.Ascending.{Differ, Distinct, ascends_distinct}
use Rattle.laws.proofs.Ascending.{sort_ascending}
use Rattle.laws.specs.Places.{map_self}
use Rattle.laws.specs.Ranges.{distinct_within, distinct_below}
use Rattle.completeness.specs.Taken.{OtherOrbit}
use Rattle.shapes.specs.Answered.{facet_number, facet_sum}
use Rattle.shapes.specs.Emitted.{found_facet, found_apart}
use Rattle.shapes.specs.LowRanks.{facet_orbit}
use Rattle.shapes.specs.EdgeSets.{EdgeSet}
use Rattle.shapes.specs.Sets.{VertexSet}
use Rattle.shapes.specs.SplitCalls.{InCall}

-- ---- lists of facets

-- the facets of a call, from an orbit on
facets_from : ℕ → List Inner → List Facet
facets_from orbit [] = []
facets_from orbit (i ∷ is) = map (λ (f : ℕ). (orbit, f)) (count_from 0 (facet_number i)) ++ facets_from (suc orbit) is

facets_from_length : (orbit : ℕ) (inner : List Inner) → length (facets_from orbit inner) ≡ facet_sum inner
unfolding facets_from facet_sum
facets_from_length orbit [] = refl
facets_from_length orbit (i ∷ is) =
    let a = length-append (map (λ (f : ℕ). (orbit, f)) (count_from 0 (facet_number i))) (facets_from (suc orbit) is) in
    let b = length-map {B = Facet} (count_from 0 (facet_number i)) (λ (f : ℕ). (orbit, f)) in
    let c = count_length 0 (facet_number i) in
    let d = facets_from_length (suc orbit) is in
    omega arith

in_facets_from : (orbit : ℕ) (inner : List Inner) (o f : ℕ) → f < get_or (map facet_number inner) o 0
    → Mem (orbit + o, f) (facets_from orbit inner)
unfolding facets_from
in_facets_from orbit [] o f h = absurd (omega arith)
in_facets_from orbit (i ∷ is) zero f h =
    let first : List Facet = map (λ (g : ℕ). (orbit, g)) (count_from 0 (facet_number i)) in
    let own : Mem {A = Facet} (orbit, f) first = in_map (λ (g : ℕ). (orbit, g)) f (count_from 0 (facet_number i))
    (in_count 0 (facet_number i) f (omega arith) (omega arith)) in
    in_left (orbit + 0, f) first (facets_from (suc orbit) is)
    (subst (λ (n : ℕ). Mem {A = Facet} (n, f) first) (omega arith) own)
in_facets_from orbit (i ∷ is) (suc o) f h =
    let first : List Facet = map (λ (g : ℕ). (orbit, g)) (count_from 0 (facet_number i)) in
    let later = facets_from (suc orbit) is in
    in_right (orbit + suc o, f) first later
    (subst (λ (n : ℕ). Mem {A = Facet} (n, f) later) (omega arith) (in_facets_from (suc orbit) is o f h))

-- different facets of a call are no more than it has
pub facets_few : (p : Prepared) (l : List Facet) → Distinct l → ((f : Facet) → Mem f l → InCall p f)
    → length l ≤ facet_sum p.inner
facets_few p l h k =
    let r = distinct_within l (facets_from 0 p.inner) h (λ f m. subst
    (λ (o : ℕ). Mem (o, f.1) (facets_from 0 p.inner)) (omega arith) (in_facets_from 0 p.inner f.0 f.1 (k f m))) in
    let e = facets_from_length 0 p.inner in
    omega arith

module _ (rules : Rules) (p : Prepared) (found : Found) (is_found_holds : search_from rules p ≡ answered found) where
  -- a list found has a facet to an orbit at most
  pub found_length : (l : List Facet) → Mem l found.lists → length l ≤ length p.inner
  found_length l m =
      let orbits = map (λ (f : Facet). f.0) l in
      let e = length-map l (λ (f : Facet). f.0) in
      let r = distinct_below (length p.inner) orbits (pairs_map OtherOrbit Differ (λ (f : Facet). f.0) l
      (λ f i g j other. other) (found_apart rules p found is_found_holds l m))
      (λ o i. let q = of_map (λ (f : Facet). f.0) o l i in subst (λ (n : ℕ). n < length p.inner) (sym q.2)
      (facet_orbit p.inner q.0 (found_facet rules p found is_found_holds l m q.0 q.1)).0) in
      omega arith

-- ---- edges

-- all pairs of different vertices, the smaller first
pairs_below : ℕ → List Pair
pairs_below zero = []
pairs_below (suc n) = map (λ (v : ℕ). (v, n)) (count_from 0 n) ++ pairs_below n

pairs_below_length : (n : ℕ) → 2 * length (pairs_below n) + n ≡ n * n
unfolding pairs_below
pairs_below_length zero = refl
pairs_below_length (suc n) =
    let a = length-append (map (λ (v : ℕ). (v, n)) (count_from 0 n)) (pairs_below n) in
    let b = length-map {B = Pair} (count_from 0 n) (λ (v : ℕ). (v, n)) in
    let c = count_length 0 n in
    let d = pairs_below_length n in
    omega arith

in_pairs_below : (n v w : ℕ) → v < w → w < n → Mem (v, w) (pairs_below n)
unfolding pairs_below
in_pairs_below zero v w h k = absurd (omega arith)
in_pairs_below (suc n) v w h k = go (eqb w n) refl (λ q. in_pairs_below n v w h q)
  where
    front : List Pair
    front = map (λ (x : ℕ). (x, n)) (count_from 0 n)

    go : (b : Bool) → eqb w n ≡ b → (w < n → Mem (v, w) (pairs_below n)) → Mem (v, w) (front ++ pairs_below n)
    go true e ih =
        let same = eqb→eq w n (true→holds e) in
        in_left (v, w) front (pairs_below n) (subst (λ (y : ℕ). Mem (v, y) front) (sym same)
        (in_map (λ (x : ℕ). (x, n)) v (count_from 0 n) (in_count 0 n v (omega arith) (omega arith))))
    go false e ih = in_right (v, w) front (pairs_below n) (ih (let d = apart w n e in omega arith))

-- a figure on n points has at most n (n − 1) / 2 edges
pub edges_few : (n : ℕ) (l : List Pair) → EdgeSet n l → 2 * length l + n ≤ n * n
edges_few n l h =
    let r = distinct_within l (pairs_below n) (ascends_distinct compare_pair pairs l h.ascends)
    (λ e m. in_pairs_below n e.0 e.1 (h.proper e m).rises (h.proper e m).below) in
    let k = pairs_below_length n in
    omega arith

-- ---- sets in an orbit

-- the identity leaves a set as it is
pub set_stays : (n : ℕ) (vertices : List ℕ) → VertexSet n vertices → set_image vertices (count_from 0 n) ≡ vertices
unfolding set_image image sort_nats
set_stays n vertices h =
    ap sort_nats
    (map_self (image (count_from 0 n)) vertices (λ v m. let b = h.below v m in count_at 0 n v 0 b ∙ omega arith))
    ∙ sort_ascending compare nats vertices h.ascends

-- an orbit has at least its first set, and at most a set for each row
pub record Counted (rows : List Row) (count : ℕ) : Type 0 where
  pub some_set : 1 ≤ count
  pub few : count ≤ length rows
