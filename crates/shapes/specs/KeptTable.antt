-- The table that a call of rank 3 or 4 searches is made of what it keeps of its inner calls: each inner orbit has one
-- ridge, so what is kept by the number of the inner facet is kept by the inner orbit. An instance of KeptOrbitTable.
-- From what the call has before its search alone. Leans on RidgeCalls and KeptOrbitTable.
use Rattle.std.specs.Prelude.{◌≡◌, refl, ◌⊎◌, ℕ, zero, suc, ◌/◌, ◌≤◌, ◌<◌, length, get_or, replicate}
use Rattle.std.proofs.Math.Path.{sym, ap}
use Rattle.std.proofs.Common.{◌∙◌, subst, inl, inr, arith}
use mathlib.Core.List.{List, [], ◌∷◌, ◌++◌, map, flat_map, Memᴰ, map-map}
use Rattle.std.proofs.lemmas.List.{length-map, length-replicate}
use Rattle.std.proofs.Math.ListN.{get_or-eq_default}
use Rattle.definitions.specs.Lists.{Pair, count_from}
use Rattle.definitions.specs.Outcome.{answered}
use Rattle.definitions.specs.Vectors.{Vec}
use Rattle.definitions.specs.Subspace.{Subspace}
use Rattle.definitions.specs.Orbits.{Row, Orbit}
use Rattle.definitions.specs.Figures.{Figure, dyad}
use Rattle.definitions.specs.Recursion.{Rules, Entry, Answer, Inner, vertex_ridge}
use Rattle.definitions.specs.Faceting.{Prepared, possible_facets, finish, faceting}
use Rattle.laws.specs.Lists.{Mem, here, there, of_map, count_length}
use Rattle.laws.specs.Segments.{le_or_lt}
use Rattle.laws.specs.Places.{map_same}
use Rattle.shapes.specs.Answered.{Preparation, answered_call}
use Rattle.shapes.specs.Edges.{edge_figure}
use Rattle.shapes.specs.LowRanks.{RankTwo, rank_two, edge_of, possible_edges, entry_places}
use Rattle.shapes.specs.Polygons.{edge_via, edge_pairs}
use Rattle.shapes.specs.RidgeCalls.{end_keys}
use Rattle.shapes.specs.KeptOrbits.{KeptOrbit, number_over, counts_over, together, keep_by}
use Rattle.shapes.specs.KeptOrbitTable.{PlacesIn}
use Rattle.shapes.specs.Kept.{Kept, ends_of, kept_of}

-- ---- one ridge to an inner orbit

-- an answer of rank 2 or 3: each of its orbits has one ridge, so every place's ridge is the first
pub record OneRidge (a : Answer) : Type 0 where
  pub single : (ridges : List Figure) → Mem ridges a.possible → ridges ≡ get_or ridges 0 [] ∷ []
  pub first : (e : Entry) → Mem e a.entries → (place : Pair) → Mem place e.list → place.1 ≡ 0
  pub many : length a.possible ≡ length a.counts

two_one_ridge : (budget : ℕ) (a : Answer) → RankTwo budget a → OneRidge a
two_one_ridge budget a r = record {
  single = λ ridges m.
      let q = of_map (λ (v : ℕ). vertex_ridge v ∷ []) ridges (count_from 0 r.ends)
      (subst (λ (l : List (List Figure)). Mem ridges l) r.possible m) in
      q.2 ∙ sym (ap (λ (l : List Figure). get_or l 0 [] ∷ []) q.2);
  first = λ e m place i. only e (subst (λ (l : List Entry). Mem e l) r.entries m) place i;
  many =
      ap length r.possible ∙ length-map {B = List Figure} (count_from 0 r.ends) (λ (v : ℕ). vertex_ridge v ∷ [])
      ∙ count_length 0 r.ends
      ∙ sym (ap length r.counts ∙ length-replicate r.ends (2 / r.ends));
}
  where
    places : List Pair
    places = map (λ (v : ℕ). (v, 0)) (count_from 0 r.ends)

    in_places : (place : Pair) → Mem place places → place.1 ≡ 0
    in_places place m = ap (λ (x : Pair). x.1) (of_map (λ (v : ℕ). (v, 0)) place (count_from 0 r.ends) m).2

    only : (e : Entry) → Mem e (record { list = places; before = places; figure = dyad } ∷ []) → (place : Pair)
        → Mem place e.list → place.1 ≡ 0
    only e (Memᴰ.head q) place i = in_places place (subst (λ (x : Entry). Mem place x.list) q i)
    only e (Memᴰ.tail m) place i = elim m [ ]

pub one_ridge : (more : ℕ) (rules : Rules) (plane : Subspace) (points : List Vec) (rows : List Row) (budget : ℕ)
    (a : Answer) → more ≤ 1 → faceting more rules plane points rows budget ≡ answered a → OneRidge a
unfolding finish
one_ridge zero rules plane points rows budget a few e =
    two_one_ridge budget a (rank_two rules plane points rows budget a e)
one_ridge (suc zero) rules plane points rows budget a few e =
    let c = answered_call 0 rules plane points rows budget a e in
    record {
      single = λ ridges m.
          let q =
          of_map (λ (o : Orbit). edge_figure (edge_of o) ∷ []) ridges (map (λ (i : Inner). i.orbit) c.before.inner)
          (subst (λ (l : List (List Figure)). Mem ridges l) (possible_edges rules plane points rows a c) m) in
          q.2 ∙ sym (ap (λ (l : List Figure). get_or l 0 [] ∷ []) q.2);
      first = λ x m place i. (entry_places rules plane points rows a c x m place i).1;
      many =
          ap (λ (x : Answer). length x.possible) c.is ∙ length-map c.before.inner possible_facets
          ∙ sym (ap (λ (x : Answer). length x.counts) c.is ∙ length-map c.before.inner (λ (i : Inner). i.orbit.count));
    }
one_ridge (suc (suc more)) rules plane points rows budget a few e = absurd (omega arith)

-- ---- kept by the inner orbit

-- facets by their edges
abbrev pub facet_edges : Inner → List (List Pair)
facet_edges i = map edge_pairs (possible_facets i)

abbrev pub keep_ends : Inner → KeptOrbit Pair (List Pair)
keep_ends = keep_by edge_via end_keys facet_edges

-- the fields by their names at ranks 3 and 4
abbrev pub as_kept : KeptOrbit Pair (List Pair) → Kept
as_kept k = record {
  orbit = k.orbit;
  ends = k.ridges;
  counts = k.counts;
  places = k.places;
  edges = k.facets;
  compounds = k.compounds;
}

firsts : {A B : Type 0} (f : A → B) (d : A) (lists : List (List A))
    → ((l : List A) → Mem l lists → l ≡ get_or l 0 d ∷ [])
    → together (map (map f) lists) ≡ map (λ (l : List A). f (get_or l 0 d)) lists
unfolding together flat_map
firsts f d [] h = refl
firsts {A} {B} f d (l ∷ lists) h =
    ap (λ (x : List A). map f x ++ together (map (map f) lists)) (h l (here refl))
    ∙ ap (λ (r : List B). f (get_or l 0 d) ∷ r) (firsts f d lists (λ m i. h m (there i)))

counts_alone : {A : Type 0} (counts : List ℕ) (lists : List (List A)) → ((l : List A) → Mem l lists → length l ≡ 1)
    → length lists ≡ length counts → counts_over counts (map length lists) ≡ counts
unfolding counts_over
counts_alone [] lists h e = refl
counts_alone (c ∷ counts) [] h e = absurd (omega arith)
counts_alone (c ∷ counts) (l ∷ lists) h e =
    ap (λ (n : ℕ). replicate n c ++ counts_over counts (map length lists)) (h l (here refl))
    ∙ ap (λ (r : List ℕ). c ∷ r) (counts_alone counts lists (λ m i. h m (there i)) (omega arith))

number_alone : {A : Type 0} (lists : List (List A)) → ((l : List A) → Mem l lists → length l ≡ 1) → (a : ℕ)
    → a < length lists → number_over (map length lists) a 0 ≡ a
unfolding number_over
number_alone [] h a k = absurd (omega arith)
number_alone (l ∷ lists) h zero k = refl
number_alone (l ∷ lists) h (suc a) k =
    let e = h l (here refl) in
    let r = number_alone lists (λ m i. h m (there i)) a (omega arith) in
    omega arith

-- a list that has an item is there
list_there : {A : Type 0} (lists : List (List A)) (a b : ℕ) → b < length (get_or lists a []) → a < length lists
list_there {A} lists a b h = go (le_or_lt (length lists) a)
  where
    go : (length lists ≤ a) ⊎ (a < length lists) → a < length lists
    go (inl k) = let e = ap length (get_or-eq_default lists [] k) in absurd (omega arith)
    go (inr k) = k

keys_alone : (i : Inner) → OneRidge i.answer → (l : List Pair) → Mem l (end_keys i) → length l ≡ 1
unfolding end_keys
keys_alone i h l m =
    let r = of_map (map ends_of) l i.answer.possible m in
    ap length r.2 ∙ length-map r.0 ends_of ∙ ap length (h.single r.0 r.1)

pub kept_as : (i : Inner) → OneRidge i.answer → PlacesIn i.answer → kept_of i ≡ as_kept (keep_ends i)
unfolding kept_of keep_by end_keys
kept_as i h places =
    let possible = i.answer.possible in
    let to : ℕ → ℕ = λ v. get_or i.orbit.vertices v 0 in
    let keys = map (map ends_of) possible in
    let long : length keys ≡ length possible = length-map possible (map ends_of) in
    let ends : map (λ (ridges : List Figure). edge_via to (ends_of (get_or ridges 0 []))) possible
    ≡ map (edge_via to) (together keys) =
    sym (ap (map (edge_via to)) (firsts ends_of [] possible h.single)
    ∙ map-map (edge_via to) (λ (ridges : List Figure). ends_of (get_or ridges 0 [])) possible) in
    let counts : i.answer.counts ≡ counts_over i.answer.counts (map length keys) =
    sym (counts_alone i.answer.counts keys (keys_alone i h) (long ∙ h.many)) in
    let number : Pair → ℕ = λ place. number_over (map length keys) place.0 place.1 in
    let one : (e : Entry) → Mem e i.answer.entries → (place : Pair) → Mem place e.list
    → place.0 ≡ number place = λ e m place j.
    let k = list_there possible place.0 place.1 (places.below e m place j) in
    sym (ap (number_over (map length keys) place.0) (h.first e m place j)
    ∙ number_alone keys (keys_alone i h) place.0 (omega arith)) in
    let all : map (λ (e : Entry). map (λ (place : Pair). place.0) e.list) i.answer.entries
    ≡ map (λ (e : Entry). map number e.list) i.answer.entries =
    map_same (λ (e : Entry). map (λ (place : Pair). place.0) e.list) (λ (e : Entry). map number e.list)
    i.answer.entries (λ e m. map_same (λ (place : Pair). place.0) number e.list (one e m)) in
    λ t. record {
      orbit = i.orbit;
      ends = ends t;
      counts = counts t;
      places = all t;
      edges = map edge_pairs (possible_facets i);
      compounds = i.answer.compounds;
    }

-- ---- numbers and table

module _ (more : ℕ) (rules : Rules) (plane : Subspace) (points : List Vec) (rows : List Row) (p : Prepared)
    (few : more ≤ 1) (made : Preparation more rules (faceting more rules) plane points rows p) where
  pub inner_one_ridge : (i : Inner) → Mem i p.inner → OneRidge i.answer
  inner_one_ridge i m = let inner = made.inner.each i m in one_ridge more rules _ _ _ inner.budget i.answer few inner.is
