-- How much a call of rank 3 or 4 keeps of its inner calls: what numbers can stand there, and how many. From what the
-- call has before its search alone. Leans on KeptTable, EntryFigures and FewOrbits.
use Rattle.std.specs.Prelude.{◌≡◌, refl, ◌⊎◌}
use Rattle.std.proofs.Math.Path.{sym, ap, subst}
use Rattle.std.proofs.Common.{◌∙◌, inl, inr}
use mathlib.Core.List.{List, [], ◌∷◌, map, map-map}
use Prim.Native.Nat.{ℕ, zero, suc, ◌+◌, ◌≤◌, ◌<◌}
use native.Mathlib.Omega.{arith}
use Rattle.std.proofs.Math.ListN.{length, length-map}
use Rattle.definitions.specs.Lists.{Pair, count_from}
use Rattle.definitions.specs.Vectors.{Vec}
use Rattle.definitions.specs.Subspace.{Subspace}
use Rattle.definitions.specs.Orbits.{Row}
use Rattle.definitions.specs.Figures.{Compound, rank_of}
use Rattle.definitions.specs.Recursion.{Rules, Entry, Answer, Inner}
use Rattle.definitions.specs.Faceting.{Prepared, faceting}
use Rattle.laws.specs.Lists.{Mem, of_map}
use Rattle.laws.specs.Ascending.{Distinct}
use Rattle.laws.specs.Places.{map_self}
use Rattle.shapes.specs.Answered.{facet_sum, Preparation}
use Rattle.shapes.specs.Edges.{edge_figure}
use Rattle.shapes.specs.AnswerSizes.{two_counts}
use Rattle.shapes.specs.LowRanks.{RankTwo, edge_of, inner_rank_two, one_edge}
use Rattle.shapes.specs.Sets.{VertexSet}
use Rattle.shapes.specs.EdgeSets.{EdgeSet}
use Rattle.shapes.specs.AllPairs.{all_pairs}
use Rattle.shapes.specs.Polygons.{edge_pairs}
use Rattle.shapes.specs.Sizes.{Counted}
use Rattle.shapes.specs.Ridges.{twice}
use Rattle.shapes.specs.Kept.{Kept, kept_of}

-- ---- answers of rank 2 and 3

-- the ridges of an answer are as many as its orbits, each with its count; the places of an entry are orbits, none
-- twice
pub record AnswerSized (rows : List Row) (a : Answer) : Type 0 where
  pub possible_many : length a.possible ≡ length a.counts
  pub counted : (c : ℕ) → Mem c a.counts → Counted rows c
  pub below : (e : Entry) → Mem e a.entries → (place : Pair) → Mem place e.list → place.0 < length a.counts
  pub few : (e : Entry) → Mem e a.entries → length e.list ≤ length a.counts

pub two_few : (budget : ℕ) (a : Answer) → RankTwo budget a → (1 ≤ length a.counts) × (length a.counts ≤ 2)
two_few budget a r = go r.one_or_two_holds
  where
    go : (r.ends ≡ 1) ⊎ (r.ends ≡ 2) → (1 ≤ length a.counts) × (length a.counts ≤ 2)
    go (inl q) = let n = two_counts budget a r in (omega arith, omega arith)
    go (inr q) = let n = two_counts budget a r in (omega arith, omega arith)

-- ---- what is kept of an orbit

-- the keys that a ridge can have in a call on n points: at rank 3 a vertex twice, at rank 4 a pair of vertices
unfoldable pub ridge_keys : ℕ → ℕ → List Pair
ridge_keys zero n = map twice (count_from 0 n)
ridge_keys (suc more) n = all_pairs n

-- of one orbit of a call of rank 3 + more on n points
pub record KeptSized (more n : ℕ) (rows : List Row) (k : Kept) : Type 0 where
  pub vertices : VertexSet n k.orbit.vertices
  pub few_vertices : length k.orbit.vertices ≤ n
  pub some_vertices : 2 + more ≤ length k.orbit.vertices
  pub counted : Counted rows k.orbit.count
  pub ends_keys : (e : Pair) → Mem e k.ends → Mem e (ridge_keys more n)
  pub ends_below : (e : Pair) → Mem e k.ends → (e.0 < n) × (e.1 < n)
  pub ends_many : length k.ends ≡ length k.counts
  pub few_ends : n ≤ 20 → length k.ends ≤ 190
  pub inner_counted : (c : ℕ) → Mem c k.counts → Counted rows c
  pub places_below : (l : List ℕ) → Mem l k.places → (a : ℕ) → Mem a l → a < length k.ends
  pub places_few : (l : List ℕ) → Mem l k.places → length l ≤ length k.ends
  pub places_some : (l : List ℕ) → Mem l k.places → 0 < length l
  pub places_distinct : (l : List ℕ) → Mem l k.places → Distinct l
  pub edges_many : length k.edges ≡ length k.places
  pub edges_set : (l : List Pair) → Mem l k.edges → EdgeSet n l
  pub few_edges_holds : n ≤ 20 → (l : List Pair) → Mem l k.edges → length l ≤ 190
  pub compounds_below : (c : Compound) → Mem c k.compounds
      → (c.whole < length k.places) × (c.first < c.second) × (c.second < length k.places)

-- at rank 3: one facet with one edge, a place for each of its one or two inner orbits, and no compounds
pub record KeptEdge (k : Kept) : Type 0 where
  pub some_counts : 1 ≤ length k.counts
  pub few_counts : length k.counts ≤ 2
  pub places : k.places ≡ count_from 0 (length k.counts) ∷ []
  pub edges : k.edges ≡ (edge_of k.orbit ∷ []) ∷ []
  pub compounds : k.compounds ≡ []

-- an edge's figure has it alone
pub edge_alone : (e : Pair) → edge_pairs (edge_figure e) ≡ e ∷ []
unfolding edge_pairs rank_of edge_figure
edge_alone e = refl

pub kept_edge : (rules : Rules) (plane : Subspace) (points : List Vec) (rows : List Row) (p : Prepared)
    → Preparation 0 rules (faceting 0 rules) plane points rows p
    → (k : Kept) → Mem k (map kept_of p.inner) → KeptEdge k
unfolding kept_of
kept_edge rules plane points rows p made k m =
    let r = of_map kept_of k p.inner m in
    subst KeptEdge (sym r.2) (of_inner r.0 r.1)
  where
    of_inner : (i : Inner) → Mem i p.inner → KeptEdge (kept_of i)
    of_inner i m =
        let two = inner_rank_two rules plane points rows p made i m in
        let r = two.1 in
        let few = two_few two.0 i.answer r in
        let counts = two_counts two.0 i.answer r in
        let first : List Pair → List ℕ = map (λ (place : Pair). place.0) in
        record {
          some_counts = few.0;
          few_counts = few.1;
          places =
              ap (map (λ (e : Entry). first e.list)) r.entries
              ∙ ap (λ (l : List ℕ). l ∷ [])
              (map-map (λ (place : Pair). place.0) (λ (v : ℕ). (v, 0)) (count_from 0 r.ends)
              ∙ map_self (λ (v : ℕ). v) (count_from 0 r.ends) (λ v j. refl))
              ∙ ap (λ (n : ℕ). count_from 0 n ∷ []) (sym counts);
          edges =
              ap (map edge_pairs) (one_edge rules plane points rows p made i m)
              ∙ ap (λ (l : List Pair). l ∷ []) (edge_alone (edge_of i.orbit));
          compounds = r.compounds;
        }

-- ---- all facets

-- the possible facets of all orbits together
unfoldable pub facets_kept : List Kept → ℕ
facets_kept [] = 0
facets_kept (k ∷ ks) = length k.places + facets_kept ks

pub facets_kept_holds : (inner : List Inner) → facets_kept (map kept_of inner) ≡ facet_sum inner
unfolding facets_kept facet_sum kept_of
facets_kept_holds [] = refl
facets_kept_holds (i ∷ is) =
    let a = length-map i.answer.entries (λ (e : Entry). map (λ (place : Pair). place.0) e.list) in
    let b = facets_kept_holds is in
    omega arith

pub few_facets_kept : (more : ℕ) (rules : Rules) (plane : Subspace) (points : List Vec) (rows : List Row)
    (p : Prepared) → Preparation more rules (faceting more rules) plane points rows p
    → facets_kept (map kept_of p.inner) ≤ rules.bounds.facets
few_facets_kept more rules plane points rows p made =
    let e = facets_kept_holds p.inner in
    let k = made.few_facets_holds in
    omega arith

pub few_orbits_kept : (more : ℕ) (rules : Rules) (plane : Subspace) (points : List Vec) (rows : List Row)
    (p : Prepared) → Preparation more rules (faceting more rules) plane points rows p
    → length (map kept_of p.inner) ≤ rules.bounds.orbits
few_orbits_kept more rules plane points rows p made =
    let e = length-map p.inner kept_of in
    let k = made.few_orbits_holds in
    omega arith
