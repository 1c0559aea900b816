-- What is kept of an orbit of a call of rank 4: its inner call has rank 3, each of whose orbits has one facet, an
-- edge. The ridges are those edges, the facets' edges all row images of the edges that an entry names. Leans on what
-- is kept and on what a call leaves.
use Rattle.std.specs.Prelude.{◌≡◌, refl, length, get_or, drop}
use Rattle.std.proofs.Common.{sym, ◌∙◌, subst}
use Rattle.std.proofs.Math.Path.{ap}
use mathlib.Core.List.{List, [], ◌∷◌, ◌++◌, map, flat_map, append-nil, map-map}
use Rattle.std.specs.Prelude.{Option, Some}
use Prim.Native.Nat.{ℕ, suc, ◌+◌, ◌<◌, min, max}
use native.Mathlib.Omega.{arith}
use Rattle.std.proofs.lemmas.List.{length-map}
use Rattle.definitions.specs.Lists.{Pair, count_from, map_at}
use Rattle.definitions.specs.Orbits.{Row, Orbit, pair_image}
use Rattle.definitions.specs.Figures.{Figure, rank_of, move_ends, compounds_from}
use Rattle.definitions.specs.Search.{Facet}
use Rattle.definitions.specs.Recursion.{Entry, Answer, Inner}
use Rattle.definitions.specs.Faceting.{possible_facets}
use Rattle.laws.specs.Lists.{Mem, here, there, map_at_holds, count_at, count_length, member_at, flat_map_same}
use Rattle.laws.specs.Places.{map_same, map_self, flat_map_map}
use Rattle.rows.specs.Rows.{rows_in, RowsFit}
use Rattle.rows.specs.Codes.{pair_code}
use Rattle.labels.specs.Labels.{labels_in}
use Rattle.order.specs.Numbers.{AllBelow}
use Rattle.shapes.specs.Edges.{edge_figure}
use Rattle.shapes.specs.EdgeSets.{Proper, polygon, edges_in_order}
use Rattle.shapes.specs.Polygons.{ends_via, edge_via, edge_pairs, polygon_raised, polygon_edges}
use Rattle.shapes.specs.Kept.{Kept, kept_of, ends_of, kept_possible, kept_at, kept_edge_images, kept_figure}
use Rattle.layout.specs.declared.Level.{Level}
use Rattle.layout.specs.Keeps.{facets_in, facets_of, edges_of}
use Rattle.layout.specs.Leaves.{Leaves, facet_at, both_left, lists_of_both, figure_left, entry_left, answer_left}
use Rattle.layout.specs.Leaves.{lists_left}
use Rattle.keep.specs.Adding.{facets_from}

-- ---- an orbit with one edge

unfoldable pub edge_in : Kept → Pair
edge_in k = get_or (get_or k.edges 0 []) 0 (0, 0)

-- what is known of an orbit of a call of rank 3 on n points. A count is at most the number of rows
pub record OneEdge (n : ℕ) (k : Kept) : Type 0 where
  pub places : facets_in k ≡ 1
  pub edges : k.edges ≡ (edge_in k ∷ []) ∷ []
  pub proper : Proper n (edge_in k)
  pub few : k.orbit.count < 65536

-- the edge of an orbit's number
unfoldable pub edge_at : List Kept → ℕ → Pair
edge_at inner x = get_or (map edge_in inner) x (0, 0)

-- all row images of some orbits' edges
unfoldable pub images_of : List Row → List Kept → List ℕ → List Pair
images_of rows inner numbers = flat_map (λ (x : ℕ). map (pair_image (edge_at inner x)) rows) numbers

-- an entry's edges, sent to another call's vertices
unfoldable pub entry_edges : (ℕ → ℕ) → List Row → List Kept → List ℕ → List Pair
entry_edges to rows inner numbers = map (ends_via to) (edges_in_order (images_of rows inner numbers))

-- what a call of rank 3 has left, on n points with m rows. Its labels name entries, as those of `label_irc` do
pub record EdgesLeft (n m : ℕ) (inner : List Kept) (level : Level) (rows s : List ℕ) : Type 0 where
  pub leaves : Leaves 0 n (rows_in n m rows) inner level s
  pub each : (k : Kept) → Mem k inner → OneEdge n k
  pub rows_fit : RowsFit n m rows
  pub labelled : (p : Pair) → Mem (Some p) (labels_in (level.bytes + 2048) level.count (drop level.lists s))
      → (p.0 < p.1) × (p.1 < level.count)

-- ---- its facets

abbrev Each : ℕ → List Kept → Type 0
Each n inner = (k : Kept) → Mem k inner → OneEdge n k

facets_ones : (n a : ℕ) (inner : List Kept) → Each n inner
    → facets_from a inner ≡ map (λ (x : ℕ). (x, 0)) (count_from a (length inner))
unfolding facets_from map_at flat_map count_from
facets_ones n a [] h = refl
facets_ones n a (k ∷ inner) h =
    ap (λ (many : ℕ). map (λ (f : ℕ). (a, f)) (count_from 0 many) ++ facets_from (suc a) inner) (h k (here refl)).places
    ∙ ap (λ (l : List Facet). (a, 0) ∷ l) (facets_ones n (suc a) inner (λ g m. h g (there m)))

pub facets_are : (n : ℕ) (inner : List Kept) → Each n inner
    → facets_of inner ≡ map (λ (x : ℕ). (x, 0)) (count_from 0 (length inner))
unfolding facets_of facets_from
facets_are n inner h = facets_ones n 0 inner h

pub facets_many : (n : ℕ) (inner : List Kept) → Each n inner → length (facets_of inner) ≡ length inner
facets_many n inner h =
    ap length (facets_are n inner h)
    ∙ (length-map {B = Facet} (count_from 0 (length inner)) (λ (x : ℕ). (x, 0)) ∙ count_length 0 (length inner))

-- facet x is (x, 0)
pub facet_is : (n : ℕ) (inner : List Kept) → Each n inner → (x : ℕ) → x < length inner → facet_at inner x ≡ (x, 0)
unfolding facet_at
facet_is n inner h x k =
    let l = count_length 0 (length inner) in
    let e : 0 + x ≡ x = omega arith in
    let same : get_or (count_from 0 (length inner)) x 0 ≡ x = count_at 0 (length inner) x 0 k ∙ e in
    ap (λ (l : List Facet). get_or l x (0, 0)) (facets_are n inner h)
    ∙ (map_at_holds (λ (y : ℕ). (y, 0)) (count_from 0 (length inner)) x (0, 0) 0 (omega arith)
    ∙ ap (λ (y : ℕ). (y, 0)) same)

edges_ones : (n : ℕ) (inner : List Kept) → Each n inner → edges_of inner ≡ map (λ (k : Kept). edge_in k ∷ []) inner
unfolding edges_of flat_map
edges_ones n [] h = refl
edges_ones n (k ∷ inner) h =
    ap (λ (l : List (List Pair)). l ++ edges_of inner) (h k (here refl)).edges
    ∙ ap (λ (l : List (List Pair)). (edge_in k ∷ []) ∷ l) (edges_ones n inner (λ g m. h g (there m)))

-- its list of edges, as it is stored
pub edge_list : (n : ℕ) (inner : List Kept) → Each n inner → (x : ℕ) → x < length inner
    → get_or (map (map pair_code) (edges_of inner)) x [] ≡ pair_code (edge_at inner x) ∷ []
unfolding edge_at
edge_list n inner h x k =
    ap (λ (l : List (List Pair)). get_or (map (map pair_code) l) x []) (edges_ones n inner h)
    ∙ (ap (λ (l : List (List ℕ)). get_or l x []) (map-map (map pair_code) (λ (g : Kept). edge_in g ∷ []) inner
    ∙ sym (map-map (λ (e : Pair). pair_code e ∷ []) edge_in inner))
    ∙ map_at_holds (λ (e : Pair). pair_code e ∷ []) (map edge_in inner) x [] (0, 0)
    (omega (arith, length-map inner edge_in)))

pub edges_listed : (n : ℕ) (inner : List Kept) → Each n inner
    → length (map (map pair_code) (edges_of inner)) ≡ length inner
edges_listed n inner h =
    length-map (edges_of inner) (map pair_code)
    ∙ (ap length (edges_ones n inner h) ∙ length-map inner (λ (k : Kept). edge_in k ∷ []))

-- where there is no orbit
unfoldable pub no_kept : Kept
no_kept = record {
  orbit = record { vertices = []; count = 0 };
  ends = [];
  counts = [];
  places = [];
  edges = [];
  compounds = [];
}

pub edge_proper : (n : ℕ) (inner : List Kept) → Each n inner → (x : ℕ) → x < length inner → Proper n (edge_at inner x)
unfolding edge_at
edge_proper n inner h x k =
    subst (Proper n) (sym (map_at_holds edge_in inner x (0, 0) no_kept k))
    (h (get_or inner x no_kept) (member_at inner x no_kept k)).proper

-- ---- its entries

kept_edge : (n : ℕ) (inner : List Kept) → Each n inner → (x : ℕ) → x < length inner
    → kept_at (λ (k : Kept). k.edges) inner (x, 0) ≡ edge_at inner x ∷ []
unfolding kept_at edge_at
kept_edge n inner h x k =
    ap (λ (l : List (List (List Pair))). get_or (get_or l x []) 0 [])
    (map_same (λ (g : Kept). g.edges) (λ (g : Kept). (edge_in g ∷ []) ∷ []) inner (λ g m. (h g m).edges))
    ∙ (ap (λ (l : List (List Pair)). get_or l 0 [])
    (map_at_holds (λ (g : Kept). (edge_in g ∷ []) ∷ []) inner x [] no_kept k)
    ∙ ap (λ (e : Pair). e ∷ []) (sym (map_at_holds edge_in inner x (0, 0) no_kept k)))

entry_images : (n : ℕ) (rows : List Row) (inner : List Kept) → Each n inner → (numbers : List ℕ)
    → ((x : ℕ) → Mem x numbers → x < length inner)
    → flat_map (kept_edge_images rows inner) (map (facet_at inner) numbers) ≡ images_of rows inner numbers
unfolding kept_edge_images images_of flat_map
entry_images n rows inner h numbers b =
    flat_map_map (kept_edge_images rows inner) (facet_at inner) numbers
    ∙ flat_map_same (λ (x : ℕ). kept_edge_images rows inner (facet_at inner x))
    (λ (x : ℕ). map (pair_image (edge_at inner x)) rows) numbers one
  where
    one : (x : ℕ) → Mem x numbers
        → kept_edge_images rows inner (facet_at inner x) ≡ map (pair_image (edge_at inner x)) rows
    one x m =
        ap (kept_edge_images rows inner) (facet_is n inner h x (b x m))
        ∙ (ap (λ (l : List Pair). flat_map (λ (e : Pair). map (pair_image e) rows) l) (kept_edge n inner h x (b x m))
        ∙ append-nil (map (pair_image (edge_at inner x)) rows))

-- ---- what is kept

-- the orbit, its ridges, counts, places, edges and compounds
unfoldable pub polygon_kept : Orbit → List Row → List Kept → List (List ℕ) → List (Option Pair) → Kept
polygon_kept o rows inner lists labels = record {
  orbit = o;
  ends = map (λ (k : Kept). ends_via (λ (p : ℕ). get_or o.vertices p 0) (edge_in k)) inner;
  counts = map (λ (k : Kept). k.orbit.count) inner;
  places = lists;
  edges = map (entry_edges (λ (p : ℕ). get_or o.vertices p 0) rows inner) lists;
  compounds = compounds_from 0 labels;
}

module _ (n : ℕ) (rows : List Row) (inner : List Kept) (h : Each n inner) (to : ℕ → ℕ) where
  ridge_end : ((x y : ℕ) → x < y → y < n → to x < to y) → (k : Kept) → OneEdge n k
      → edge_via to (ends_of (get_or (kept_possible 0 k) 0 [])) ≡ ends_via to (edge_in k)
  unfolding kept_possible ends_of edge_via ends_via rank_of edge_figure
  ridge_end up k one =
      let e = edge_in k in
      let r = one.proper.rises in
      let b = one.proper.below in
      let l = up e.0 e.1 r b in
      let p : min (to e.0) (to e.1) ≡ to e.0 = omega arith in
      let q : max (to e.0) (to e.1) ≡ to e.1 = omega arith in
      ap (λ (es : List (List Pair)).
      edge_via to (ends_of (get_or (map (λ (l : List Pair). edge_figure (get_or l 0 (0, 0))) es) 0 []))) one.edges
      ∙ (λ t. (p t, q t))

  entry_place : (numbers : List ℕ) → ((x : ℕ) → Mem x numbers → x < length inner)
      → map (λ (place : Pair). place.0) (map (facet_at inner) numbers) ≡ numbers
  entry_place numbers b =
      map-map (λ (place : Pair). place.0) (facet_at inner) numbers ∙ map_self
      (λ (x : ℕ). (facet_at inner x).0) numbers (λ x m. ap (λ (f : Facet). f.0) (facet_is n inner h x (b x m)))

  entry_edges_holds : (numbers : List ℕ) → ((x : ℕ) → Mem x numbers → x < length inner)
      → edge_pairs (move_ends to (figure_left 0 n rows inner numbers)) ≡ entry_edges to rows inner numbers
  unfolding figure_left kept_figure entry_edges
  entry_edges_holds numbers b =
      ap (λ (l : List Pair). edge_pairs (move_ends to (polygon n (edges_in_order l))))
      (entry_images n rows inner h numbers b)
      ∙ (ap edge_pairs (polygon_raised to n (edges_in_order (images_of rows inner numbers)))
      ∙ polygon_edges n (map (ends_via to) (edges_in_order (images_of rows inner numbers))))

pub polygon_kept_holds : (n : ℕ) (rows : List Row) (inner : List Kept) (level : Level) (s : List ℕ) (left : ℕ)
    (i : Inner) → i.answer ≡ answer_left 0 n rows inner level s left → ((k : Kept) → Mem k inner → OneEdge n k)
    → ((x y : ℕ) → x < y → y < n → get_or i.orbit.vertices x 0 < get_or i.orbit.vertices y 0)
    → AllBelow (length inner) (lists_left level s)
    → kept_of i ≡ polygon_kept i.orbit rows inner (lists_left level s)
    (labels_in (level.bytes + 2048) level.count (drop level.lists s))
unfolding kept_of polygon_kept answer_left entry_left possible_facets
polygon_kept_holds n rows inner level s left i e h up b =
    let to : ℕ → ℕ = λ p. get_or i.orbit.vertices p 0 in
    let lists = lists_left level s in
    let both = both_left level s in
    let split : List ℕ × List ℕ → List ℕ = λ b. b.0 in
    let entry : List ℕ × List ℕ → Entry = entry_left 0 n rows inner in
    let ends : map (λ (ridges : List Figure). edge_via to (ends_of (get_or ridges 0 [])))
    (map (kept_possible 0) inner) ≡ map (λ (k : Kept). ends_via to (edge_in k)) inner =
    map-map (λ (ridges : List Figure). edge_via to (ends_of (get_or ridges 0 []))) (kept_possible 0) inner
    ∙ map_same (λ (k : Kept). edge_via to (ends_of (get_or (kept_possible 0 k) 0 [])))
    (λ (k : Kept). ends_via to (edge_in k)) inner (λ k m. ridge_end n rows inner h to up k (h k m)) in
    let place : List ℕ → List ℕ = λ l. map (λ (place : Pair). place.0) (map (facet_at inner) l) in
    let places : map (λ (e : Entry). map (λ (place : Pair). place.0) e.list) (map entry both) ≡ lists =
    map-map (λ (e : Entry). map (λ (place : Pair). place.0) e.list) entry both
    ∙ (sym (map-map place split both) ∙ (ap (map place) (lists_of_both level s)
    ∙ map_self place lists (λ l m. entry_place n rows inner h to l (b l m)))) in
    let drawn : List ℕ → List Pair = λ l. edge_pairs (move_ends to (figure_left 0 n rows inner l)) in
    let edges : map edge_pairs (map (λ (e : Entry). move_ends to e.figure) (map entry both))
    ≡ map (entry_edges to rows inner) lists =
    map-map edge_pairs (λ (e : Entry). move_ends to e.figure) (map entry both)
    ∙ (map-map (λ (e : Entry). edge_pairs (move_ends to e.figure)) entry both
    ∙ (sym (map-map drawn split both)
    ∙ (ap (map drawn) (lists_of_both level s)
    ∙ map_same drawn (entry_edges to rows inner) lists (λ l m. entry_edges_holds n rows inner h to l (b l m))))) in
    ap (λ (a : Answer). kept_of (record { orbit = i.orbit; answer = a })) e
    ∙ (λ t. record {
      orbit = i.orbit;
      ends = ends t;
      counts = map (λ (k : Kept). k.orbit.count) inner;
      places = places t;
      edges = edges t;
      compounds = compounds_from 0 (labels_in (level.bytes + 2048) level.count (drop level.lists s));
    })
