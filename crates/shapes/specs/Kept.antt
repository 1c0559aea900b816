-- What a call of rank 3 or 4 keeps of its orbits and their inner calls, and what it makes of that: the table that it
-- searches, and its answer. Edges stand for figures: a ridge is its two ends (at rank 3 one vertex twice), a possible
-- facet its edges. KeptTable and KeptAnswer show that nothing else is needed. Leans on Ridges, EdgeSets and Polygons.
use mathlib.Core.List.{List, [], map, flat_map, zip_with}
use Rattle.std.specs.Prelude.{ℕ, zero, suc, ◌*◌, ◌/◌, length, get_or}
use Rattle.definitions.specs.Lists.{Pair, compare_pair, map_with, sort_by}
use Rattle.definitions.specs.Orbits.{Row, Orbit, pair_image}
use Rattle.definitions.specs.Figures.{Figure, Compound, rank_of, parts_of, label_irc}
use Rattle.definitions.specs.Search.{Facet, Share, Table, Found}
use Rattle.definitions.specs.Recursion.{Entry, Answer, Inner}
use Rattle.definitions.specs.Faceting.{possible_facets, compare_entries}
use Rattle.shapes.specs.Edges.{edge_figure}
use Rattle.shapes.specs.EdgeSets.{polygon, polyhedron, edges_in_order, polygons_in_order}
use Rattle.shapes.specs.Polygons.{edge_via, edge_pairs}
use Rattle.shapes.specs.Ridges.{KnownKeys, no_keys, key_held_by, number_or_open_key}

-- One orbit: for each orbit of its inner call the ends of its ridge, in this call's vertices, and its count; for each
-- possible facet the inner orbits of its places in order, and its edges in this call's vertices, ascending; and the
-- compounds among them.
pub record Kept : Type 0 where
  pub orbit : Orbit
  pub ends : List Pair
  pub counts : List ℕ
  pub places : List (List ℕ)
  pub edges : List (List Pair)
  pub compounds : List Compound

-- the ends of a ridge's figure: those of an edge, or a vertex twice
unfoldable pub ends_of : Figure → Pair
ends_of f = let e = get_or (rank_of 2 f) 0 [] in (get_or e 0 0, get_or e 1 (get_or e 0 0))

-- what is kept of an inner call. Each of its orbits has one ridge
unfoldable pub kept_of : Inner → Kept
kept_of i = record {
  orbit = i.orbit;
  ends =
      map (λ (ridges : List Figure).
      edge_via (λ (v : ℕ). get_or i.orbit.vertices v 0) (ends_of (get_or ridges 0 []))) i.answer.possible;
  counts = i.answer.counts;
  places = map (λ (e : Entry). map (λ (place : Pair). place.0) e.list) i.answer.entries;
  edges = map edge_pairs (possible_facets i);
  compounds = i.answer.compounds;
}

-- ---- the table

-- a ridge's number: that of the ridge orbit holding it, or it opens one
unfoldable pub number_ends : List Row → KnownKeys Pair → Pair → ℕ × KnownKeys Pair
number_ends rows known ends =
    number_or_open_key compare_pair edge_via rows known ends (key_held_by compare_pair edge_via ends known.held)

-- for each orbit, for each of its inner orbits, the number of its ridge; and the ridge orbits' counts
unfoldable pub numbers_kept : List Row → List Kept → List (List ℕ) × KnownKeys Pair
numbers_kept rows kept = map_with (map_with (number_ends rows)) (no_keys Pair) (map (λ (k : Kept). k.ends) kept)

-- a share [6.8]
unfoldable pub kept_share : List ℕ → Kept → List ℕ → ℕ → Share
kept_share ridgeCounts k numbers a =
    let ridge = get_or numbers a 0 in
    (ridge, k.orbit.count * get_or k.counts a 0 / get_or ridgeCounts ridge 0)

unfoldable pub kept_shares : List ℕ → Kept → List ℕ → List (List Share)
kept_shares ridgeCounts k numbers = map (map (kept_share ridgeCounts k numbers)) k.places

unfoldable pub kept_table : List Row → List Kept → Table
kept_table rows kept =
    let numbered = numbers_kept rows kept in
    let ridgeCounts = numbered.1.counts in
    record { shares = zip_with (kept_shares ridgeCounts) kept numbered.0; ridges = length ridgeCounts }

-- ---- the answer

-- what is kept of a facet: nothing where there is no such facet
unfoldable pub kept_at : {A : Type 0} → (Kept → List (List A)) → List Kept → Facet → List A
kept_at says kept f = get_or (get_or (map says kept) f.0 []) f.1 []

-- a facet's figure: at rank 3 an edge, at rank 4 a polygon over its own call's points
unfoldable pub kept_possible : ℕ → Kept → List Figure
kept_possible zero k = map (λ (edges : List Pair). edge_figure (get_or edges 0 (0, 0))) k.edges
kept_possible (suc more) k = map (polygon (length k.orbit.vertices)) k.edges

-- the facets that a facet is split into
unfoldable pub kept_parts : List Kept → Facet → List Facet
kept_parts kept f =
    let compounds = get_or (map (λ (k : Kept). k.compounds) kept) f.0 [] in
    map (λ (part : ℕ). (f.0, part)) (parts_of compounds (length (kept_at (λ (k : Kept). k.places) kept f)) f.1)

-- all row images of a facet's edges, and of its edge set
unfoldable pub kept_edge_images : List Row → List Kept → Facet → List Pair
kept_edge_images rows kept f = flat_map (λ (e : Pair). map (pair_image e) rows) (kept_at (λ (k : Kept). k.edges) kept f)

unfoldable pub kept_polygons : List Row → List Kept → Facet → List (List Pair)
kept_polygons rows kept f =
    map (λ (row : Row).
    edges_in_order (map (λ (e : Pair). pair_image e row) (kept_at (λ (k : Kept). k.edges) kept f))) rows

-- the figure of a split list in a call of so many points: its edges, and at rank 4 its polygons
unfoldable pub kept_figure : ℕ → ℕ → List Row → List Kept → List Facet → Figure
kept_figure zero n rows kept parts = polygon n (edges_in_order (flat_map (kept_edge_images rows kept) parts))
kept_figure (suc more) n rows kept parts =
    polyhedron n (edges_in_order (flat_map (kept_edge_images rows kept) parts))
    (polygons_in_order (flat_map (kept_polygons rows kept) parts))

unfoldable pub kept_entry : ℕ → ℕ → List Row → List Kept → List Facet → Entry
kept_entry more n rows kept list =
    let parts = flat_map (kept_parts kept) list in
    record { list = parts; before = list; figure = kept_figure more n rows kept parts }

unfoldable pub kept_answer : ℕ → ℕ → List Row → List Kept → Found → Answer
kept_answer more n rows kept found =
    let entries = sort_by compare_entries (map (kept_entry more n rows kept) found.lists) in
    record {
      counts = map (λ (k : Kept). k.orbit.count) kept;
      entries = entries;
      possible = map (kept_possible more) kept;
      compounds = label_irc compare_pair (map (λ (e : Entry). e.list) entries);
      left = found.left;
    }
