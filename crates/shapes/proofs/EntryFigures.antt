-- Theorems on the definitions of specs/EntryFigures.
use Rattle.std.specs.Prelude.{◌≡◌, ℕ, zero, suc, length, get_or}
use Rattle.std.proofs.Common.{sym, ◌∙◌, arith}
use Rattle.std.proofs.Math.Path.{ap}
use mathlib.Core.List.{List, map, flat_map}
use Rattle.definitions.specs.Lists.{Pair, compare_pair, compare_pairs}
use Rattle.definitions.specs.Vectors.{Vec}
use Rattle.definitions.specs.Subspace.{Subspace}
use Rattle.definitions.specs.Orbits.{Row, image, pair_image}
use Rattle.definitions.specs.Figures.{Figure}
use Rattle.definitions.specs.Outcome.{answered}
use Rattle.definitions.specs.Search.{Facet, Found}
use Rattle.definitions.specs.Recursion.{Rules, Entry, Answer, Inner}
use Rattle.definitions.specs.Faceting.{Prepared, possible_facets, split, entry_of, search_from, faceting}
use Rattle.laws.specs.Lists.{Mem, member_at, flat_map_same}
use Rattle.laws.specs.Orders.{nats, pairs, pair_lists, compare_lt}
use Rattle.laws.specs.Ascending.{SameItems, in_in_order, of_in_order, in_order_same}
use Rattle.laws.specs.Places.{ascending_at}
use Rattle.laws.specs.Ranges.{same_flat_map}
use Rattle.shapes.specs.Answered.{Preparation, AnsweredCall}
use Rattle.shapes.specs.LowRanks.{edge_of}
use Rattle.shapes.specs.Calls.{Given, inner_enough, call_set}
use Rattle.shapes.specs.SplitCalls.{InCall}
use Rattle.shapes.specs.EdgeSets.{Proper, EdgeSet, edges_in_order, polygons_in_order, polygon, polyhedron}
use Rattle.shapes.specs.Polygons.{edge_via, edge_pairs, polygon_edges}
use Rattle.shapes.specs.Nested.{NestedSet, move_nested}
use Rattle.shapes.specs.NestedFigures.{nested_figure}
use Rattle.shapes.specs.NestedCalls.{entry_points, facet_figure, facet_element, facet_points, nested_images}
use Rattle.shapes.specs.NestedCalls.{nested_facets}
use Rattle.shapes.proofs.NestedCalls.{facet_nested, list_nested, possible_nested, answered_nested, found_split_in_call}
use Rattle.shapes.specs.EntryFigures.{polygon_images, polygon_nested, polygons_of_list, polyhedron_nested}

-- ---- figures of rank 2, 3 and 4

edge_set : (n : ℕ) (l : List Pair) → NestedSet n (suc zero) l → EdgeSet n l
edge_set n l h = record { ascends = h.0; proper = h.1 }

-- the edge between the first two vertices of a set
pub edge_proper : (more : ℕ) (rules : Rules) (plane : Subspace) (points : List Vec) (rows : List Row) (p : Prepared)
    → Given points rows → Preparation more rules (faceting more rules) plane points rows p
    → (i : Inner) → Mem i p.inner → Proper p.points (edge_of i.orbit)
unfolding edge_of
edge_proper more rules plane points rows p given made i m =
    let vertices = i.orbit.vertices in
    let k = inner_enough more rules (faceting more rules) plane points rows p made i m in
    let s = call_set more rules plane points rows p given made i m in
    record {
      rises =
          compare_lt (get_or vertices 0 0) (get_or vertices 1 0)
          (ascending_at _ nats 0 vertices s.ascends 0 1 (omega arith) (omega arith));
      below = s.below (get_or vertices 1 0) (member_at vertices 1 0 (omega arith));
    }

-- ---- rank 3

-- every entry of a call of rank 3 is a polygon
pub entry_polygon : (rules : Rules) (plane : Subspace) (points : List Vec) (rows : List Row) (a : Answer)
    → Given points rows → AnsweredCall 0 rules plane points rows a
    → (e : Entry) → Mem e a.entries
    → (edges : List Pair) × (e.figure ≡ polygon (length points) edges) × EdgeSet (length points) edges
unfolding entry_points
entry_polygon rules plane points rows a given c e m =
    let r = (answered_nested zero rules plane points rows a given c).entries e m in
    (r.0, r.1 ∙ polygon_nested (length points) r.0, edge_set (length points) r.0 r.2)

-- ---- rank 4

module _ (rules : Rules) (plane : Subspace) (points : List Vec) (rows : List Row) (q : Prepared)
    (given : Given points rows) (made : Preparation 1 rules (faceting 1 rules) plane points rows q) where
  -- every possible facet is a polygon in this call's vertices, over as many points as its set has
  pub possible_polygon : (i : Inner) → Mem i q.inner → (f : Figure) → Mem f (possible_facets i)
      → (edges : List Pair) × (f ≡ polygon (length i.orbit.vertices) edges) × EdgeSet q.points edges
  unfolding entry_points
  possible_polygon i m f k =
      let r = possible_nested 1 rules plane points rows q given made i m f k in
      (r.0, r.1 ∙ polygon_nested (length i.orbit.vertices) r.0, edge_set q.points r.0 r.2)

  -- a facet's element is the edges read off its figure
  facet_edges_holds : (f : Facet) → InCall q f → edge_pairs (facet_figure q f) ≡ facet_element 1 q f
  facet_edges_holds f inside =
      let many = facet_points 1 q f in
      let x = facet_element 1 q f in
      ap edge_pairs ((facet_nested 1 rules plane points rows q given made f inside).0 ∙ polygon_nested many x)
      ∙ polygon_edges many x

  images_polygons : (f : Facet) → InCall q f → nested_images 1 q f ≡ polygon_images q f
  unfolding nested_images polygon_images move_nested pair_image edge_via
  images_polygons f inside =
      ap (λ (edges : List Pair).
      map (λ (row : Row). edges_in_order (map (λ (e : Pair). edge_via (image row) e) edges)) q.rows)
      (sym (facet_edges_holds f inside))

  -- the figure of a list found: its edges are all row images of its split facets' edges, its polygons all row images
  -- of their edge sets, in order
  pub rank_four_figure : (found : Found) → search_from rules q ≡ answered found → (l : List Facet) → Mem l found.lists
      → (entry_of q l).figure
      ≡ polyhedron q.points (edges_in_order (flat_map (λ (s : List Pair). s) (polygons_of_list q l)))
      (polygons_in_order (polygons_of_list q l))
  unfolding polygons_of_list nested_facets compare_pairs
  rank_four_figure found is_found_holds l m =
      let inside = found_split_in_call 1 rules plane points rows q given made found is_found_holds l m in
      let polygons = flat_map (polygon_images q) (split q l) in
      let once : SameItems (polygons_in_order polygons) polygons =
      record {
        into = λ s i. of_in_order compare_pairs pair_lists s polygons i;
        back = λ s i. in_in_order compare_pairs pair_lists s polygons i;
      } in
      (list_nested 1 rules plane points rows q given made found is_found_holds l m).0
      ∙ ap (λ (ps : List (List Pair)). nested_figure q.points 2 (polygons_in_order ps))
      (flat_map_same (nested_images 1 q) (polygon_images q) (split q l) (λ f i. images_polygons f (inside f i)))
      ∙ polyhedron_nested q.points (polygons_in_order polygons)
      ∙ ap (λ (edges : List Pair). polyhedron q.points edges (polygons_in_order polygons))
      (in_order_same compare_pair pairs (flat_map (λ (s : List Pair). s) (polygons_in_order polygons))
      (flat_map (λ (s : List Pair). s) polygons)
      (same_flat_map (λ (s : List Pair). s) (polygons_in_order polygons) polygons once))
