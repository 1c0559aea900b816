-- The figures of entries of rank 3 and 4 by edges and polygons, read off NestedCalls: a rank 3 entry is a polygon, a
-- rank 4 entry's polygons are all row images of its split facets' edge sets. Leans on NestedCalls.
use Rattle.std.specs.Prelude.{◌≡◌, refl, ℕ, zero, suc}
use mathlib.Core.List.{List, map, flat_map}
use Rattle.definitions.specs.Lists.{Pair}
use Rattle.definitions.specs.Orbits.{Row, pair_image}
use Rattle.definitions.specs.Search.{Facet}
use Rattle.definitions.specs.Faceting.{Prepared, split}
use Rattle.shapes.specs.Edges.{edge_figure}
use Rattle.shapes.specs.EdgeSets.{ends, edges_in_order, polygon, polyhedron}
use Rattle.shapes.specs.Polygons.{edge_pairs}
use Rattle.shapes.specs.Levels.{under, lowest, upper_ranks, body_of, ranks_on, ranks_of}
use Rattle.shapes.specs.NestedFigures.{nested_figure}
use Rattle.shapes.specs.NestedCalls.{facet_figure}
pub use Rattle.shapes.specs.NestedCalls.{facets_many}

-- ---- figures of rank 2, 3 and 4

pub edge_nested : (e : Pair) → nested_figure 2 zero e ≡ edge_figure e
unfolding nested_figure ranks_of edge_figure ends
edge_nested e = refl

pub polygon_nested : (n : ℕ) (edges : List Pair) → nested_figure n (suc zero) edges ≡ polygon n edges
unfolding nested_figure ranks_of ranks_on upper_ranks lowest body_of polygon
polygon_nested n edges = refl

pub polyhedron_nested : (n : ℕ) (polygons : List (List Pair)) → nested_figure n (suc (suc zero)) polygons
    ≡ polyhedron n (edges_in_order (flat_map (λ (s : List Pair). s) polygons)) polygons
unfolding nested_figure ranks_of ranks_on upper_ranks lowest under body_of polyhedron
polyhedron_nested n polygons = refl

-- ---- rank 4

-- all row images of a facet's edge set, at rank 4
unfoldable pub polygon_images : Prepared → Facet → List (List Pair)
polygon_images p f =
    map (λ (row : Row). edges_in_order (map (λ (e : Pair). pair_image e row) (edge_pairs (facet_figure p f)))) p.rows

-- the polygons of a list's figure, at rank 4
unfoldable pub polygons_of_list : Prepared → List Facet → List (List Pair)
polygons_of_list p l = flat_map (polygon_images p) (split p l)
