-- The figures of nested sets. The figure of facets is that of the set of their elements, at every rank from 3:
-- `figure_of` in one equation. Moved and sorted it is the figure of the element sent; moved by a map that rises it is
-- the figure of the element as it comes; and figures on as many points are equal exactly where the elements are.
-- Leans on Nested and FigureOf.
use Rattle.std.specs.Prelude.{◌≡◌, refl, List, [], ◌∷◌, map, ℕ, zero, suc, length, get_or, drop, replicate}
use Rattle.std.proofs.Common.{ap, ◌∙◌}
use Rattle.std.proofs.lemmas.Simd.{map-map}
use Rattle.std.proofs.lemmas.List.{length-replicate}
use Rattle.definitions.specs.Lists.{Pair, sort_nats}
use Rattle.definitions.specs.Figures.{Elements, Figure, rank_of, sort_ranks, sort_strong, move_ends, renumber}
use Rattle.definitions.specs.Recursion.{move_sorted}
use Rattle.laws.specs.Places.{map_self}
use Rattle.shapes.specs.Assemble.{lowest_of, lowest_by}
use Rattle.shapes.specs.Gathered.{sort_all}
use Rattle.shapes.specs.EdgeSets.{ends}
use Rattle.shapes.specs.Polygons.{edge_pairs}
use Rattle.shapes.specs.Levels.{lowest_in, ranks_of}
use Rattle.shapes.specs.LevelFigures.{lowest_of_ranks}
use Rattle.shapes.specs.LevelMoves.{Building, read_item, ranks_read}
use Rattle.shapes.specs.Nested.{Nested, NestedSet, nested, nested_sets}

-- the ranks of an element from the edges up
abbrev pub nested_ranks : (k : ℕ) → Nested k → List Elements
nested_ranks k x = ranks_of nested ends k x

-- the figure of an element of rank 2 + k, with so many points
unfoldable pub nested_figure : (points k : ℕ) → Nested k → Figure
nested_figure points k x = ([] ∷ []) ∷ replicate points (0 ∷ []) ∷ nested_ranks k x

-- an element with the number of points that stands in its figure
abbrev pub Pointed : ℕ → Type 0
Pointed k = ℕ × Nested k

abbrev pub pointed_figure : (k : ℕ) → Pointed k → Figure
pointed_figure k x = nested_figure x.0 k x.1

-- ---- moved

pub move_ranks : (to : ℕ → ℕ) (empty points : Elements) (ranks : List Elements)
    → move_sorted to (empty ∷ points ∷ ranks) ≡ empty ∷ points ∷ sort_all (lowest_by to ranks)
unfolding move_sorted sort_strong move_ends sort_all lowest_by renumber
move_ranks to empty points [] = refl
move_ranks to empty points (edges ∷ more) =
    ap (λ (es : Elements). empty ∷ points ∷ sort_ranks es more) (map-map sort_nats (map to) edges)

-- ---- an element read off its figure

-- what stands for an element where there is none
unfoldable pub no_element : (k : ℕ) → Nested k
no_element zero = (0, 0)
no_element (suc k) = []

unfoldable pub nested_building : Building nested
nested_building = record { none = no_element; build = λ k l. l; built = λ k x. refl }

unfoldable pub read_nested : (k : ℕ) → Figure → Nested k
read_nested k f = read_item k nested nested_building (edge_pairs f) (drop 3 f)

pub nested_read : (n points k : ℕ) (x : Nested k) → NestedSet n k x → read_nested k (nested_figure points k x) ≡ x
unfolding read_nested nested_figure edge_pairs rank_of ends
nested_read n points k x h =
    let edge : List ℕ → Pair = λ e. (get_or e 0 0, get_or e 1 0) in
    let edges : map edge (lowest_of (nested_ranks k x)) ≡ lowest_in nested k x =
    ap (map edge) (lowest_of_ranks nested ends k x) ∙ map-map edge ends (lowest_in nested k x)
    ∙ map_self (λ (e : Pair). (e.0, e.1)) (lowest_in nested k x) (λ e i. refl) in
    ap (λ (es : List Pair). read_item k nested nested_building es (drop 1 (nested_ranks k x))) edges
    ∙ ranks_read k nested (nested_sets n) nested_building ends x h

pub nested_points : (points k : ℕ) (x : Nested k) → length (rank_of 1 (nested_figure points k x)) ≡ points
unfolding rank_of nested_figure
nested_points points k x = length-replicate {A = List ℕ} points (0 ∷ [])
