-- The words of the possible facets from what stands in the workspace: for each orbit how many facets it has, and
-- their figures. Leans on Facets.
use mathlib.Core.List.{List, [], ◌∷◌, ◌++◌, map, flat_map}
use Rattle.std.specs.Prelude.{◌*◌, ℕ, zero, suc, length, get_or, take, drop}
use Rattle.definitions.specs.Job.{number_at, figure_words}
use Rattle.laws.specs.Sets.{vertices_of}
use Rattle.rows.specs.Codes.{pair_of}
use Rattle.shapes.specs.Edges.{edge_figure}
use Rattle.shapes.specs.EdgeSets.{polygon}
use Rattle.possible_facets.specs.Facets.{leading}

-- the figure of a facet of rank 2
unfoldable pub edge_figure_words : List ℕ → List ℕ
edge_figure_words codes = figure_words (edge_figure (pair_of (get_or codes 0 0)))

-- the figure of a facet of rank 3, over so many points
unfoldable pub polygon_words : ℕ → List ℕ → List ℕ
polygon_words n codes = figure_words (polygon n (map pair_of codes))

-- how many vertices an orbit's first set has
unfoldable pub size_in : ℕ → List ℕ → ℕ → ℕ
size_in n s orbit = length (vertices_of n (number_at s (8 * orbit) 4))

-- for each orbit, from one on, the number of its facets and their figures
unfoldable pub possible_from : (ℕ → List ℕ → List ℕ) → ℕ → ℕ → List ℕ → List (List ℕ) → List ℕ
possible_from figure zero orbit owners edges = []
possible_from figure (suc more) orbit owners edges =
    let many = leading orbit owners in
    many ∷ flat_map (figure orbit) (take many edges)
    ++ possible_from figure more (suc orbit) (drop many owners) (drop many edges)
