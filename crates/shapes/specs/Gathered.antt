-- The figure of a list of facets with each rank put in order at once: it equals `figure_of`, it has its shape, and
-- facets in another order or repeated give the same. Leans on Assemble.
use mathlib.Core.List.{List, [], ◌∷◌, map}
use Prim.Native.Nat.{ℕ, zero, suc}
use Rattle.std.proofs.Math.ListN.{length}
use Rattle.definitions.specs.Lists.{sort_by, compare_nats, count_from}
use Rattle.definitions.specs.Figures.{Elements, sort_ranks, lowest_ranks, without_lowest}

-- the elements of the facets' lowest ranks, each once, ascending
unfoldable pub elements_of : List (List Elements) → Elements
elements_of facets = sort_by compare_nats (lowest_ranks facets)

-- `assemble`, each rank in order
unfoldable pub gathered : ℕ → List (List Elements) → List Elements
gathered zero facets = let elements = elements_of facets in elements ∷ (count_from 0 (length elements) ∷ []) ∷ []
gathered (suc more) facets =
    let elements = elements_of facets in
    elements ∷ gathered more (map (without_lowest elements) facets)

-- ---- assembled and then sorted is gathered

unfoldable pub sort_all : List Elements → List Elements
sort_all [] = []
sort_all (x ∷ more) = sort_ranks x more
