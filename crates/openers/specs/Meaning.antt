-- How vertices and pairs are walked with marks. Leans on the marks of the crate `rows`.
use Rattle.std.specs.Prelude.{Bool, false, List, map, ℕ, Float}
use Rattle.definitions.specs.Lists.{Pair}
use Rattle.definitions.specs.Vectors.{Vec}
use Rattle.definitions.specs.Orbits.{Row, Limits, image, breaks_limit, above}

-- ---- vertices

-- a vertex's images under the rows
unfoldable pub vertex_images : List Row → ℕ → List ℕ
vertex_images rows v = map (λ (row : Row). image row v) rows

-- no vertex is skipped
unfoldable pub none_skipped : ℕ → Bool
none_skipped v = false

-- ---- pairs

-- whether the length of a pair breaks a limit
unfoldable pub breaks : Float → Limits → List Vec → Pair → Bool
breaks tolerance limits points p = breaks_limit tolerance limits points p.0 p.1

-- the pairs (v, w) for each w > v, of n vertices
unfoldable pub pairs_above : ℕ → ℕ → List Pair
pairs_above n v = map (λ (w : ℕ). (v, w)) (above n v)
