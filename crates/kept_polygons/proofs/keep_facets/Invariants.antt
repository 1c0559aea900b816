-- `kept_polygons::keep_facets` meets its contract. The loop's invariant: the first k entries are stored as facets.
-- Assumes nothing.
use mathlib.Core.List.{List}
use Prim.Native.Nat.{ℕ, ◌≤◌}
use Rattle.shapes.specs.Kept.{Kept}
use Rattle.kept_polygons.specs.Facets.{Source, SoFar}
use Rattle.kept_polygons.proofs.keep_facets.Given as goal

abbrev pub invariant-loop-k : goal.invariant-loop-k
invariant-loop-k l =
    (l.k ≤ l.part.level.count) × ((n : ℕ) (inner : List Kept) → Source n l.part.rows.count inner l.part.level
    l.part.rows.bytes.now l.part.at l.part.vertices.now.items l.initial.ws → SoFar l.layout n l.part.rows.count
    inner l.part.level l.part.rows.bytes.now l.part.at l.part.vertices.now.items l.initial.ws l.k l.ws)
