-- `kept_polygons::store_ridges` meets its contract. The loop's invariant: the ridges of the first `a` inner orbits
-- stand in the pool's open list. Assumes nothing.
use mathlib.Core.List.{List}
use Prim.Native.Nat.{ℕ, ◌-◌, ◌≤◌}
use lib.ListN.{take, drop}
use Rattle.shapes.specs.Kept.{Kept}
use Rattle.left_edges.specs.Polygons.{EdgesLeft}
use Rattle.keep.specs.Storing.{Growing}
use Rattle.left_edges.specs.Reading.{ridges_moved}
use Rattle.kept_polygons.proofs.store_ridges.Given as goal

abbrev pub invariant-loop-a : goal.invariant-loop-a
invariant-loop-a l =
    (l.a ≤ l.part.level.layout.orbits) × ((n m : ℕ) (rows : List ℕ) (inner : List Kept)
    → EdgesLeft n m inner l.part.level rows (drop l.part.at l.initial.ws) → Growing 4 256 l.from
    (l.to - l.from) l.initial.ws l.ws (take l.a (ridges_moved l.part.vertices.now.items inner)))
