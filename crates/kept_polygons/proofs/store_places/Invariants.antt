-- `kept_polygons::store_places` meets its contract. The loop's invariant: the first i facets of entry k stand in the
-- pool's open list. Assumes nothing.
use mathlib.Core.List.{[]}
use Prim.Native.Nat.{◌-◌, ◌≤◌}
use lib.ListN.{get_or, take, drop}
use Rattle.layout.specs.Leaves.{lists_left}
use Rattle.keep.specs.Storing.{Growing}
use Rattle.kept_polygons.proofs.store_places.Given as goal

abbrev pub invariant-loop-i : goal.invariant-loop-i
invariant-loop-i l =
    (l.i ≤ l.items) × Growing 2 1024 l.from (l.to - l.from) l.initial.ws l.ws
    (take l.i (get_or (lists_left l.part.level (drop l.part.at l.initial.ws)) l.k []))
