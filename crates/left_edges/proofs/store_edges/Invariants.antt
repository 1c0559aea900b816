-- `left_edges::store_edges` meets its contract. The loop's invariant: the marked codes below c, moved, stand in the
-- pool's open list. Assumes nothing.
use Prim.Native.Nat.{◌-◌, ◌≤◌}
use Rattle.keep.specs.Storing.{Growing}
use Rattle.left_edges.specs.Reading.{moved_below}
use Rattle.left_edges.proofs.store_edges.Given as goal

abbrev pub invariant-loop-c : goal.invariant-loop-c
invariant-loop-c l =
    (l.c ≤ 400) × Growing 2 1024 l.from (l.to - l.from) l.initial.ws l.ws (moved_below l.vertices.items l.marks l.c)
