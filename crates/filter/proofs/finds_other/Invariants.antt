-- `filter::finds_other` meets its contract. Invariant: none of the lists before b is found in list a, and how far the
-- walk came in the last of them is known. Assumes nothing.
use Prim.Native.Nat.{◌≤◌}
use Rattle.order.specs.Areas.{lists_of}
use Rattle.filter.specs.Noted.{Walked}
use Rattle.filter.specs.Found.{NoneBefore}
use Rattle.filter.proofs.finds_other.Given as goal

abbrev pub invariant-loop-b : goal.invariant-loop-b
invariant-loop-b l =
    (l.b ≤ l.lists.area.count) × NoneBefore (lists_of l.lists.area l.lists.bytes.now) l.a l.b
    × Walked (lists_of l.lists.area l.lists.bytes.now) l.a l.b l.found
