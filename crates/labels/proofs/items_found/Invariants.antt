-- `labels::items_found` meets its contract. Invariant: j items are found, and with those that the walk from i and j
-- on finds they are all that it finds. Measure: the items of list a that are left. Assumes nothing.
use mathlib.Core.Path.{◌≡◌}
use Prim.Native.Nat.{◌+◌, ◌-◌, ◌≤◌}
use lib.ListN.{drop}
use Rattle.order.specs.Areas.{list_of}
use Rattle.labels.specs.Walked.{items_found}
use Rattle.labels.proofs.items_found.Given as goal

abbrev pub invariant-loop-j : goal.invariant-loop-j
invariant-loop-j l =
    (l.i ≤ l.m) × (l.j ≤ l.n) × (l.j + items_found (drop l.i (list_of l.lists.area l.lists.bytes.now l.a))
    (drop l.j (list_of l.lists.area l.lists.bytes.now l.b))
    ≡ items_found (list_of l.lists.area l.lists.bytes.now l.a) (list_of l.lists.area l.lists.bytes.now l.b))

abbrev pub decreases-loop-j : goal.decreases-loop-j
decreases-loop-j l = l.m - l.i
