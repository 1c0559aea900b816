-- `labels::is_left` meets its contract. The loop's invariant: what is left of the three lists decides as the whole
-- lists do. Assumes nothing.
use Rattle.order.specs.Areas.{list_of}
use Rattle.labels.proofs.Walking.{Left}
use Rattle.labels.proofs.is_left.Given as goal

abbrev pub invariant-loop-i : goal.invariant-loop-i
invariant-loop-i l =
    Left (list_of l.lists.area l.lists.bytes.now l.a) (list_of l.lists.area l.lists.bytes.now l.b)
    (list_of l.lists.area l.lists.bytes.now l.c) l.i l.j
