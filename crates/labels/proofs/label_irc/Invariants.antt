-- `labels::label_irc` meets its contract. Invariants, from the outermost loop in: the labels of the entries before a
-- are written, and none of the lists before the start is found inside entry a or a later one; none of the lists
-- before b is found inside entry a; the walk from i and j on succeeds where the whole walk does; none of the lists
-- behind b and before c is what is left. Measure of the walk: the items of list a that are left.
use mathlib.Core.Path.{◌≡◌}
use Prim.Native.Nat.{◌-◌, ◌≤◌, compare}
use lib.ListN.{drop}
use Rattle.order.specs.Areas.{list_of, lists_of}
use Rattle.definitions.specs.Figures.{walk}
use Rattle.definitions.specs.Plain.{is_found}
use Rattle.labels.proofs.Labelling.{Base, Searching, Seeking, Started}
use Rattle.labels.proofs.label_irc.Given as goal

abbrev pub invariant-loop-j : goal.invariant-loop-j
invariant-loop-j l =
    (l.i ≤ l.m) × (l.j ≤ l.n) × (is_found
    (walk compare (drop l.i (list_of l.area l.lists.0.now l.a)) (drop l.j (list_of l.area l.lists.0.now l.b)))
    ≡ is_found (walk compare (list_of l.area l.lists.0.now l.a) (list_of l.area l.lists.0.now l.b)))

abbrev pub decreases-loop-j : goal.decreases-loop-j
decreases-loop-j l = l.m - l.i

abbrev pub invariant-loop-c : goal.invariant-loop-c
invariant-loop-c l = Seeking (lists_of l.area l.lists.0.now) l.a l.b l.c

abbrev pub invariant-subset : goal.invariant-subset
invariant-subset l = Searching (lists_of l.area l.lists.0.now) l.a l.b

abbrev pub invariant-a : goal.invariant-a
invariant-a l = Base l.area l.at l.initial.ws l.ws l.a × Started (lists_of l.area l.initial.ws) l.a l.start
