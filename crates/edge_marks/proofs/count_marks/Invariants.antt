-- `edge_marks::count_marks` meets its contract. The loop's invariant: `many` is the number of marks below `code`.
use mathlib.Core.Path.{◌≡◌}
use Prim.Native.Nat.{◌≤◌}
use lib.ListN.{length}
use Rattle.edge_marks.specs.Marks.{codes_marked}
use Rattle.edge_marks.proofs.count_marks.Given as goal

abbrev pub invariant-loop-code : goal.invariant-loop-code
invariant-loop-code l = (l.code ≤ 400) × (l.many ≤ l.code) × (l.many ≡ length (codes_marked l.marks l.code))
