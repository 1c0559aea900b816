-- `facet_images::edge_numbers` meets its contract. The loop's invariant: `many` is the number of marks below `code`,
-- and the number of each code below it is how many marks lie below that one.
use mathlib.Core.Path.{◌≡◌}
use Prim.Native.Nat.{◌≤◌}
use lib.ListN.{length}
use Rattle.edge_marks.specs.Marks.{codes_marked}
use Rattle.facet_images.proofs.Choosing.{NumbersTo}
use Rattle.facet_images.proofs.edge_numbers.Given as goal

abbrev pub invariant-loop-code : goal.invariant-loop-code
invariant-loop-code l =
    (l.code ≤ 400) × (l.many ≤ l.code) × (l.many ≡ length (codes_marked l.marks l.code))
    × NumbersTo l.marks l.numbers l.code
