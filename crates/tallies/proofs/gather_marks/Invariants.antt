-- `gather_marks` meets its contract. The invariant: the marks of the images under the rows so far were gathered.
use mathlib.Core.Path.{◌≡◌}
use mathlib.Core.List.{map}
use Rattle.tallies.specs.Marks.{mark_number}
use Rattle.tallies.proofs.Laws.{images_to}
use Rattle.tallies.proofs.gather_marks.Given as goal

abbrev pub invariant-loop-i : goal.invariant-loop-i
invariant-loop-i l = l.new.items ≡ map (mark_number l.tally) (images_to l.full.n l.key l.full.rows.bytes.now l.i)
