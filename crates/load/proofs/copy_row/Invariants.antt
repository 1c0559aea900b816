-- `load::copy_row` meets its contract. The loop's invariant: the first i bytes of the row stand in the region. Assumes
-- nothing.
use lib.ListN.{length}
use Rattle.laws.specs.Segments.{Copied}
use Rattle.load.proofs.copy_row.Given as goal

abbrev pub invariant-loop-i : goal.invariant-loop-i
invariant-loop-i l = Copied l.initial.region l.at l.row (length l.row) l.region l.i
