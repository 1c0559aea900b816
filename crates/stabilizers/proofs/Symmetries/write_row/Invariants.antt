-- `Symmetries::write_row` meets its contract. The invariant: the places of the vertices so far are written.
use mathlib.Core.Path.{◌≡◌}
use Rattle.stabilizers.proofs.Laws.{written}
use Rattle.stabilizers.proofs.Symmetries.write_row.Given as goal

abbrev pub invariant-loop-k : goal.invariant-loop-k
invariant-loop-k l = l.row ≡ written l.self.rows.bytes.now l.i l.set l.v-items l.initial.row l.k
