-- `load::copy_rows` meets its contract. The invariant: the first i rows were written to the region, 32 bytes apart,
-- and stand there. Assumes nothing.
use mathlib.Core.Path.{◌≡◌}
use Prim.Native.Nat.{◌≤◌}
use lib.ListN.{length}
use Rattle.rows.specs.Rows.{rows_in, written_rows}
use Rattle.load.specs.Meaning.{rows_at}
use Rattle.load.proofs.copy_rows.Given as goal

abbrev pub invariant-loop-i : goal.invariant-loop-i
invariant-loop-i l =
    (l.i ≤ l.count) × (length l.region ≡ length l.initial.region)
    × (rows_in l.n l.i l.region ≡ rows_at l.bytes l.at l.n l.i)
    × (l.region ≡ written_rows (rows_at l.bytes l.at l.n l.i) 0 l.initial.region)
