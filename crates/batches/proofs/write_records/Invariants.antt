-- `batches::write_records` meets its contract. The loop's invariant: the records so far stand in the front of the
-- buffer, zeros behind them, and the rest of the row decides what comes of all (Going). The measure is what is left
-- of the row. Assumes nothing.
use mathlib.Core.Path.{◌≡◌}
use Prim.Native.Nat.{◌-◌}
use lib.ListN.{length}
use Rattle.batches.specs.Going.{Going}
use Rattle.batches.proofs.write_records.Given as goal

abbrev pub invariant-loop-at : goal.invariant-loop-at
invariant-loop-at l =
    (length l.workspace ≡ length l.initial.workspace)
    × Going l.row (length l.initial.workspace) (length l.initial.records) l.at l.end l.records

abbrev pub decreases-loop-at : goal.decreases-loop-at
decreases-loop-at l = length l.row - l.at
