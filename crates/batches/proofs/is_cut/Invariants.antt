-- `batches::is_cut` meets its contract. The loop's invariant: before `at` there are jobs alone, so that the rest
-- decides. The measure is what is left of the row. Assumes nothing.
use Prim.Native.Nat.{◌-◌}
use lib.ListN.{length}
use Rattle.batches.specs.Cutting.{Looked}
use Rattle.batches.proofs.is_cut.Given as goal

abbrev pub invariant-loop-at : goal.invariant-loop-at
invariant-loop-at l = Looked l.row l.at

abbrev pub decreases-loop-at : goal.decreases-loop-at
decreases-loop-at l = length l.row - l.at
