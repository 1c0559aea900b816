-- `list_jobs` is safe and ends: each job begins behind the one before it. The loop's invariant: `at` lies in the
-- input, and no more jobs were listed than there are bytes before `at`. The measure is what is left of the input.
use Rattle.std.proofs.Common.{◌-◌, ◌≤◌, length}
use Rattle.orbit_list.proofs.list_jobs.Given as goal

abbrev pub invariant-loop-at : goal.invariant-loop-at
invariant-loop-at g l = (l.at ≤ length l.input) × (l.number ≤ l.at)

abbrev pub decreases-loop-at : goal.decreases-loop-at
decreases-loop-at g l = length l.input - l.at
