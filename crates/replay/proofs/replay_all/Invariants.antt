-- `replay_all` is safe and ends: no more records are the same than were replayed.
use Rattle.std.proofs.Common.{◌-◌, ◌≤◌}
use Rattle.replay.proofs.replay_all.Given as goal

abbrev pub invariant-loop-i : goal.invariant-loop-i
invariant-loop-i g l = (l.same ≤ l.i) × (l.i ≤ l.count)
