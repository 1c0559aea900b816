-- `hash` is safe and ends: the hash stays below the modulus, so that no step passes 2^57.
use Rattle.std.proofs.Common.{◌<◌}
use Rattle.replay.proofs.hash.Given as goal

abbrev pub invariant-loop-b : goal.invariant-loop-b
invariant-loop-b l = l.sum < 4294967291
