-- `job::between` meets its contract. Assumes nothing.
use Rattle.std.proofs.Common.{arith}
use Rattle.definitions.specs.Job.{between}
use Rattle.job.proofs.between.Goals as goal

pub returns : goal.returns
unfolding between
returns c = grind (arith)
