-- `job::tolerance_good` meets its contract. Assumes nothing.
use mathlib.Core.Path.{refl}
use Rattle.definitions.specs.Job.{tolerance_good}
use Rattle.job.proofs.tolerance_good.Goals as goal

pub returns-then-tolerance : goal.returns-then-tolerance
unfolding tolerance_good
returns-then-tolerance c = rw c.if-tolerance.true refl

pub returns-else-tolerance : goal.returns-else-tolerance
unfolding tolerance_good
returns-else-tolerance c = rw c.if-tolerance.false refl
