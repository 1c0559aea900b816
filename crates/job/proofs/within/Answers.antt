-- `job::within` meets its contract. Assumes nothing.
use mathlib.Core.Path.{refl}
use Rattle.job.specs.Refusal.{size_within}
use Rattle.job.proofs.within.Goals as goal

pub returns-then-x-most : goal.returns-then-x-most
unfolding size_within
returns-then-x-most c = rw c.if-x-most.true refl

pub returns-else-x-most : goal.returns-else-x-most
unfolding size_within
returns-else-x-most c = rw c.if-x-most.false refl
