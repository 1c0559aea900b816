-- `job::workspace_for` meets its contract. Assumes nothing.
use mathlib.Core.Path.{refl}
use borrow.Author.Tests.{eq-eqb, ne_eqb}
use Rattle.definitions.specs.Job.{workspace_for}
use Rattle.job.proofs.workspace_for.Goals as goal

pub returns-then-rank-eq2 : goal.returns-then-rank-eq2
unfolding workspace_for
returns-then-rank-eq2 c = rw (eq-eqb _ _ c.if-rank-eq2.true) refl

pub returns-then-rank-eq3 : goal.returns-then-rank-eq3
unfolding workspace_for
returns-then-rank-eq3 c = rw (ne_eqb _ _ c.if-rank-eq2.false, eq-eqb _ _ c.if-rank-eq3.true) refl

pub returns-else-rank-eq3 : goal.returns-else-rank-eq3
unfolding workspace_for
returns-else-rank-eq3 c = rw (ne_eqb _ _ c.if-rank-eq2.false, ne_eqb _ _ c.if-rank-eq3.false) refl
