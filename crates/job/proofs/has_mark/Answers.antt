-- `job::has_mark` meets its contract. Assumes nothing.
use mathlib.Core.Path.{◌∙◌}
use Rattle.job.proofs.Laws.{mark_told, too_short_for_a_mark}
use borrow.Author.Tests.{lt-leb}
use Rattle.job.proofs.has_mark.Goals as goal

pub returns-then-job-ge11 : goal.returns-then-job-ge11
returns-then-job-ge11 c = c.starts_with.ensures.value ∙ mark_told _ c.if-job-ge11.true

pub returns-else-job-ge11 : goal.returns-else-job-ge11
returns-else-job-ge11 c = lt-leb _ _ c.if-job-ge11.false ∙ too_short_for_a_mark _ c.if-job-ge11.false
