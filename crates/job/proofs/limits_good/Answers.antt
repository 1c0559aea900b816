-- `job::limits_good` meets its contract: the library's test of a finite number is the definition's. Assumes nothing.
use mathlib.Core.Path.{◌∙◌}
use Rattle.std.proofs.Common.{rules}
use Rattle.job.proofs.Laws.{finite_same}
use Rattle.job.proofs.limits_good.Goals as goal

pub returns-then-limit_good-2 : goal.returns-then-limit_good-2
returns-then-limit_good-2 c = c.is_finite.ensures.value ∙ (finite_same _ ∙ search rules)
