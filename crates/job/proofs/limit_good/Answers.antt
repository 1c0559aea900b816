-- `job::limit_good` meets its contract. Assumes nothing.
use Rattle.std.proofs.Common.{rules}
use Rattle.job.proofs.Laws.{limit_told}
use Rattle.job.proofs.limit_good.Goals as goal

pub returns : goal.returns
returns c = limit_told _ _ c.is_none_or.ensures (λ x h. search rules)
