-- `pool::list_length` meets its contract. Assumes nothing.
use mathlib.Core.Path.{◌∙◌}
use Rattle.pool.proofs.Laws.{length_read}
use Rattle.pool.proofs.list_length.Goals as goal

pub returns : goal.returns
returns c = c.saturating_sub.ensures ∙ length_read _ _ _ _ c.get-a.ensures c.get-b.ensures
