-- `u16::get` meets its contract. Assumes nothing.
use mathlib.Core.Path.{◌∙◌}
use Rattle.words.proofs.Laws.{read_bytes}
use Rattle.words.proofs.U16Word.get.Goals as goal

pub returns : goal.returns
returns c = c.from_le_bytes.ensures ∙ read_bytes _ _ _ 1 _ c.requires c.unwrap.ensures c.try_into.ensures.1
