-- `u32::put` meets its contract. Assumes nothing.
use mathlib.Core.Path.{◌∙◌}
use Rattle.words.proofs.Laws.{copied}
use Rattle.words.proofs.U32Word.put.Goals as goal

pub returns : goal.returns
returns c = copied 4 _ _ _ _ c.requires (c.copy_from_slice.ensures.after ∙ c.to_le_bytes.ensures)
