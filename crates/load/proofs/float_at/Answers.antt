-- `load::float_at` meets its contract: the float that was read, or the NaN. Assumes nothing.
use mathlib.Core.Path.{◌∙◌}
use lib.Ieee.{of_bits}
use Rattle.load.proofs.Laws.{value_read}
use Rattle.load.proofs.float_at.Goals as goal

pub returns : goal.returns
unfolding of_bits
returns c = c.unwrap_or.ensures ∙ rw c.get_f64.ensures (value_read _)
