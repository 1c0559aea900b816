-- `load::copy_row` meets its contract: a turn copies one byte (`copy_turn`), and at the end all are copied
-- (`copy_end`). Assumes nothing.
use mathlib.Core.Path.{refl}
use native.Mathlib.Omega.{arith}
use Rattle.laws.specs.Segments.{copy_start, copy_turn, copy_end}
use Rattle.load.proofs.copy_row.Goals as goal

pub loop-i-init : goal.loop-i-init
loop-i-init c = copy_start _ _ _ _

pub loop-i-preserved : goal.loop-i-preserved
loop-i-preserved c = copy_turn c.loop-i.invariant _ refl (omega arith) (omega arith) (omega arith)

pub returns : goal.returns
returns c = copy_end c.loop-i.invariant (omega arith)
