-- `power` meets its contract.
use native.Mathlib.Omega.{arith}
use Rattle.sets.proofs.Laws.{shifted}
use Rattle.sets.proofs.power.Goals as goal

pub returns : goal.returns
returns c = shifted c.args.v (omega arith)
