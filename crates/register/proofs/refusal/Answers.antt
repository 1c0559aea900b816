-- `register::refusal` meets its contract: a number below 256 has its negative in the return code. Assumes nothing.
use native.Mathlib.Omega.{arith}
use Rattle.register.proofs.Codes.{negated_fits, negated}
use Rattle.register.proofs.refusal.Goals as goal

pub overflow_sub-result : goal.overflow_sub-result
overflow_sub-result c = negated_fits c.args.number (omega arith)

pub returns : goal.returns
returns c = negated c.args.number (omega arith)
