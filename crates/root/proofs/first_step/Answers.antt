-- `root::first_step` meets its contract, by the law of the first step. Assumes nothing.
use native.Mathlib.Omega.{arith}
use Rattle.root.specs.Newton.{start_range, quotient_small, first_step}
use Rattle.root.proofs.first_step.Goals as goal

pub overflow_mul-result : goal.overflow_mul-result
overflow_mul-result c = omega (arith, start_range c.args.n c.start-s.result c.requires.0 c.requires.1 c.start-s.ensures)

pub nonzero_div-result-2 : goal.nonzero_div-result-2
nonzero_div-result-2 c =
    omega (arith, start_range c.args.n c.start-s.result c.requires.0 c.requires.1 c.start-s.ensures)

pub overflow_add-result : goal.overflow_add-result
overflow_add-result c =
    omega (
      arith,
      start_range c.args.n c.start-s.result c.requires.0 c.requires.1 c.start-s.ensures,
      quotient_small c.args.n c.start-s.result c.requires.0 c.requires.1 c.start-s.ensures,
    )

pub returns : goal.returns
returns c =
    first_step c.args.n c.start-s.result c.requires.0 c.requires.1 c.start-s.ensures _ (omega arith) (omega arith)
