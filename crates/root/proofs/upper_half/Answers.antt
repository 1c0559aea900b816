-- `root::upper_half` meets its contract, by the laws of the second step. Assumes nothing.
use native.Mathlib.Omega.{arith}
use Rattle.root.specs.Newton.{guess_range, second_quotient, next_near, next_large, next_kept, next_lowered}
use Rattle.root.proofs.upper_half.Goals as goal

pub nonzero_div-z : goal.nonzero_div-z
nonzero_div-z c = omega (arith, guess_range c.args.m c.args.y c.requires.0 c.requires.1 c.requires.2)

pub overflow_add-z : goal.overflow_add-z
overflow_add-z c =
    omega (
      arith,
      guess_range c.args.m c.args.y c.requires.0 c.requires.1 c.requires.2,
      second_quotient c.args.m c.args.y c.requires.0 c.requires.1 c.requires.2,
    )

pub overflow_mul-z : goal.overflow_mul-z
overflow_mul-z c = omega (arith, next_near c.args.m c.args.y c.requires.0 c.requires.1 c.requires.2)

pub overflow_sub-result : goal.overflow_sub-result
overflow_sub-result c = omega (arith, next_large c.args.m c.args.y c.requires.0 c.requires.1 c.requires.2)

pub returns-then-z-m : goal.returns-then-z-m
returns-then-z-m c = next_kept c.args.m c.args.y c.requires.0 c.requires.1 c.requires.2 c.if-z-m.true

pub returns-else-z-m : goal.returns-else-z-m
returns-else-z-m c =
    next_lowered c.args.m c.args.y c.requires.0 c.requires.1 c.requires.2 c.if-z-m.false _ (omega arith)
