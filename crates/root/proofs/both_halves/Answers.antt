-- `root::both_halves` meets its contract, by the laws of the lower half. Assumes nothing.
use native.Mathlib.Omega.{arith}
use Rattle.root.specs.Newton.{half_range, rest_small, part_small, digits_small, halves_kept, halves_lowered}
use Rattle.root.proofs.both_halves.Goals as goal

pub overflow_mul-rest-2 : goal.overflow_mul-rest-2
overflow_mul-rest-2 c = omega (arith, rest_small c.args.m c.args.y c.requires.0 c.requires.1 c.requires.2)

pub nonzero_div-d : goal.nonzero_div-d
nonzero_div-d c = omega (arith, half_range c.args.m c.args.y c.requires.0 c.requires.1 c.requires.2)

pub overflow_mul-r : goal.overflow_mul-r
overflow_mul-r c = omega (arith, half_range c.args.m c.args.y c.requires.0 c.requires.1 c.requires.2)

pub overflow_add-r : goal.overflow_add-r
overflow_add-r c =
    omega (
      arith,
      half_range c.args.m c.args.y c.requires.0 c.requires.1 c.requires.2,
      digits_small c.args.m c.args.y c.requires.0 c.requires.1 c.requires.2,
    )

pub overflow_mul-d : goal.overflow_mul-d
overflow_mul-d c = omega (arith, digits_small c.args.m c.args.y c.requires.0 c.requires.1 c.requires.2)

pub nonzero_rem-rest : goal.nonzero_rem-rest
nonzero_rem-rest c = omega (arith, half_range c.args.m c.args.y c.requires.0 c.requires.1 c.requires.2)

pub overflow_mul-rest-3 : goal.overflow_mul-rest-3
overflow_mul-rest-3 c =
    omega (
      arith,
      half_range c.args.m c.args.y c.requires.0 c.requires.1 c.requires.2,
      part_small c.args.m c.args.y c.requires.0 c.requires.1 c.requires.2,
    )

pub overflow_sub-result : goal.overflow_sub-result
overflow_sub-result c = omega (arith, half_range c.args.m c.args.y c.requires.0 c.requires.1 c.requires.2)

pub returns-then-d-rest : goal.returns-then-d-rest
returns-then-d-rest c = halves_kept c.args.m c.args.y c.requires.0 c.requires.1 c.requires.2 c.if-d-rest.true

pub returns-else-d-rest : goal.returns-else-d-rest
returns-else-d-rest c =
    halves_lowered c.args.m c.args.y c.requires.0 c.requires.1 c.requires.2 c.if-d-rest.false _ (omega arith)
