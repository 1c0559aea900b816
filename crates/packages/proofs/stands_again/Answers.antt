-- `packages::stands_again` meets its contract: what is asked of the bytes behind a place is the definition's test of
-- them. Assumes nothing.
use native.Mathlib.Omega.{arith}
use Rattle.packages.specs.Once.{any_behind}
use Rattle.packages.proofs.stands_again.Goals as goal

pub returns : goal.returns
returns c = grind (arith, any_behind c.args.globals.now c.args.i)
