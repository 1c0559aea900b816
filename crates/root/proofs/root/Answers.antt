-- `root::root` meets its contract: NaN, zeros, what is refused and the rest, as the tests on the bits tell them
-- apart. Assumes nothing.
use mathlib.Core.Path.{sym, ◌∙◌}
use native.Mathlib.Omega.{arith}
use Rattle.root.specs.Special.{nan_refused, no_nan_bits, is_zero, is_refused_holds, is_value}
use Rattle.root.proofs.root.Goals as goal

pub returns-then-is_nan : goal.returns-then-is_nan
returns-then-is_nan c = sym (nan_refused c.args.x (sym c.is_nan.ensures.value ∙ c.if-is_nan.true))

pub returns-then-bits-eq0 : goal.returns-then-bits-eq0
returns-then-bits-eq0 c = is_zero c.args.x c.well_formed.0.1 c.if-bits-eq0.true

pub returns-then-bits-ge-INFINITY : goal.returns-then-bits-ge-INFINITY
returns-then-bits-ge-INFINITY c = is_refused_holds c.args.x c.well_formed.0.1 c.if-bits-eq0.false (omega arith)

pub root_bits-requires : goal.root_bits-requires
root_bits-requires c = (omega (arith, c.if-bits-eq0.false), omega arith)

pub float_from_bits-result : goal.float_from_bits-result
float_from_bits-result c = no_nan_bits c.root_bits.result c.root_bits.ensures.1

pub returns : goal.returns
returns c = is_value c.args.x c.well_formed.0.1 c.root_bits.result c.root_bits.ensures.0
