-- `root::root_below` meets its contract: by what the square alone tells, and else by the root itself. Assumes nothing.
use mathlib.Core.Path.{ap}
use lib.Ieee.{Float, lt}
use Rattle.root.specs.Below.{exceeds_tolerance, far_below_tolerance}
use Rattle.root.proofs.root_below.Goals as goal

pub returns-then-tolerance-x : goal.returns-then-tolerance-x
returns-then-tolerance-x c =
    exceeds_tolerance c.args.x c.args.tolerance c.well_formed.0.1 c.well_formed.1.0.1 c.if-tolerance.true
    c.if-tolerance-x.true

pub returns-then-x-2 : goal.returns-then-x-2
returns-then-x-2 c =
    far_below_tolerance c.args.x c.args.tolerance c.well_formed.0.1 c.well_formed.1.0.1 c.if-tolerance-2.true
    c.if-x.true c.if-x-2.true

pub returns : goal.returns
returns c = ap (λ (y : Float). lt y c.args.tolerance) c.root_or_nan.ensures
