-- `kept_polygons::raise` meets its contract. Assumes nothing.
use mathlib.Core.Path.{refl}
use native.Mathlib.Omega.{arith}
use Rattle.kept_polygons.specs.Labels.{raised_none, raised_some}
use Rattle.kept_polygons.proofs.raise.Goals as goal

pub returns-then-label-lt-HIGH : goal.returns-then-label-lt-HIGH
returns-then-label-lt-HIGH c = raised_none c.args.first c.args.label 0 (omega arith) refl

pub returns : goal.returns
returns c =
    let r = c.requires.1 (omega arith) in
    raised_some c.args.first c.args.label _ (omega arith) (omega (arith, r.0, c.requires.0))
    (omega (arith, r.1, c.requires.0)) refl
