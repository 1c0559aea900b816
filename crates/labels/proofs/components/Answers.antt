-- `labels::components` meets its contract.
use Rattle.labels.specs.Labels.{label_none, label_some}
use mathlib.Core.Path.{sym}
use Rattle.labels.proofs.components.Goals as goal

pub returns-then-label-lt-HIGH : goal.returns-then-label-lt-HIGH
returns-then-label-lt-HIGH c = sym (label_none _ c.if-label-lt-HIGH.true)

pub returns : goal.returns
returns c = sym (label_some _ c.if-label-lt-HIGH.false)
