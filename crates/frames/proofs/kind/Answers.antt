-- `frames::kind` meets its contract. One is taken from the number in the bytes, where it is not 0. Assumes nothing.
use mathlib.Core.Path.{◌∙◌}
use Rattle.facets.specs.Layout.{ridge_below}
use Rattle.frames.specs.Paths.{kind_at}
use Rattle.frames.proofs.kind.Goals as goal

pub returns : goal.returns
unfolding kind_at
returns c = ridge_below c.checked_sub.result _ (rw (c.from.ensures ∙ c.get.ensures) at c.checked_sub.ensures)
