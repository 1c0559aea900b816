-- `norm` meets its contract, from those of its two calls.
use mathlib.Core.Path.{refl, ◌∙◌}
use Rattle.definitions.specs.Vectors.{norm}
use Rattle.vectors.proofs.norm.Goals as goal

pub returns : goal.returns
unfolding norm
returns c = c.root_or_nan.ensures ∙ rw c.dot.ensures refl
