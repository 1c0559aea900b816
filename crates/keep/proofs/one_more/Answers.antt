-- `keep::one_more` meets its contract. Assumes nothing.
use mathlib.Core.Path.{refl}
use Rattle.keep.specs.Adding.{with_facets}
use Rattle.keep.proofs.one_more.Goals as goal

pub returns : goal.returns
unfolding with_facets
returns c = refl
