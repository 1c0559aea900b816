-- `Wanted::chosen` meets its contract.
use Rattle.std.proofs.Common.{refl}
use Rattle.facet_images.specs.Chosen.{chosen_left}
use Rattle.facet_images.proofs.Wanted.chosen.Goals as goal

pub returns : goal.returns
unfolding chosen_left
returns c = refl
