-- `RidgeOrbits::new` meets its contract: nothing is marked. Assumes nothing.
use Rattle.numbering.specs.Numbering.{none_match}
use Rattle.numbering.proofs.RidgeOrbits.new.Goals as goal

pub returns : goal.returns
returns c = rw c.new.ensures none_match
