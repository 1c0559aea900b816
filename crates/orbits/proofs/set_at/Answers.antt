-- `set_at` meets its contract: what is left of a division by 2 ^ n is below it.
use Rattle.orbits.proofs.Reading.{rest_small}
use Rattle.orbits.proofs.set_at.Goals as goal

pub returns : goal.returns
returns c = rest_small c.get.result _ c.args.n c.requires.1 c.get.ensures
