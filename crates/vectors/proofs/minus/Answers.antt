-- `minus` meets its contract, from that of its call, which writes over zeros.
use Rattle.vectors.specs.Meaning.{zeros, five}
use Rattle.vectors.proofs.minus.Goals as goal

pub returns : goal.returns
unfolding five zeros
returns c = c.take_from.ensures
