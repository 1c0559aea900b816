-- `pool::clear` meets its contract. Assumes nothing.
use Rattle.pool.specs.Pool.{emptied}
use Rattle.pool.proofs.clear.Goals as goal

pub returns : goal.returns
unfolding emptied
returns c = cc
