-- `pool::lists` meets its contract. Assumes nothing.
use borrow.Author.Rules.{rules}
use Rattle.pool.specs.Pool.{count}
use Rattle.pool.proofs.lists.Goals as goal

pub returns : goal.returns
unfolding count
returns c = search rules
