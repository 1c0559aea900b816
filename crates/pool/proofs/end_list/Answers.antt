-- `pool::end_list` meets its contract. Assumes nothing.
use borrow.Author.Rules.{rules}
use Rattle.pool.specs.Pool.{count, used, ended}
use Rattle.pool.proofs.end_list.Goals as goal

pub put-requires : goal.put-requires
unfolding count
put-requires c = search rules

pub overflow_add-n-2 : goal.overflow_add-n-2
unfolding count
overflow_add-n-2 c = search rules

pub returns : goal.returns
unfolding ended count used
returns c = cc
