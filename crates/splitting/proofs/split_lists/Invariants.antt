-- `splitting::split_lists` meets its contract. The loop's invariant: the first k lists are split. Assumes nothing.
use mathlib.Core.Path.{◌≡◌}
use Rattle.pool.specs.Pool.{count}
use Rattle.splitting.specs.Splitting.{pool_of}
use Rattle.splitting.proofs.Lists.{SplitsAll}
use Rattle.splitting.proofs.split_lists.Given as goal

abbrev pub invariant-loop-k : goal.invariant-loop-k
invariant-loop-k l = (l.lists ≡ count (pool_of l.layout l.initial.ws)) × SplitsAll l.layout l.initial.ws l.ws l.k
