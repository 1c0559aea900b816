-- `splitting::split_list` meets its contract. The loop's invariant: the parts of the first i facets are pushed.
-- Assumes nothing.
use Rattle.splitting.proofs.Lists.{Splits1}
use Rattle.splitting.proofs.split_list.Given as goal

abbrev pub invariant-loop-i : goal.invariant-loop-i
invariant-loop-i l = Splits1 l.layout l.k l.initial.ws l.ws l.i
