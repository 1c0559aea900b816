-- `capacities_of` meets its contract: the numbers of rank 3, or of rank 4. Assumes nothing.
use Rattle.std.proofs.Common.{sym, arith}
use Rattle.layout.specs.Capacities.{capacities_three, capacities_four, of_three, of_four}
use Rattle.layout.proofs.capacities_of.Goals as goal

pub returns-then-rank-eq3 : goal.returns-then-rank-eq3
unfolding capacities_three
returns-then-rank-eq3 c = sym (of_three c.args.rank (omega arith))

pub returns : goal.returns
unfolding capacities_four
returns c = sym (of_four c.args.rank (λ e. omega (arith, e)))
