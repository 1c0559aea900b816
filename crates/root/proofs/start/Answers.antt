-- `root::start` meets its contract: the rule is one test, which the checker computes over all arguments with the
-- program's own coefficients. Assumes nothing.
use Rattle.definitions.specs.Lists.{all_of, count_from}
use Rattle.root.specs.Start.{cubic, is_start, gives_starts, start_rule, product_le, product_lt, sum_lt}
use Rattle.root.proofs.start.Goals as goal

pub overflow_mul-result : goal.overflow_mul-result
overflow_mul-result c = record { fits = product_lt c.args.i _ _ _ c.requires.1 tt }

pub overflow_sub-result-2 : goal.overflow_sub-result-2
overflow_sub-result-2 c = product_le c.args.i _ _ _ c.requires.1 tt

pub overflow_mul-result-2 : goal.overflow_mul-result-2
overflow_mul-result-2 c = record { fits = product_lt c.args.i _ _ _ c.requires.1 tt }

pub overflow_add-result : goal.overflow_add-result
overflow_add-result c = record { fits = sum_lt c.args.i _ _ _ c.requires.1 _ tt }

pub returns : goal.returns
unfolding all_of count_from is_start gives_starts
returns c = start_rule (cubic _ _ _ _) c.args.i c.requires.0 c.requires.1 tt
