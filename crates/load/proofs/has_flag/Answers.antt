-- `load::has_flag` meets its contract. Assumes nothing.
use borrow.Author.Tests.{tests}
use Rattle.std.proofs.Common.{rules}
use Rattle.definitions.specs.Job.{flag_set}
use Rattle.load.proofs.has_flag.Goals as goal

pub returns : goal.returns
unfolding flag_set
returns c = search (rules, tests)
