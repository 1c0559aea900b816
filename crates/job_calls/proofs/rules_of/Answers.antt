-- `job_calls::rules_of` meets its contract: the literal bounds are those of [12.2]. Assumes nothing.
use mathlib.Core.Path.{refl}
use Rattle.definitions.specs.Job.{bounds1}
use Rattle.call_search.specs.PreparedCalls.{call_rules}
use Rattle.job_calls.specs.Loaded.{job_rules}
use Rattle.job_calls.proofs.rules_of.Goals as goal

pub returns : goal.returns
unfolding call_rules job_rules bounds1
returns c = refl
