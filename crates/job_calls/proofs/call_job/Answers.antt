-- `job_calls::call_job` meets its contract: without a package the call in the plain way is the job's own. Assumes
-- nothing.
use mathlib.Core.Path.{subst}
use Rattle.definitions.specs.Faceting.{Way}
use Rattle.faceting.specs.Ways.{way_plain, plain_fits}
use Rattle.job_calls.specs.Loaded.{CalledIn, called_plainly}
use Rattle.job_calls.proofs.call_job.Goals as goal

pub call_in_way-requires : goal.call_in_way-requires
call_in_way-requires c = (c.requires.0, c.requires.1, plain_fits c.args.fields.n)

pub returns : goal.returns
returns c =
    let a = c.args in
    let call = c.call_in_way in
    called_plainly a.job.now a.fields call.new.rows call.result call.new.ws
    (subst (λ (w : Way).
    CalledIn w a.job.now a.fields call.new.rows call.result call.new.ws) (way_plain a.fields.n) call.ensures)
