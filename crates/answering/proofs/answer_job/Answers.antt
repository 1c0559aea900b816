-- `answering::answer_job` meets its contract: the check's refusal, or what is written of the call. Assumes nothing.
use mathlib.Core.Path.{sym, ap, ◌∙◌}
use lib.ListN.{length}
use Rattle.definitions.specs.Outcome.{and_then}
use Rattle.definitions.specs.Job.{buffer_of}
use Rattle.answering.specs.Closed.{written_in, buffer_in}
use Rattle.job_calls.specs.Loaded.{alone_refused}
use Rattle.laws.specs.Clauses.{of_two}
use Rattle.refusals.specs.Refused.{refused_on}
use Rattle.answering.proofs.answer_job.Goals as goal

pub write_job-requires : goal.write_job-requires
write_job-requires c = (c.in_ok-fields.ensures, c.requires)

pub returns-in_err-fields : goal.returns-in_err-fields
unfolding written_in buffer_in and_then buffer_of
returns-in_err-fields c = of_two (λ x0 x1. record { result = x0; buffer = x1 })
    (let room = length c.args.answer.now in
    let o = alone_refused c.args.job.now (length c.args.workspace.now) _ c.in_err-fields.ensures in
    (refused_on _ _ c.from_residual.ensures.1 ∙ sym (ap (written_in room) o), c.requires ∙ sym (ap (buffer_in room) o)))
