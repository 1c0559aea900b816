-- `answering::write_job` meets its contract: what is written of the job's call is what the job gets by itself.
-- Assumes nothing.
use mathlib.Core.Path.{sym, ap, ◌∙◌}
use lib.ListN.{length}
use Rattle.answering.specs.Closed.{written_in, buffer_in}
use Rattle.answering.specs.Answered.{alone_written}
use Rattle.laws.specs.Clauses.{of_two}
use Rattle.answering.proofs.write_job.Goals as goal

pub write_called-requires : goal.write_called-requires
write_called-requires c = (c.requires.1, (_, c.call_job-called.ensures.said))

pub returns : goal.returns
returns c = of_two (λ x0 x1. record { result = x0; buffer = x1 })
    (let a = c.args in
    let room = length a.answer.now in
    let said = c.call_job-called.ensures.said in
    let alone_is = alone_written a.job.now (length a.ws.now) a.fields c.requires.0 in (
      c.write_called.ensures.result _ said ∙ sym (ap (written_in room) alone_is),
      c.write_called.ensures.buffer _ said ∙ sym (ap (buffer_in room) alone_is),
    ))
