-- `plain::plain_job` meets its contract: the check's refusal, or what is written of the call. Assumes nothing.
use lib.ListN.{length}
use Rattle.plain.specs.Written.{own_clauses}
use Rattle.laws.specs.Clauses.{of_two}
use Rattle.refusals.specs.Refused.{handed_on}
use Rattle.plain.proofs.plain_job.Goals as goal

pub plain_passed-requires : goal.plain_passed-requires
plain_passed-requires c = (c.in_ok-fields.ensures, c.requires)

pub returns-in_err-fields : goal.returns-in_err-fields
returns-in_err-fields c = of_two (λ x0 x1. record { result = x0; buffer = x1 })
    (rw (handed_on _ _ c.from_residual.ensures.1)
    (own_clauses c.args.job.now (length c.args.workspace.now) c.in_err-fields.ensures _ c.requires))
