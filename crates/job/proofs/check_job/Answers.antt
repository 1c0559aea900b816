-- `job::check_job` meets its contract: the header refuses, or leaves it to the values. Assumes nothing.
use mathlib.Core.Path.{◌∙◌}
use Rattle.definitions.specs.Job.{header_tests, value_tests, job_tests}
use Rattle.laws.specs.Refusals.{none_refused}
use Rattle.refusals.specs.Refused.{refused_on}
use Rattle.job.specs.Passed.{checked_passed, header_passed}
use Rattle.job.proofs.Laws.{refused_before, left_to_second}
use Rattle.job.proofs.check_job.Goals as goal

pub invariant_of-check_values : goal.invariant_of-check_values
invariant_of-check_values c =
    let job = c.args.job.now in
    let passes = checked_passed (header_tests job) job _ (c.in_ok-fields.ensures) in
    record { exact = header_passed job (none_refused (header_tests job) passes.0); read = passes.1 }

pub returns-in_err-fields : goal.returns-in_err-fields
unfolding job_tests
returns-in_err-fields c =
    let job = c.args.job.now in
    refused_on _ _ c.from_residual.ensures.1
    ∙ refused_before (header_tests job) (value_tests job) job _ c.in_err-fields.ensures

pub returns : goal.returns
unfolding job_tests
returns c =
    let job = c.args.job.now in
    c.check_values.ensures ∙ left_to_second (header_tests job) (value_tests job) job _ (c.in_ok-fields.ensures)
