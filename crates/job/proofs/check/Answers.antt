-- `job::check` meets its contract: the job's own tests refuse, or leave it to the workspace's. Assumes nothing.
use mathlib.Core.Path.{refl, sym, ap, ◌∙◌}
use mathlib.Core.List.{[]}
use Prim.Native.Nat.{ℕ}
use borrow.Author.Tests.{le-leb, lt-leb}
use lib.Dec.{leb}
use Rattle.definitions.specs.Job.{workspace_for, job_tests, workspace_tests, tests}
use Rattle.laws.specs.Refusals.{ends}
use Rattle.job.specs.Refusal.{checked_of}
use Rattle.refusals.specs.Refused.{refused_on}
use Rattle.job.specs.Passed.{checked_passed, rank_loaded}
use Rattle.job.proofs.Laws.{refused_here, all_passed, refused_before, left_to_second}
use Rattle.job.proofs.check.Goals as goal

pub returns-then-workspace-workspace_for : goal.returns-then-workspace-workspace_for
unfolding checked_of tests workspace_tests
returns-then-workspace-workspace_for c =
    let job = c.args.job.now in
    let workspace = c.args.workspace in
    let own = c.in_ok-fields.ensures in
    let needed = ap workspace_for (rank_loaded job _ (checked_passed (job_tests job) job _ own).1) in
    refused_here (workspace_tests job workspace) job _ [] refl (ap (λ (k : ℕ). leb k workspace) (sym needed)
    ∙ lt-leb _ _ (rw c.workspace_for.ensures at c.if-workspace-workspace_for.true))
    ∙ left_to_second (job_tests job) (workspace_tests job workspace) job _ own

pub returns-in_err-fields : goal.returns-in_err-fields
unfolding checked_of tests
returns-in_err-fields c =
    let job = c.args.job.now in
    refused_on _ _ c.from_residual.ensures.1
    ∙ refused_before (job_tests job) (workspace_tests job _) job _ c.in_err-fields.ensures

pub returns : goal.returns
unfolding checked_of tests workspace_tests
returns c =
    let job = c.args.job.now in
    let workspace = c.args.workspace in
    let own = c.in_ok-fields.ensures in
    let loaded = (checked_passed (job_tests job) job _ own).1 in
    let enough = ap (λ (k : ℕ). leb k workspace) (sym (ap workspace_for (rank_loaded job _ loaded)))
    ∙ le-leb _ _ (rw c.workspace_for.ensures at c.if-workspace-workspace_for.false) in
    all_passed (workspace_tests job workspace) job (ends (workspace_tests job workspace) _ refl enough) _ loaded
    ∙ left_to_second (job_tests job) (workspace_tests job workspace) job _ own
