-- `nobles::check_noble` meets its contract: the job's own tests refuse, or 18 does, or it is left to the workspace.
-- Assumes nothing.
use mathlib.Core.Path.{sym, ◌∙◌}
use borrow.Author.Tests.{le-leb, lt-leb}
use Rattle.nobles.specs.Passed.{refused_own, refused_eighteen, refused_twelve, all_pass, few_points}
use Rattle.refusals.specs.Refused.{refused_on}
use Rattle.nobles.proofs.check_noble.Goals as goal

pub package_good-requires : goal.package_good-requires
package_good-requires c =
    let a = c.args in
    few_points a.job.now _ (c.in_ok-fields.ensures)

pub returns-then-not-package_good : goal.returns-then-not-package_good
returns-then-not-package_good c =
    let a = c.args in
    let own = c.in_ok-fields.ensures in
    refused_eighteen a.job.now a.pack.now a.workspace _ own (sym c.package_good.ensures ∙ c.if-not-package_good.true)

pub returns-then-workspace-workspace_for : goal.returns-then-workspace-workspace_for
returns-then-workspace-workspace_for c =
    let a = c.args in
    let own = c.in_ok-fields.ensures in
    refused_twelve a.job.now a.pack.now a.workspace _ own (sym c.package_good.ensures ∙ c.if-not-package_good.false)
    (lt-leb _ _ (rw c.workspace_for.ensures at c.if-workspace-workspace_for.true))

pub returns-in_err-fields : goal.returns-in_err-fields
returns-in_err-fields c =
    let a = c.args in
    refused_on _ _ c.from_residual.ensures.1 ∙ refused_own a.job.now a.pack.now a.workspace _ c.in_err-fields.ensures

pub returns : goal.returns
returns c =
    let a = c.args in
    let own = c.in_ok-fields.ensures in
    all_pass a.job.now a.pack.now a.workspace _ own (sym c.package_good.ensures ∙ c.if-not-package_good.false)
    (le-leb _ _ (rw c.workspace_for.ensures at c.if-workspace-workspace_for.false))
