-- `job::check_values` meets its contract: the first of five tests that fails decides. Assumes nothing.
use mathlib.Core.Path.{refl, sym, ap, ◌∙◌}
use Rattle.definitions.specs.Job.{between, tolerance_good, value_tests}
use Rattle.laws.specs.Refusals.{goes_on, ends}
use Rattle.load.proofs.Meaning.{loadable}
use Rattle.job.proofs.Laws.{first_row_fits, first_row, all_rows, refused_here, all_passed}
use Rattle.job.proofs.check_values.Goals as goal

pub returns-then-not-floats_good : goal.returns-then-not-floats_good
unfolding value_tests
returns-then-not-floats_good c =
    refused_here (value_tests c.args.job.bytes.now) _ _ _ refl
    ((sym c.floats_good.ensures ∙ c.if-not-floats_good.true))

pub returns-then-not-tolerance_good : goal.returns-then-not-tolerance_good
unfolding value_tests
returns-then-not-tolerance_good c =
    refused_here (value_tests c.args.job.bytes.now) _ _ _
    (goes_on (value_tests c.args.job.bytes.now) _ _ refl ((sym c.floats_good.ensures ∙ c.if-not-floats_good.false)))
    (ap tolerance_good (sym (loadable _ _ c.args.job.exact c.args.job.read).tolerance_is)
    ∙ (sym c.tolerance_good.ensures ∙ c.if-not-tolerance_good.true))

pub returns-then-not-between : goal.returns-then-not-between
unfolding value_tests
returns-then-not-between c =
    refused_here (value_tests c.args.job.bytes.now) _ _ _ (goes_on (value_tests c.args.job.bytes.now) _ _
    (goes_on (value_tests c.args.job.bytes.now) _ _ refl ((sym c.floats_good.ensures ∙ c.if-not-floats_good.false)))
    (ap tolerance_good (sym (loadable _ _ c.args.job.exact c.args.job.read).tolerance_is)
    ∙ (sym c.tolerance_good.ensures ∙ c.if-not-tolerance_good.false)))
    (ap (between 1 2) (sym (loadable _ _ c.args.job.exact c.args.job.read).rule_is)
    ∙ (sym c.between.ensures ∙ c.if-not-between.true))

pub is_identity-requires : goal.is_identity-requires
is_identity-requires c = first_row_fits _ _ (loadable _ _ c.args.job.exact c.args.job.read)

pub returns-then-not-is_identity : goal.returns-then-not-is_identity
unfolding value_tests
returns-then-not-is_identity c =
    refused_here (value_tests c.args.job.bytes.now) _ _ _
    (goes_on (value_tests c.args.job.bytes.now) _ _ (goes_on (value_tests c.args.job.bytes.now) _ _ (goes_on
    (value_tests c.args.job.bytes.now) _ _ refl ((sym c.floats_good.ensures ∙ c.if-not-floats_good.false)))
    (ap tolerance_good (sym (loadable _ _ c.args.job.exact c.args.job.read).tolerance_is)
    ∙ (sym c.tolerance_good.ensures ∙ c.if-not-tolerance_good.false)))
    (ap (between 1 2) (sym (loadable _ _ c.args.job.exact c.args.job.read).rule_is)
    ∙ (sym c.between.ensures ∙ c.if-not-between.false)))
    (first_row c.args.job.bytes.now _ (loadable _ _ c.args.job.exact c.args.job.read)
    ∙ (sym c.is_identity.ensures ∙ c.if-not-is_identity.true))

pub rows_good-requires : goal.rows_good-requires
rows_good-requires c =
    let loaded = (loadable _ _ c.args.job.exact c.args.job.read) in
    (loaded.n_most, loaded.rows_fit_holds)

pub returns-then-not-rows_good : goal.returns-then-not-rows_good
unfolding value_tests
returns-then-not-rows_good c =
    refused_here (value_tests c.args.job.bytes.now) _ _ _ (goes_on (value_tests c.args.job.bytes.now) _ _
    (goes_on (value_tests c.args.job.bytes.now) _ _ (goes_on (value_tests c.args.job.bytes.now) _ _ (goes_on
    (value_tests c.args.job.bytes.now) _ _ refl ((sym c.floats_good.ensures ∙ c.if-not-floats_good.false)))
    (ap tolerance_good (sym (loadable _ _ c.args.job.exact c.args.job.read).tolerance_is)
    ∙ (sym c.tolerance_good.ensures ∙ c.if-not-tolerance_good.false)))
    (ap (between 1 2) (sym (loadable _ _ c.args.job.exact c.args.job.read).rule_is)
    ∙ (sym c.between.ensures ∙ c.if-not-between.false))) (first_row c.args.job.bytes.now _
    (loadable _ _ c.args.job.exact c.args.job.read) ∙ (sym c.is_identity.ensures ∙ c.if-not-is_identity.false)))
    (all_rows c.args.job.bytes.now _ (loadable _ _ c.args.job.exact c.args.job.read)
    ∙ (sym c.rows_good.ensures ∙ c.if-not-rows_good.true))

pub returns : goal.returns
unfolding value_tests
returns c =
    all_passed (value_tests c.args.job.bytes.now) c.args.job.bytes.now (ends (value_tests c.args.job.bytes.now) _
    (goes_on (value_tests c.args.job.bytes.now) _ _ (goes_on (value_tests c.args.job.bytes.now) _ _
    (goes_on (value_tests c.args.job.bytes.now) _ _
    (goes_on (value_tests c.args.job.bytes.now) _ _ refl ((sym c.floats_good.ensures ∙ c.if-not-floats_good.false)))
    (ap tolerance_good (sym (loadable _ _ c.args.job.exact c.args.job.read).tolerance_is)
    ∙ (sym c.tolerance_good.ensures ∙ c.if-not-tolerance_good.false)))
    (ap (between 1 2) (sym (loadable _ _ c.args.job.exact c.args.job.read).rule_is)
    ∙ (sym c.between.ensures ∙ c.if-not-between.false)))
    (first_row c.args.job.bytes.now _ (loadable _ _ c.args.job.exact c.args.job.read)
    ∙ (sym c.is_identity.ensures ∙ c.if-not-is_identity.false)))
    (all_rows c.args.job.bytes.now _ (loadable _ _ c.args.job.exact c.args.job.read)
    ∙ (sym c.rows_good.ensures ∙ c.if-not-rows_good.false))) _ c.args.job.read
