-- `job::floats_good` meets its contract: the first of four tests that fails decides. Assumes nothing.
use mathlib.Core.Path.{sym, ◌∙◌}
use Prim.Native.Nat.{◌-◌}
use native.Mathlib.Omega.{arith}
use Rattle.laws.specs.Tests.{product_at_most}
use Rattle.load.proofs.Meaning.{loadable}
use Rattle.job.proofs.Laws.{limits_fail, offset_fails, basis_fails, points_decide}
use Rattle.job.proofs.floats_good.Goals as goal

pub overflow_sub-in_basis : goal.overflow_sub-in_basis
overflow_sub-in_basis c =
    let a = c.args in
    let k = loadable _ _ c.args.job.exact c.args.job.read in
    omega arith

pub overflow_mul-in_basis : goal.overflow_mul-in_basis
overflow_mul-in_basis c =
    let a = c.args in
    let k = loadable _ _ c.args.job.exact c.args.job.read in
    let m = product_at_most a.job.fields.d (a.job.fields.rank - 1) 4 3 (omega arith) (omega arith) in
    omega arith

pub overflow_mul-in_points : goal.overflow_mul-in_points
overflow_mul-in_points c =
    let a = c.args in
    let k = loadable _ _ c.args.job.exact c.args.job.read in
    let m = product_at_most a.job.fields.d a.job.fields.n 4 20 (omega arith) (omega arith) in
    omega arith

pub returns-then-not-limits_good : goal.returns-then-not-limits_good
returns-then-not-limits_good c =
    limits_fail _ _ (loadable _ _ c.args.job.exact c.args.job.read)
    (sym c.limits_good.ensures ∙ c.if-not-limits_good.true)

pub all_within-requires : goal.all_within-requires
all_within-requires c = (loadable _ _ c.args.job.exact c.args.job.read).offset_fits

pub returns-then-not-all_within : goal.returns-then-not-all_within
returns-then-not-all_within c =
    let limits = sym c.limits_good.ensures ∙ c.if-not-limits_good.false in
    offset_fails _ _ (loadable _ _ c.args.job.exact c.args.job.read) limits
    (sym c.all_within.ensures ∙ c.if-not-all_within.true)

pub all_within-requires-2 : goal.all_within-requires-2
all_within-requires-2 c =
    let h = (loadable _ _ c.args.job.exact c.args.job.read).basis_fits in
    omega arith

pub returns-then-not-all_within-2 : goal.returns-then-not-all_within-2
returns-then-not-all_within-2 c =
    let limits = sym c.limits_good.ensures ∙ c.if-not-limits_good.false in
    let offset = sym c.all_within.ensures ∙ c.if-not-all_within.false in
    basis_fails _ _ (loadable _ _ c.args.job.exact c.args.job.read) limits offset
    (sym c.all_within-2.ensures ∙ c.if-not-all_within-2.true)

pub all_within-requires-3 : goal.all_within-requires-3
all_within-requires-3 c =
    let h = (loadable _ _ c.args.job.exact c.args.job.read).points_fit in
    omega arith

pub returns : goal.returns
returns c =
    let limits = sym c.limits_good.ensures ∙ c.if-not-limits_good.false in
    let offset = sym c.all_within.ensures ∙ c.if-not-all_within.false in
    let basis = sym c.all_within-2.ensures ∙ c.if-not-all_within-2.false in
    c.all_within-3.ensures ∙ points_decide _ _ (loadable _ _ c.args.job.exact c.args.job.read) limits offset basis
