-- `register::register_price` meets its contract: the quote's refusal or its total, as the return value, and the
-- buffer that was left with it. Assumes nothing.
use mathlib.Core.Path.{ap, ◌∙◌}
use Prim.Native.Nat.{ℕ}
use lib.IntN.{pos, neg_ℤ}
use native.Mathlib.Omega.{arith}
use borrow.Author.Rules.{rules}
use lib.ListN.{length}
use mir.Facts.{to_z-of_z, to_z_pos}
use mir.Syntax.{w64}
use mir.Val.{SFits}
use Rattle.definitions.specs.Prices.{quote, quote_code, with_room}
use Rattle.quotes.specs.Quoted.{total_fits, enough_room}
use Rattle.laws.specs.Clauses.{of_three}
use Rattle.register.proofs.register_price.Goals as goal

pub returns-in-Err : goal.returns-in-Err
unfolding quote_code
returns-in-Err c = of_three (λ x0 x1 x2. record { code = x0; total = x1; buffer = x2 })
    (let o = quote c.args.job.now (length c.args.workspace.now) c.args.entry c.args.tariff.now in
    let room = length c.args.answer.now in
    let told = c.in-Err.ensures.result in
    let fits : SFits w64 c.refusal.result = search rules in
    let code = to_z-of_z fits
    ∙ (c.refusal.ensures ∙ (ap (λ (n : ℕ). neg_ℤ (pos n)) c.number.ensures ∙ ap quote_code told)) in
    (code, (λ h. code ∙ ap quote_code (enough_room room o h)), c.quote_job.ensures.buffer))

pub overflow_cast-result : goal.overflow_cast-result
overflow_cast-result c =
    let room = length c.args.answer.now in
    let told = c.in-Ok.ensures.result in
    omega (arith, total_fits c.args.job.now (length c.args.workspace.now) c.args.entry c.args.tariff.now room _ told)

pub returns-in-Ok : goal.returns-in-Ok
unfolding quote_code
returns-in-Ok c = of_three (λ x0 x1 x2. record { code = x0; total = x1; buffer = x2 })
    (let o = quote c.args.job.now (length c.args.workspace.now) c.args.entry c.args.tariff.now in
    let room = length c.args.answer.now in
    let told = c.in-Ok.ensures.result in
    let small = total_fits c.args.job.now (length c.args.workspace.now) c.args.entry c.args.tariff.now room _ told in
    let code = to_z_pos w64 {n = _} (omega (arith, small)) ∙ ap quote_code told in
    (code, (λ h. code ∙ ap quote_code (enough_room room o h)), c.quote_job.ensures.buffer))
