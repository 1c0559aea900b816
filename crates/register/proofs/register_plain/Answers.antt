-- `register::register_plain` meets its contract: what came of the job is its return value, whatever the bytes and
-- lengths; what is left out follows from code and buffer. Assumes nothing.
use mathlib.Core.Path.{sym, ap, ◌∙◌}
use Prim.Native.Nat.{ℕ}
use native.Mathlib.Omega.{arith}
use borrow.Author.Rules.{rules}
use lib.ListN.{length, replicate}
use mir.Facts.{to_z-of_z}
use mir.Syntax.{w64}
use mir.Val.{SFits}
use Rattle.definitions.specs.Plain.{plain_alone}
use Rattle.answering.specs.Closed.{written_in, buffer_in}
use Rattle.register.specs.Plain.{plain_code, plain_buffer, meets_plain}
use Rattle.register.proofs.Parts.{in_three}
use Rattle.register.proofs.Sizes.{written_fits}
use Rattle.register.proofs.register_plain.Goals as goal

pub plain_job-requires : goal.plain_job-requires
plain_job-requires c = c.fill.ensures.after (λ y e. e) ∙ ap (λ (k : ℕ). replicate k 0) (sym c.fill.auto.self)

pub code-requires : goal.code-requires
code-requires c = written_fits _ _ _ c.plain_job.ensures.result (omega (arith, c.fill.auto.self))

pub returns : goal.returns
returns c = in_three (λ x0 x1 x2. record { code = x0; buffer = x1; left_out = x2 })
    (let job = c.args.job.now in
    let size = length c.args.workspace.now in
    let room = length c.args.numbers.now in
    let same = c.fill.auto.self in
    let told = c.plain_job.ensures.result ∙ ap (λ (k : ℕ). written_in k (plain_alone job size)) same in
    let fits : SFits w64 c.code.result = search rules in
    meets_plain job size room
    (to_z-of_z fits ∙ (c.code.ensures ∙ plain_code job size room told))
    (c.plain_job.ensures.buffer
    ∙ (ap (λ (k : ℕ). buffer_in k (plain_alone job size)) same ∙ plain_buffer job size room)))
