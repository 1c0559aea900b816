-- `register::register_answer` meets its contract: what came of the job is its return value, whatever the bytes and
-- lengths; the demands follow from code and buffer. Assumes nothing.
use mathlib.Core.Path.{sym, ap, ◌∙◌}
use Prim.Native.Nat.{ℕ}
use native.Mathlib.Omega.{arith}
use borrow.Author.Rules.{rules}
use lib.ListN.{length, replicate}
use mir.Facts.{to_z-of_z}
use mir.Syntax.{w64}
use mir.Val.{SFits}
use Rattle.definitions.specs.Job.{alone}
use Rattle.answering.specs.Closed.{written_in, buffer_in}
use Rattle.answering.specs.Codes.{code_is, buffer_is}
use Rattle.register.specs.Demands.{meets_all}
use Rattle.register.proofs.Parts.{in_six}
use Rattle.register.proofs.Sizes.{written_fits}
use Rattle.register.proofs.register_answer.Goals as goal

pub answer_job-requires : goal.answer_job-requires
answer_job-requires c = c.fill.ensures.after (λ y e. e) ∙ ap (λ (k : ℕ). replicate k 0) (sym c.fill.auto.self)

pub code-requires : goal.code-requires
code-requires c = written_fits _ _ _ c.answer_job.ensures.result (omega (arith, c.fill.auto.self))

pub returns : goal.returns
returns c =
    in_six (λ x0 x1 x2 x3 x4 x5. record {
      code = x0;
      buffer = x1;
      first = x2;
      second = x3;
      third = x4;
      symmetry = x5;
    })
    (let job = c.args.job.now in
    let size = length c.args.workspace.now in
    let room = length c.args.answer.now in
    let same = c.fill.auto.self in
    let told = c.answer_job.ensures.result ∙ ap (λ (k : ℕ). written_in k (alone job size)) same in
    let fits : SFits w64 c.code.result = search rules in
    meets_all job size room
    (to_z-of_z fits ∙ (c.code.ensures ∙ code_is job size room told))
    (c.answer_job.ensures.buffer ∙ (ap (λ (k : ℕ). buffer_in k (alone job size)) same ∙ buffer_is job size room)))
