-- `batches::write_record` meets its contract: by what came of the job in the buffer behind the head (Heads has each
-- case). Assumes nothing.
use mathlib.Core.Path.{◌≡◌, refl, ap, ◌∙◌}
use Prim.Native.Nat.{ℕ, ◌≤◌, ◌<◌}
use native.Mathlib.Omega.{arith}
use lib.ListN.{length, replicate}
use Rattle.definitions.specs.Job.{alone}
use Rattle.words.specs.Lent.{lent_tail, back_length}
use Rattle.batches.specs.Heads.{lent_clear, head_clauses, refused_clauses, short_clauses, long_clauses}
use Rattle.batches.specs.Heads.{answered_clauses}
use Rattle.laws.specs.Clauses.{of_two}
use Rattle.laws.specs.Segments.{le_or_lt}
use Rattle.std.proofs.Common.{⊎_elim}
use Rattle.batches.proofs.write_record.Goals as goal

-- ---- no room for a head
pub returns-then-records-lt-HEAD_BYTES : goal.returns-then-records-lt-HEAD_BYTES
returns-then-records-lt-HEAD_BYTES c = of_two (λ x0 x1. record { result = x0; buffer = x1 })
    (head_clauses (length c.args.records.now) (alone c.args.job.now (length c.args.workspace.now))
    (omega arith) _ c.requires)

pub answer_job-requires : goal.answer_job-requires
answer_job-requires c = lent_clear c.args.records.now c.requires 6 (omega arith)

pub returns-in-Ok-None : goal.returns-in-Ok-None
returns-in-Ok-None c = of_two (λ x0 x1. record { result = x0; buffer = x1 })
    (let records = c.args.records.now in
    let inside : 6 ≤ length records = omega arith in
    short_clauses records c.requires inside (alone c.args.job.now (length c.args.workspace.now)) c.answer_job.new.answer
    c.answer_job.auto.answer c.answer_job.ensures.buffer (rw c.in-Ok-None.field-0-is at c.in-Ok-None.ensures.result))

pub returns-in-Err : goal.returns-in-Err
returns-in-Err c = of_two (λ x0 x1. record { result = x0; buffer = x1 })
    (let records = c.args.records.now in
    let inside : 6 ≤ length records = omega arith in
    let k = refused_clauses records c.requires inside
    (alone c.args.job.now (length c.args.workspace.now)) c.answer_job.new.answer
    c.answer_job.auto.answer c.answer_job.ensures.buffer _ c.in-Err.ensures.result in
    (k.0, c.put.ensures ∙ rw (c.from.ensures, c.number.ensures) k.1))

-- too long for a u32
pub returns-in_default : goal.returns-in_default
returns-in_default c = of_two (λ x0 x1. record { result = x0; buffer = x1 })
    (let records = c.args.records.now in
    let inside : 6 ≤ length records = omega arith in
    let no_word : c.in-Ok-Some.many < 4294967296 → ⊥ = c.in_default.ensures in
    let long : 4294967295 < c.in-Ok-Some.many =
    ⊎_elim (λ h. omega (arith, h)) (λ h. absurd (no_word h)) (le_or_lt 4294967296 c.in-Ok-Some.many) in
    let p = c.answer_job.new.answer in
    let same = c.answer_job.auto.answer in
    let whole = back_length 6 records p inside (same ∙ ap length (lent_tail 6 records)) in
    long_clauses records c.requires inside
    (alone c.args.job.now (length c.args.workspace.now)) p same c.answer_job.ensures.buffer
    _ (rw c.in-Ok-Some.field-0-is at c.in-Ok-Some.ensures.result) long _
    (c.fill.ensures.after (λ y e. e) ∙ ap (λ (k : ℕ). replicate k 0) whole))

pub returns-in-Ok : goal.returns-in-Ok
returns-in-Ok c = of_two (λ x0 x1. record { result = x0; buffer = x1 })
    (let records = c.args.records.now in
    let inside : 6 ≤ length records = omega arith in
    let word : (c.in-Ok-Some.many < 4294967296) × (c.in-Ok.length ≡ c.in-Ok-Some.many) = c.in-Ok.ensures in
    let k = answered_clauses records c.requires inside
    (alone c.args.job.now (length c.args.workspace.now)) c.answer_job.new.answer
    c.answer_job.auto.answer c.answer_job.ensures.buffer _ (rw c.in-Ok-Some.field-0-is at c.in-Ok-Some.ensures.result)
    (omega (arith, word.0)) in (k.0, c.put-in-Ok-Some.ensures ∙ rw word.1 k.1))
