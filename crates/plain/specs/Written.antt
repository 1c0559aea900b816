-- What is written of a job that was called, from what its call says: the two clauses of `plain_job`, case by case.
-- Leans on what is called, and on the end of writing.
use Rattle.std.specs.Prelude.{◌≡◌, refl, ℕ, length, replicate, Option, Some}
use Rattle.std.proofs.Math.Path.{sym, ap}
use Rattle.std.proofs.Common.{◌∙◌}
use Rattle.definitions.specs.Outcome.{Outcome, refused, answered, and_then}
use Rattle.definitions.specs.Recursion.{Answer}
use Rattle.definitions.specs.Job.{Bytes, read_job, bounds1, call_of, tests, buffer_of}
use Rattle.definitions.specs.Prices.{answer_of}
use Rattle.definitions.specs.Plain.{plain_bytes, plain_alone}
use Rattle.laws.specs.Refusals.{pass_all_refused, pass_all_passed}
use Rattle.words.specs.Writer.{encoded}
use Rattle.load.specs.declared.Fields.{Fields}
use Rattle.job.specs.Refusal.{checked_of}
use Rattle.job.specs.Passed.{refused_means, passed_means}
use Rattle.words.specs.declared.Writer.{Writer}
use Rattle.words.specs.Wrote.{Writes}
use Rattle.answering.specs.Closed.{begun_wrote, written_in, buffer_in, written_to, buffer_to, written_all, buffer_all}
use Rattle.plain.specs.Numbers.{number_words, plain_words}

-- the bytes of the words
plain_encoded : (a : Answer) → plain_bytes a ≡ encoded (plain_words a)
unfolding plain_bytes encoded plain_words number_words
plain_encoded a = refl

-- ---- the job's own refusals

module _ (job : Bytes) (workspace : ℕ) where
  abbrev next : Answer → Outcome Bytes
  next a = answered (plain_bytes a)

  own_refused : {number : ℕ} → refused number ≡ checked_of job workspace → plain_alone job workspace ≡ refused number
  unfolding plain_alone answer_of and_then
  own_refused {number} e =
      ap (λ (o : Outcome Answer). and_then o next) (pass_all_refused (tests job workspace)
      (λ u. call_of bounds1 (read_job job)) number (refused_means job workspace number e))

  pub own_clauses : {number : ℕ} → refused number ≡ checked_of job workspace → (answer : Bytes)
      → answer ≡ replicate (length answer) 0
      → (refused number ≡ written_in (length answer) (plain_alone job workspace))
      × (answer ≡ buffer_in (length answer) (plain_alone job workspace))
  unfolding written_in buffer_in and_then buffer_of
  own_clauses e answer clear =
      let o = own_refused e in
      (sym (ap (written_in (length answer)) o), clear ∙ sym (ap (buffer_in (length answer)) o))

  -- ---- a job that passes them is called

  module _ (f : Fields) (passed : answered f ≡ checked_of job workspace) where
    called : {call : Outcome Answer} → call_of bounds1 (read_job job) ≡ call
        → plain_alone job workspace ≡ and_then call next
    unfolding plain_alone answer_of
    called e =
        ap (λ (o : Outcome Answer). and_then o next) (pass_all_passed (tests job workspace)
        (λ u. call_of bounds1 (read_job job)) (passed_means job workspace f passed).0 ∙ e)

    pub refused_clauses : {number : ℕ} → call_of bounds1 (read_job job) ≡ refused number → (answer : Bytes)
        → answer ≡ replicate (length answer) 0
        → (refused number ≡ written_in (length answer) (plain_alone job workspace))
        × (answer ≡ buffer_in (length answer) (plain_alone job workspace))
    unfolding written_in buffer_in and_then buffer_of
    refused_clauses e answer clear =
        let o = called e in
        (sym (ap (written_in (length answer)) o), clear ∙ sym (ap (buffer_in (length answer)) o))

    answered_is : {a : Answer} → call_of bounds1 (read_job job) ≡ answered a
        → plain_alone job workspace ≡ answered (encoded (plain_words a))
    unfolding and_then
    answered_is {a} e = called e ∙ ap answered (plain_encoded a)

    pub answered_clauses : {a : Answer} → call_of bounds1 (read_job job) ≡ answered a
        → (from : Bytes) {before after : Writer} {end : Bytes} {r : Outcome (Option ℕ)}
        → from ≡ replicate (length from) 0 → before.buffer.now ≡ from → before.at ≡ Some 0
        → Writes before after (plain_words a) → r ≡ written_to (length after.buffer.now) after.at
        → end ≡ buffer_to after.buffer.now after.at
        → (r ≡ written_in (length from) (plain_alone job workspace))
        × (end ≡ buffer_in (length from) (plain_alone job workspace))
    answered_clauses {a} e from {before} {after} clear opened first writes r-is end_is =
        let o = answered_is e in
        let wrote = begun_wrote opened first writes in (
          r-is ∙ (written_all from after.buffer.now (plain_words a) after.at clear wrote
              ∙ sym (ap (written_in (length from)) o)),
          end_is ∙ (buffer_all from after.buffer.now (plain_words a) after.at clear wrote
              ∙ sym (ap (buffer_in (length from)) o)),
        )
