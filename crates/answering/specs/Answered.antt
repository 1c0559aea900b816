-- What is written of a job that was called, from what its call says: the two clauses of `answer_job`, case by case.
-- Leans on CallMatches, Closed and Loaded.
use Rattle.std.specs.Prelude.{◌≡◌, Bool, List, ℕ, ◌-◌, ◌≤◌, length, replicate}
use Rattle.std.proofs.Math.Path.{sym, ap}
use Rattle.std.proofs.Common.{◌∙◌, subst}
use Rattle.definitions.specs.Outcome.{Outcome, refused, answered, and_then}
use Rattle.definitions.specs.Recursion.{Answer}
use Rattle.definitions.specs.Job.{Bytes, read_job, bounds1, call_of, answer_words, answer_bytes, buffer_of, alone}
use Rattle.words.specs.Writer.{encoded}
use Rattle.rows.specs.Rows.{rows_in}
use Rattle.shapes.specs.Kept.{Kept}
use Rattle.layout.specs.declared.Level.{Level}
use Rattle.layout.specs.Leaves.{answer_left}
use Rattle.kept_edges.specs.Edges.{edge_answer}
use Rattle.load.specs.declared.Fields.{Fields}
use Rattle.job.specs.Refusal.{checked_of}
use Rattle.calls.specs.declared.Called.{Called}
use Rattle.calls.specs.declared.Called.TheVariants.{Ends, Left}
use Rattle.refusals.specs.declared.Refusal.{Refusal}
use Rattle.refusals.specs.Refused.{number_of}
use Rattle.std.specs.Prelude.{Option, Some, Result, Ok, Err}
use Rattle.words.specs.declared.Writer.{Writer}
use Rattle.words.specs.Wrote.{Writes}
use Rattle.job_calls.specs.Writable.{Writable}
use Rattle.answering.specs.Closed.{begun_wrote, written_in, buffer_in, written_to, buffer_to, written_all, buffer_all}
use Rattle.job_calls.specs.CallMatches.{outcome_said, CanWrite, CallMatches}
use Rattle.job_calls.specs.Loaded.{JobCalled, alone_passed}

-- ---- what the call says, once it is known which of the three it is

module _ {rank n m : ℕ} {rows : List ℕ} {budget : ℕ} {call : Outcome Answer} {s : List ℕ} where
  pub said_as : {called other : Result Called Refusal} → CallMatches rank n m rows budget call called s
      → called ≡ other → CallMatches rank n m rows budget call other s
  said_as d e = subst (λ (x : Result Called Refusal). CallMatches rank n m rows budget call x s) e d

  pub said_refuses : {e : Refusal} → CallMatches rank n m rows budget call (Err e) s → call ≡ refused (number_of e)
  unfolding outcome_said
  said_refuses d = d.is

  pub said_ends : {swapped : Bool} {rest : ℕ} → CallMatches rank n m rows budget call (Ok (Ends swapped rest)) s
      → (call ≡ answered (edge_answer swapped rest)) × (rest ≤ budget) × (rank ≤ 2)
  unfolding outcome_said CanWrite
  said_ends d = let w = d.can_write in (d.is, w.0, w.1)

  -- and what a call of rank 3 or more leaves is its answer
  pub said_leaves : {level : Level} {rest : ℕ} → CallMatches rank n m rows budget call (Ok (Left level rest)) s
      → (kept : List Kept)
      × (call ≡ answered (answer_left (rank - 3) n (rows_in n m rows) kept level s rest))
      × (3 ≤ rank) × (rank ≤ 4) × Writable (rank - 3) n m rows kept level budget rest s
  unfolding outcome_said CanWrite
  said_leaves d = let w = d.can_write in (d.kept, d.is, w.0, w.1, w.2)

-- of a job's own call
pub called_as : {bytes : Bytes} {f : Fields} {rows s : List ℕ} {called other : Result Called Refusal}
    → JobCalled bytes f rows called s → called ≡ other → JobCalled bytes f rows other s
called_as {bytes} {f} {rows} {s} d e = subst (λ (x : Result Called Refusal). JobCalled bytes f rows x s) e d

module _ {bytes : Bytes} {f : Fields} {rows s : List ℕ} where
  pub call_refuses : {e : Refusal} → JobCalled bytes f rows (Err e) s
      → call_of bounds1 (read_job bytes) ≡ refused (number_of e)
  call_refuses d = said_refuses d.said

  pub call_ends : {swapped : Bool} {rest : ℕ} → JobCalled bytes f rows (Ok (Ends swapped rest)) s
      → (call_of bounds1 (read_job bytes) ≡ answered (edge_answer swapped rest)) × (rest ≤ f.budget) × (f.rank ≤ 2)
  call_ends d = said_ends d.said

  pub call_leaves : {level : Level} {rest : ℕ} → JobCalled bytes f rows (Ok (Left level rest)) s
      → (kept : List Kept)
      × (call_of bounds1 (read_job bytes)
      ≡ answered (answer_left (f.rank - 3) f.n (rows_in f.n f.count rows) kept level s rest))
      × (3 ≤ f.rank) × (f.rank ≤ 4) × Writable (f.rank - 3) f.n f.count rows kept level f.budget rest s
  call_leaves d = said_leaves d.said

-- ---- the two clauses

-- what is written of a call's outcome
unfoldable pub bytes_of : ℕ → Outcome Answer → Outcome Bytes
bytes_of budget call = and_then call (λ (a : Answer). answered (answer_bytes budget a))

module _ (budget : ℕ) (call : Outcome Answer) where
  called_answered : {a : Answer} → call ≡ answered a → bytes_of budget call ≡ answered (encoded (answer_words budget a))
  unfolding bytes_of and_then answer_bytes encoded
  called_answered e = ap (bytes_of budget) e

  pub refused_clauses : {number : ℕ} → call ≡ refused number → (answer : Bytes) → answer ≡ replicate (length answer) 0
      → (refused number ≡ written_in (length answer) (bytes_of budget call))
      × (answer ≡ buffer_in (length answer) (bytes_of budget call))
  unfolding written_in buffer_in bytes_of and_then buffer_of
  refused_clauses e answer clear =
      let o = ap (bytes_of budget) e in
      (sym (ap (written_in (length answer)) o), clear ∙ sym (ap (buffer_in (length answer)) o))

  pub answered_clauses : {a : Answer} → call ≡ answered a
      → (from : Bytes) {before after : Writer} {end : Bytes} {r : Outcome (Option ℕ)}
      → from ≡ replicate (length from) 0 → before.buffer.now ≡ from → before.at ≡ Some 0
      → Writes before after (answer_words budget a) → r ≡ written_to (length after.buffer.now) after.at
      → end ≡ buffer_to after.buffer.now after.at
      → (r ≡ written_in (length from) (bytes_of budget call)) × (end ≡ buffer_in (length from) (bytes_of budget call))
  answered_clauses {a} e from {before} {after} clear opened first writes r-is end_is =
      let o = called_answered e in
      let words = answer_words budget a in
      let wrote = begun_wrote opened first writes in (
        r-is ∙ (written_all from after.buffer.now words after.at clear wrote ∙ sym (ap (written_in (length from)) o)),
        end_is ∙ (buffer_all from after.buffer.now words after.at clear wrote ∙ sym (ap (buffer_in (length from)) o)),
      )

-- what the job gets by itself is what is written of its call
pub alone_written : (bytes : Bytes) (workspace : ℕ) (f : Fields) → answered f ≡ checked_of bytes workspace
    → alone bytes workspace ≡ bytes_of f.budget (call_of bounds1 (read_job bytes))
unfolding bytes_of
alone_written bytes workspace f passed = alone_passed bytes workspace f passed
