-- What is promised of each job of a row and of its record [15.4]: what the first call gives it, and so the demands
-- and the symmetry, of the entries read back from the record's answer. Leans on the demands of the first call.
use Rattle.std.specs.Prelude.{◌≡◌, refl, ℕ, ◌-◌, pos, length, take, replicate}
use Rattle.std.proofs.Common.{sym, ap, ◌∙◌, subst, arith, take_at}
use mathlib.Core.List.{List, ◌++◌, Forall₂, append-nil}
use Rattle.definitions.specs.Outcome.{Outcome, refused, answered}
use Rattle.definitions.specs.Job.{Bytes, outcome, code_of, buffer_of}
use Rattle.definitions.specs.Demands.{Demand2, Demand3}
use Rattle.definitions.specs.Symmetry.{Symmetric}
use Rattle.completeness.specs.Refusals.{answer_is_no_refusal}
use Rattle.shapes.specs.Answered.{answers_equal}
use Rattle.definitions.specs.Batch.{batch, ByItself, Batched}
use Rattle.batches.specs.Batches.{batched}
use Rattle.register.specs.Reading.{entries_read}
use Rattle.register.specs.Demands.{meets_2, meets_3, meets_symmetry}

pub record Promised (workspace : ℕ) (job : Bytes) (result : Outcome Bytes) : Type 0 where
  pub by_itself : ByItself workspace job result
  pub second : (answer : Bytes) → result ≡ answered answer
      → Demand2 job workspace (length answer) (pos (length answer)) answer
  pub third : (answer : Bytes) → result ≡ answered answer → Demand3 job (entries_read answer)
  pub symmetry : (answer : Bytes) → result ≡ answered answer → Symmetric job (entries_read answer)

-- an answer in a buffer of its own length
given : (workspace : ℕ) (job : Bytes) (result : Outcome Bytes) → ByItself workspace job result → (answer : Bytes)
    → result ≡ answered answer → outcome job workspace (length answer) ≡ answered answer
unfolding ByItself
given workspace job (refused number) by answer e = absurd (answer_is_no_refusal answer number (sym e))
given workspace job (answered bytes) by answer e =
    let same = answers_equal bytes answer e in
    subst (λ (l : Bytes). outcome job workspace (length l) ≡ answered l) same (by.1 (length bytes) (omega arith))

full : (answer : Bytes) → answer ≡ buffer_of (length answer) (answered answer)
unfolding buffer_of
full answer =
    let none : length answer - length answer ≡ 0 = omega arith in
    sym (ap (λ (k : ℕ). answer ++ replicate k 0) none ∙ append-nil answer)

promised : (workspace : ℕ) (job : Bytes) (result : Outcome Bytes) → ByItself workspace job result
    → Promised workspace job result
unfolding code_of
promised workspace job result by = record {
  by_itself = by;
  second =
      λ answer e. let o = given workspace job result by answer e in
      meets_2 job workspace (length answer) (code answer o) (buffer answer o);
  third =
      λ answer e. let o = given workspace job result by answer e in
      meets_3 job workspace (length answer) (code answer o) (buffer answer o) answer o;
  symmetry =
      λ answer e. let o = given workspace job result by answer e in
      meets_symmetry job workspace (length answer) (code answer o) (buffer answer o) answer o;
}
  where
    code : (answer : Bytes) → outcome job workspace (length answer) ≡ answered answer
        → pos (length answer) ≡ code_of (outcome job workspace (length answer))
    code answer o = sym (ap code_of o)

    buffer : (answer : Bytes) → outcome job workspace (length answer) ≡ answered answer
        → answer ≡ buffer_of (length answer) (outcome job workspace (length answer))
    buffer answer o = full answer ∙ sym (ap (buffer_of (length answer)) o)

all_promised : (workspace : ℕ) {jobs : List Bytes} {results : List (Outcome Bytes)}
    → Forall₂ (ByItself workspace) jobs results → Forall₂ (Promised workspace) jobs results
all_promised workspace Forall₂.nil = Forall₂.nil
all_promised workspace (Forall₂.cons {a = job} {b = result} by more) =
    Forall₂.cons (promised workspace job result by) (all_promised workspace more)

-- the records in the buffer, from the function's equation
pub row_promised : (row : Bytes) (workspace room : ℕ) {buffer : Bytes}
    → buffer ≡ buffer_of room (batch row workspace room) → (bytes : Bytes) → batch row workspace room ≡ answered bytes
    → Batched (Promised workspace) row (take (length bytes) buffer)
unfolding buffer_of
row_promised row workspace room {buffer} is bytes e =
    let b = batched row workspace room bytes e in
    let front : take (length bytes) buffer ≡ bytes = ap (take (length bytes)) (is ∙ ap (buffer_of room) e)
    ∙ take_at bytes (replicate (room - length bytes) 0) (length bytes) refl in
    record {
      jobs = b.jobs;
      results = b.results;
      cut = b.cut;
      each = all_promised workspace b.each;
      records = front ∙ b.records;
    }
