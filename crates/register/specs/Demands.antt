-- The three demands [13.1], [13.2], [13.8] and the promised symmetry [13.12], of the exported function's return code
-- and answer buffer. They follow from its two equations: demands 1 and 2 for every job, demand 3 and the symmetry of
-- the entries read back from the buffer, for every job that is answered at rank 3 or 4. Leans on Reading and on what
-- is proved of the definitions.
use Rattle.std.specs.Prelude.{◌≡◌, ◌++◌, ℕ, ◌-◌, T, ltb, ℤ}
use Rattle.std.proofs.Math.Path.{sym, ap}
use Rattle.std.proofs.Common.{◌∙◌, subst, arith}
use Rattle.std.proofs.Math.ListN.{length, replicate}
use Rattle.definitions.specs.Outcome.{Outcome, answered, and_then}
use Rattle.definitions.specs.Recursion.{Answer}
use Rattle.definitions.specs.Job.{Bytes, read_job, job_tests, workspace_tests, tests, between, bounds1, call_of}
use Rattle.definitions.specs.Job.{answer_bytes, answer_words, fitting, outcome_within, outcome, code_of, buffer_of}
use Rattle.definitions.specs.Demands.{Demand1, Demand2, Demand3, CallComplete}
use Rattle.definitions.specs.Symmetry.{Symmetric}
use Rattle.laws.specs.Outcomes.{answered_before, not_refused_if}
use Rattle.laws.specs.Refusals.{answered_passed, front_passed}
use Rattle.completeness.specs.Jobs.{demand_1, demand_2, demand_3}
use Rattle.completeness.specs.Refusals.{CodeSays, code_says}
use Rattle.shapes.specs.Answered.{answers_equal}
use Rattle.shapes.specs.Jobs.{RowsPassed, rows_passed}
use Rattle.shapes.proofs.Symmetry.{job_symmetric}
use Rattle.shapes.specs.JobWords.{AreBytes, rank_passed, budget_below}
use Rattle.shapes.proofs.JobWords.{job_words}
use Rattle.register.specs.Reading.{words_read, entries_read, answer_back, entries_read_holds}

-- ---- what an answered job says

-- its call's answer, whose bytes these are
pub record Called (bytes : Bytes) (answer : Bytes) : Type 0 where
  pub given : Answer
  pub is_given : call_of bounds1 (read_job bytes) ≡ answered given
  pub bytes_are : answer ≡ answer_bytes (read_job bytes).budget given
  pub passed : RowsPassed (read_job bytes)
  pub ranked : T (between 2 4 (read_job bytes).rank)

pub called : (bytes : Bytes) (workspace room : ℕ) (answer : Bytes) → outcome bytes workspace room ≡ answered answer
    → Called bytes answer
unfolding outcome outcome_within fitting tests
called bytes workspace room answer e =
    let job = read_job bytes in
    let next : Answer → Outcome Bytes = λ x. fitting room (answer_bytes job.budget x) in
    let a = answered_passed (tests bytes workspace) (λ u. and_then (call_of bounds1 job) next) answer e in
    let own = front_passed (job_tests bytes) (workspace_tests bytes workspace) a.0 in
    let b = answered_before (call_of bounds1 job) next answer a.1 in
    let written = answer_bytes job.budget b.0 in
    let c = not_refused_if (ltb room (length written)) 17 (λ u. answered written) answer b.2 in
    record {
      given = b.0;
      is_given = b.1;
      bytes_are = sym (answers_equal written answer c.1);
      passed = rows_passed bytes own;
      ranked = rank_passed bytes own;
    }

-- ---- the answer read back

-- every word of an answered job's bytes is one of its answer
pub answer_decoded : (bytes : Bytes) (workspace room : ℕ) (answer : Bytes) → AreBytes bytes
    → outcome bytes workspace room ≡ answered answer
    → (a : Answer) × (call_of bounds1 (read_job bytes) ≡ answered a)
    × (words_read answer ≡ answer_words (read_job bytes).budget a)
answer_decoded bytes workspace room answer are e =
    let c = called bytes workspace room answer e in
    let budget = (read_job bytes).budget in (
      c.given,
      c.is_given,
      ap words_read c.bytes_are ∙ answer_back budget c.given
          (job_words bytes c.passed c.ranked c.given c.is_given budget (budget_below bytes are)),
    )

-- and its entries are those that its call gives
pub entries_in_holds : (bytes : Bytes) (answer tail : Bytes) (c : Called bytes answer)
    → entries_read (answer ++ tail) ≡ c.given.entries
entries_in_holds bytes answer tail c =
    ap (λ (l : Bytes). entries_read (l ++ tail)) c.bytes_are
    ∙ entries_read_holds (read_job bytes).budget c.given tail
    (job_words bytes c.passed c.ranked c.given c.is_given 0 (omega arith))

-- ---- the three demands, and the symmetry

module _ (bytes : Bytes) (workspace room : ℕ) {code : ℤ} {buffer : Bytes}
    (code_is : code ≡ code_of (outcome bytes workspace room))
    (buffer_is : buffer ≡ buffer_of room (outcome bytes workspace room)) where
  pub meets_1 : Demand1 bytes workspace room code buffer
  meets_1 = rw (code_is, buffer_is) (demand_1 bytes workspace room)

  -- and what the code says: an answer's length, or minus the number of a refusal
  pub meets_code : CodeSays (outcome bytes workspace room) code
  meets_code = rw code_is (code_says bytes workspace room)

  pub meets_2 : Demand2 bytes workspace room code buffer
  meets_2 = rw (code_is, buffer_is) (demand_2 bytes workspace room)

  -- the entries that stand in the buffer after an answer are its call's
  entries_are : (answer : Bytes) (e : outcome bytes workspace room ≡ answered answer)
      → (called bytes workspace room answer e).given.entries ≡ entries_read buffer
  unfolding buffer_of
  entries_are answer e =
      let tail : Bytes = replicate (room - length answer) 0 in
      let whole : buffer ≡ answer ++ tail = buffer_is ∙ ap (buffer_of room) e in
      sym (ap entries_read whole ∙ entries_in_holds bytes answer tail (called bytes workspace room answer e))

  pub meets_3 : (answer : Bytes) → outcome bytes workspace room ≡ answered answer → Demand3 bytes (entries_read buffer)
  meets_3 answer e =
      let c = called bytes workspace room answer e in
      record {
        holds = λ accepted rank. subst (CallComplete (read_job bytes)) (entries_are answer e)
            ((demand_3 bytes c.given c.is_given).holds accepted rank);
      }

  pub meets_symmetry : (answer : Bytes) → outcome bytes workspace room ≡ answered answer
      → Symmetric bytes (entries_read buffer)
  meets_symmetry answer e =
      let c = called bytes workspace room answer e in
      subst (Symmetric bytes) (entries_are answer e) (job_symmetric bounds1 bytes c.passed c.given c.is_given)

  -- all six clauses of the exported function, from its two equations
  pub meets_all : (code ≡ code_of (outcome bytes workspace room))
      × ((buffer ≡ buffer_of room (outcome bytes workspace room))
      × (Demand1 bytes workspace room code buffer
      × (Demand2 bytes workspace room code buffer
      × (((answer : Bytes) → outcome bytes workspace room ≡ answered answer → Demand3 bytes (entries_read buffer))
      × ((answer : Bytes) → outcome bytes workspace room ≡ answered answer → Symmetric bytes (entries_read buffer))))))
  meets_all = (code_is, (buffer_is, (meets_1, (meets_2, (meets_3, meets_symmetry)))))
