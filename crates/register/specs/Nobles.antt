-- The clauses of the exported call with a package [17.11], from its two equations: demands 1 and 2 of its code and
-- buffer, and of the entries read back from the buffer after an answer that they are those of the closed choices with
-- none inside, and the promised symmetry. Leans on Reading and on what is proved of the definitions.
use Rattle.std.specs.Prelude.{◌≡◌, refl, ◌++◌, ℕ, ◌-◌, T, ltb, ℤ}
use Rattle.std.proofs.Math.Path.{sym, ap}
use Rattle.std.proofs.Common.{◌∙◌, subst, arith}
use Rattle.std.specs.Prelude.{Option, Some, None}
use Rattle.std.proofs.Math.ListN.{length, replicate}
use Rattle.definitions.specs.Outcome.{Outcome, refused, answered, and_then}
use Rattle.definitions.specs.Recursion.{Answer}
use Rattle.definitions.specs.Job.{Bytes, read_job, job_tests, workspace_tests, between, bounds1, answer_bytes, fitting}
use Rattle.definitions.specs.Job.{code_of, buffer_of}
use Rattle.definitions.specs.Symmetry.{Symmetric}
use Rattle.definitions.specs.Noble.{Package, read_package}
use Rattle.definitions.specs.NobleCalls.{noble_call_of, package_tests, noble_tests, noble_alone, noble_outcome}
use Rattle.definitions.specs.NobleCalls.{FirstDemand, SecondDemand, NobleComplete}
use Rattle.laws.specs.Outcomes.{answered_before, not_refused_if}
use Rattle.laws.specs.Refusals.{answered_passed, front_passed, first_refused, refused_or, pass_all_holds}
use Rattle.completeness.specs.Jobs.{noble_first, noble_second, noble_third}
use Rattle.shapes.specs.Answered.{answers_equal}
use Rattle.shapes.specs.Jobs.{RowsPassed, rows_passed}
use Rattle.shapes.proofs.Symmetry.{noble_symmetric}
use Rattle.shapes.specs.JobWords.{rank_passed}
use Rattle.shapes.proofs.JobWords.{noble_words}
use Rattle.answering.specs.Closed.{written_in, buffer_in}
use Rattle.answering.specs.Codes.{code_written, written_code}
use Rattle.register.specs.Reading.{entries_read, entries_read_holds}

-- ---- room last

room_last : (o : Option ℕ) (budget room : ℕ) (call : Outcome Answer)
    → refused_or o (λ u. and_then call (λ (a : Answer). fitting room (answer_bytes budget a)))
    ≡ and_then (refused_or o (λ u. and_then call (λ (a : Answer). answered (answer_bytes budget a)))) (fitting room)
unfolding refused_or and_then
room_last None budget room (refused number) = refl
room_last None budget room (answered a) = refl
room_last (Some number) budget room call = refl

module _ (job pack : Bytes) (workspace room : ℕ) where
  abbrev outcome : Outcome Bytes
  outcome = noble_outcome job pack workspace room

  abbrev alone : Outcome Bytes
  alone = noble_alone job pack workspace

  abbrev full : Package
  full = read_package (read_job job).n pack

  -- the outcome is what the job gets by itself, where there is room for it
  outcome_alone : outcome ≡ and_then alone (fitting room)
  unfolding noble_outcome noble_alone
  outcome_alone =
      let ts = noble_tests job pack workspace in
      pass_all_holds ts _
      ∙ (room_last (first_refused ts) (read_job job).budget room (noble_call_of bounds1 (read_job job) full)
      ∙ ap (λ (o : Outcome Bytes). and_then o (fitting room)) (sym (pass_all_holds ts _)))

  pub code_is : {w : Outcome (Option ℕ)} → w ≡ written_in room alone → code_written w ≡ code_of outcome
  code_is e = written_code room alone e ∙ sym (ap code_of outcome_alone)

  pub buffer_is : buffer_in room alone ≡ buffer_of room outcome
  unfolding buffer_in
  buffer_is = sym (ap (buffer_of room) outcome_alone)

  -- ---- what an answered job says

  pub record Called (answer : Bytes) : Type 0 where
    pub given : Answer
    pub is_given : noble_call_of bounds1 (read_job job) full ≡ answered given
    pub bytes_are : answer ≡ answer_bytes (read_job job).budget given
    pub passed : RowsPassed (read_job job)
    pub ranked : T (between 2 4 (read_job job).rank)

  pub called : (answer : Bytes) → outcome ≡ answered answer → Called answer
  unfolding noble_outcome fitting noble_tests
  called answer e =
      let own-job = read_job job in
      let next : Answer → Outcome Bytes = λ x. fitting room (answer_bytes own-job.budget x) in
      let a = answered_passed (noble_tests job pack workspace)
      (λ u. and_then (noble_call_of bounds1 own-job full) next) answer e in
      let own = front_passed (job_tests job) (package_tests job pack ++ workspace_tests job workspace) a.0 in
      let b = answered_before (noble_call_of bounds1 own-job full) next answer a.1 in
      let written = answer_bytes own-job.budget b.0 in
      let c = not_refused_if (ltb room (length written)) 17 (λ u. answered written) answer b.2 in
      record {
        given = b.0;
        is_given = b.1;
        bytes_are = sym (answers_equal written answer c.1);
        passed = rows_passed job own;
        ranked = rank_passed job own;
      }

  module _ {code : ℤ} {buffer : Bytes} (code-so : code ≡ code_of outcome)
      (buffer-so : buffer ≡ buffer_of room outcome) where
    -- the entries that stand in the buffer after an answer are its call's
    entries_are : (answer : Bytes) (e : outcome ≡ answered answer)
        → (called answer e).given.entries ≡ entries_read buffer
    unfolding buffer_of
    entries_are answer e =
        let tail : Bytes = replicate (room - length answer) 0 in
        let c = called answer e in
        let whole : buffer ≡ answer ++ tail = buffer-so ∙ ap (buffer_of room) e in
        sym (ap entries_read whole
        ∙ (ap (λ (l : Bytes). entries_read (l ++ tail)) c.bytes_are
        ∙ entries_read_holds (read_job job).budget c.given tail
        (noble_words job full c.passed c.ranked c.given c.is_given 0 (omega arith))))

    pub meets_all : (code ≡ code_of outcome)
        × ((buffer ≡ buffer_of room outcome)
        × (FirstDemand outcome room code buffer
        × (SecondDemand outcome code buffer
        × (((answer : Bytes) → outcome ≡ answered answer → NobleComplete job pack (entries_read buffer))
        × ((answer : Bytes) → outcome ≡ answered answer → Symmetric job (entries_read buffer))))))
    meets_all = (
      code-so,
      (
        buffer-so,
        (
          rw (code-so, buffer-so) (noble_first job pack workspace room),
          (
            rw (code-so, buffer-so) (noble_second job pack workspace room),
            (
              (λ answer e. let c = called answer e in
                  subst (NobleComplete job pack) (entries_are answer e) (noble_third job pack c.given c.is_given)),
              (λ answer e. let c = called answer e in subst (Symmetric job) (entries_are answer e)
                  (noble_symmetric bounds1 job full c.passed c.given c.is_given)),
            ),
          ),
        ),
      ),
    )
