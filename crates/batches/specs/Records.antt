-- A record in the front of a buffer that is zero throughout, and what is left to write behind the records written so
-- far. Leans on the definitions of records and on what is written of one job.
use Rattle.std.specs.Prelude.{◌≡◌, false, List, [], ◌∷◌, ◌++◌, ℕ, ◌+◌, ◌-◌, ◌≤◌, ◌<◌, leb, ltb, length}
use Rattle.std.proofs.Math.Path.{refl, ap}
use Rattle.std.proofs.Common.{sym, ◌∙◌, subst, append_assoc, arith, lt-ltb, le-ltb, le-leb, ltb-false, length-append}
use Rattle.std.proofs.Math.Logic.{⊎_elim}
use Rattle.std.proofs.lemmas.Bool.{lt-leb}
use Rattle.definitions.specs.Outcome.{Outcome, refused, answered, and_then, refuse_if}
use Rattle.definitions.specs.Job.{Bytes, word_bytes, alone}
use Rattle.completeness.specs.Refusals.{RefusedWithin, by_answer, by_test, by_then}
use Rattle.laws.specs.Segments.{le_or_lt}
use Rattle.laws.specs.Outcomes.{answered_before, not_refused_if}
use Rattle.shapes.specs.Answered.{answers_equal}
use Rattle.definitions.specs.Batch.{jobs_in, half_bytes, record_bytes, record_of, records_of, fitting_all, batch}
use Rattle.batches.specs.Cutting.{is_cut, not_cut}

-- ---- one record

-- the record of what a job gets by itself, where there is room for it, or 27
unfoldable pub record_in : ℕ → Outcome Bytes → Outcome Bytes
record_in room o = and_then (record_of o) (fitting_all room)

-- as the code gives it back
unfoldable pub recorded_as : Outcome Bytes → Outcome ℕ
recorded_as (refused number) = refused number
recorded_as (answered bytes) = answered (length bytes)

-- every record has its head of six bytes
pub record_length : (o : Outcome Bytes) → 6 ≤ length (record_bytes o)
unfolding record_bytes word_bytes half_bytes
record_length (refused number) = omega arith
record_length (answered bytes) = omega arith

fits_not : (room : ℕ) (bytes : Bytes) → room < length bytes → fitting_all room bytes ≡ refused 27
unfolding fitting_all refuse_if
fits_not room bytes h = rw (lt-ltb room (length bytes) h) refl

pub fits_all : (room : ℕ) (bytes : Bytes) → length bytes ≤ room → fitting_all room bytes ≡ answered bytes
unfolding fitting_all refuse_if
fits_all room bytes h = rw (le-ltb room (length bytes) h) refl

module _ (room : ℕ) where
  -- of a refused job
  pub refused_record : (number : ℕ) → 6 ≤ room
      → record_in room (refused number) ≡ answered (word_bytes 0 ++ half_bytes number)
  unfolding record_in record_of and_then record_bytes word_bytes half_bytes
  refused_record number h = fits_all room (word_bytes 0 ++ half_bytes number) h

  -- of an answer whose length is a u32
  module _ (bytes : Bytes) where
    answered_is : length bytes < 4294967296
        → record_in room (answered bytes) ≡ fitting_all room (record_bytes (answered bytes))
    unfolding record_in record_of and_then refuse_if
    answered_is h = rw (lt-leb 4294967296 (length bytes) h) refl

    pub answered_record : length bytes < 4294967296 → 6 + length bytes ≤ room
        → record_in room (answered bytes) ≡ answered (word_bytes (length bytes) ++ (half_bytes 0 ++ bytes))
    unfolding record_bytes word_bytes half_bytes
    answered_record h k = answered_is h ∙ fits_all room (record_bytes (answered bytes)) (omega arith)

    -- of one that is too long for it
    pub long_record : 4294967296 ≤ length bytes → record_in room (answered bytes) ≡ refused 27
    unfolding record_in record_of and_then refuse_if
    long_record h = rw (le-leb 4294967296 (length bytes) h) refl

    -- or for the buffer
    pub no_room : room < 6 + length bytes → record_in room (answered bytes) ≡ refused 27
    unfolding record_bytes word_bytes half_bytes
    no_room h =
        ⊎_elim (λ k. long_record k) (λ k. answered_is k
        ∙ fits_not room (record_bytes (answered bytes)) (omega arith)) (le_or_lt 4294967296 (length bytes))

  -- no record has room in less than its head
  pub no_head : (o : Outcome Bytes) → room < 6 → record_in room o ≡ refused 27
  unfolding record_in record_of and_then record_bytes word_bytes half_bytes
  no_head (refused number) h = fits_not room (word_bytes 0 ++ half_bytes number) h
  no_head (answered bytes) h = no_room bytes (omega arith)

-- a record that has room is the job's, and has room
pub record_of_holds : (room : ℕ) (o : Outcome Bytes) (bytes : Bytes) → record_in room o ≡ answered bytes
    → (record_of o ≡ answered bytes) × (length bytes ≤ room)
unfolding record_in fitting_all
record_of_holds room o bytes e =
    let a = answered_before (record_of o) (fitting_all room) bytes e in
    let b = not_refused_if (ltb room (length a.0)) 27 (λ u. answered a.0) bytes a.2 in
    let same = answers_equal a.0 bytes b.1 in
    (a.1 ∙ ap answered same, subst (λ (l : Bytes). length l ≤ room) same (ltb-false room (length a.0) b.0))

-- ---- the records behind those written so far

-- what becomes of a row: its first records stand there, and these are the jobs behind them
unfoldable pub behind_these : ℕ → ℕ → Bytes → Outcome (List Bytes) → Outcome Bytes
behind_these workspace room done jobs =
    and_then jobs (λ (rest : List Bytes).
    and_then (records_of workspace rest) (λ (bytes : Bytes). fitting_all room (done ++ bytes)))

pub at_first : (row : Bytes) (workspace room : ℕ)
    → batch row workspace room ≡ behind_these workspace room [] (jobs_in row)
unfolding batch behind_these
at_first row workspace room = refl

record_refusals : (o : Outcome Bytes) → RefusedWithin 27 27 (record_of o)
unfolding record_of
record_refusals (refused number) = by_answer
record_refusals (answered bytes) = by_test (leb 4294967296 (length bytes)) 27 _ (omega arith, omega arith) by_answer

records_refusals : (workspace : ℕ) (jobs : List Bytes) → RefusedWithin 27 27 (records_of workspace jobs)
unfolding records_of
records_refusals workspace [] = by_answer
records_refusals workspace (job ∷ jobs) =
    by_then (record_of (alone job workspace)) _ (record_refusals (alone job workspace)) (λ first.
    by_then (records_of workspace jobs) _ (records_refusals workspace jobs) (λ others. by_answer))

only_27 : {o : Outcome Bytes} {number : ℕ} → RefusedWithin 27 27 o → o ≡ refused number → o ≡ refused 27
only_27 {o} {number} h e = let k = h.number_is number e in e ∙ ap refused (omega arith)

module _ (workspace room : ℕ) (done : Bytes) (job : Bytes) where
  -- the job in front of the others
  abbrev in_front : List Bytes → Outcome (List Bytes)
  in_front others = answered (job ∷ others)

  abbrev lastly : Bytes → Outcome Bytes
  lastly bytes = fitting_all room (done ++ bytes)

  -- a record that has room: one more is done
  pub one_more : (first : Bytes) → record_of (alone job workspace) ≡ answered first → (jobs : Outcome (List Bytes))
      → behind_these workspace room done (and_then jobs in_front) ≡ behind_these workspace room (done ++ first) jobs
  unfolding behind_these and_then records_of
  one_more first e (refused number) = refl
  one_more first e (answered others) =
      ap (λ (o : Outcome Bytes). and_then (and_then o (λ (x : Bytes).
      and_then (records_of workspace others) (λ (ys : Bytes). answered (x ++ ys)))) lastly) e
      ∙ go (records_of workspace others)
    where
      go : (o : Outcome Bytes) → and_then (and_then o (λ (ys : Bytes). answered (first ++ ys))) lastly
          ≡ and_then o (λ (ys : Bytes). fitting_all room ((done ++ first) ++ ys))
      go (refused number) = refl
      go (answered ys) = ap (fitting_all room) (sym (append_assoc done first ys))

  -- one that is none, or has none: 27, whatever is behind it
  pub none_more : length done ≤ room → (number : ℕ)
      → record_in (room - length done) (alone job workspace) ≡ refused number → (others : List Bytes)
      → behind_these workspace room done (and_then (answered others) in_front) ≡ refused 27
  unfolding behind_these and_then records_of record_in
  none_more h number e others = go (record_of (alone job workspace)) refl e
    where
      next : Bytes → Outcome Bytes
      next x = and_then (records_of workspace others) (λ (ys : Bytes). answered (x ++ ys))

      too_long_holds : (first : Bytes) → room - length done < length first → (o : Outcome Bytes)
          → RefusedWithin 27 27 o → and_then (and_then o (λ (ys : Bytes). answered (first ++ ys))) lastly ≡ refused 27
      too_long_holds first k (refused n) w = only_27 w refl
      too_long_holds first k (answered ys) w =
          fits_not room (done ++ (first ++ ys)) (let a = length-append done (first ++ ys) in
          let b = length-append first ys in omega arith)

      go : (o : Outcome Bytes) → record_of (alone job workspace) ≡ o → and_then o (fitting_all (room - length done))
          ≡ refused number → and_then (and_then o next) lastly ≡ refused 27
      go (refused n) q k = only_27 (subst (RefusedWithin 27 27) q (record_refusals (alone job workspace))) refl
      go (answered first) q k =
          too_long_holds first (not_fitting first k) (records_of workspace others) (records_refusals workspace others)
        where
          not_fitting : (bytes : Bytes) → fitting_all (room - length done) bytes ≡ refused number
              → room - length done < length bytes
          not_fitting bytes w =
              ⊎_elim (λ a. absurd (no_answer bytes (sym (fits_all (room - length done) bytes a) ∙ w))) (λ a. a)
              (le_or_lt (length bytes) (room - length done))
            where
              no_answer : (b : Bytes) → answered b ≡ refused number → ⊥
              no_answer b x = subst is_answered x tt
                where
                  is_answered : Outcome Bytes → Type 0
                  is_answered (refused n) = ⊥
                  is_answered (answered y) = Unit {0}

-- ---- a row that cannot be cut

pub not_cut_batch : (row : Bytes) (workspace room : ℕ) → is_cut (jobs_in row) ≡ false
    → batch row workspace room ≡ refused 26
unfolding batch and_then
not_cut_batch row workspace room e =
    ap (λ (o : Outcome (List Bytes)).
    and_then o (λ (jobs : List Bytes). and_then (records_of workspace jobs) (fitting_all room))) (not_cut row e)
