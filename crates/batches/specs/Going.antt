-- The loop over a row's jobs: what holds before each of them, and what follows from the record of one. Leans on
-- Cutting and Records.
use Rattle.std.specs.Prelude.{◌≡◌, ℕ, ◌+◌, ◌-◌, ◌≤◌, ◌<◌}
use Rattle.std.proofs.Math.Path.{refl, sym, ap}
use Rattle.std.proofs.Common.{◌∙◌, length-drop, drop_at, drop-drop}
use Rattle.std.proofs.Math.Bool.{true}
use mathlib.Core.List.{List, [], ◌∷◌, ◌++◌, append_assoc, append-nil}
use native.Mathlib.Omega.{arith}
use Rattle.std.proofs.Math.ListN.{length, take, drop, replicate, length-append}
use Rattle.std.proofs.lemmas.List.{length-replicate}
use Rattle.std.proofs.Math.Seq.{take_at}
use Rattle.definitions.specs.Outcome.{Outcome, refused, answered, and_then}
use Rattle.definitions.specs.Job.{Bytes, number_at, buffer_of, alone}
use Rattle.words.specs.Lent.{lent_tail, back_whole, back_length}
use Rattle.definitions.specs.Batch.{jobs_in, records_of, fitting_all, batch}
use Rattle.batches.specs.Cutting.{first_length, behind_first, cut_empty, cut_first, is_cut, first_passes, begins}
use Rattle.batches.specs.Cutting.{cut_refused}
use Rattle.batches.specs.Records.{record_in, recorded_as, fits_all, record_of_holds, behind_these, at_first, one_more}
use Rattle.batches.specs.Records.{none_more}

-- Before the job at `at`: what is behind it is jobs, and the records so far stand in the front of the buffer, zeros
-- behind them.
pub record Going (row : Bytes) (workspace room at end : ℕ) (records : Bytes) : Type 0 where
  pub inside : at ≤ length row
  pub cut : is_cut (jobs_in (drop at row)) ≡ true
  pub done : Bytes
  pub done_long : length done ≡ end
  pub end_inside : end ≤ room
  pub records_are : records ≡ done ++ replicate (room - end) 0
  pub is : batch row workspace room ≡ behind_these workspace room done (jobs_in (drop at row))

pub begun : (row : Bytes) (workspace : ℕ) (records : Bytes) → is_cut (jobs_in row) ≡ true
    → records ≡ replicate (length records) 0 → Going row workspace (length records) 0 0 records
begun row workspace records cut clear =
    let whole : length records ≡ length records - 0 = omega arith in
    record {
      inside = omega arith;
      cut = cut;
      done = [];
      done_long = refl;
      end_inside = omega arith;
      records_are = clear ∙ ap (λ (k : ℕ). replicate k 0) whole;
      is = at_first row workspace (length records);
    }

-- the buffer has kept its length
pub long : {row : Bytes} {workspace room at end : ℕ} {records : Bytes} → Going row workspace room at end records
    → length records ≡ room
long {row} {workspace} {room} {at} {end} {records} g =
    let zeros : length (replicate {A = ℕ} (room - end) 0) ≡ room - end = length-replicate (room - end) 0 in
    ap length g.records_are
    ∙ (length-append g.done (replicate (room - end) 0) ∙ omega (arith, zeros, g.done_long, g.end_inside))

-- the rest of it, as it is lent
module _ {row : Bytes} {workspace room at end : ℕ} {records : Bytes} (g : Going row workspace room at end records) where
  lent_is : take (length records - end) (drop end records) ≡ replicate (room - end) 0
  lent_is =
      lent_tail end records
      ∙ (ap (drop end) g.records_are ∙ drop_at g.done (replicate (room - end) 0) end g.done_long)

  lent_length : length (take (length records - end) (drop end records)) ≡ room - end
  lent_length = ap length lent_is ∙ length-replicate (room - end) 0

  pub lent_clear : take (length records - end) (drop end records)
      ≡ replicate (length (take (length records - end) (drop end records))) 0
  lent_clear = lent_is ∙ ap (λ (k : ℕ). replicate k 0) (sym lent_length)

  -- given back, the whole has its length
  pub back_long : (p : Bytes) → length p ≡ length (take (length records - end) (drop end records))
      → length (take end records ++ (p ++ drop (length records - end) (drop end records))) ≡ room
  back_long p n =
      back_length end records p (omega (arith, long g, g.end_inside)) (n ∙ ap length (lent_tail end records)) ∙ long g

  -- a job's length stands there
  pub length_inside : at < length row → at + 4 ≤ length row
  length_inside h = let n = length-drop at row in let b = begins (drop at row) g.cut (omega arith) in omega (arith, b.0)

-- the job at `at`, of so many bytes
module _ {row : Bytes} {workspace room at end : ℕ} {records : Bytes} (g : Going row workspace room at end records)
    (many : ℕ) (read : many ≡ number_at row at 4) where
  abbrev left : Bytes
  left = drop at row

  left_length : length left ≡ length row - at
  left_length = length-drop at row

  -- the length is read where it stands
  many_is : first_length left ≡ many
  unfolding number_at
  many_is = sym read

  pub job_inside : at < length row → (at + 4 ≤ length row) × (at + 4 + many ≤ length row)
  job_inside h =
      let b = begins left g.cut (omega (arith, left_length)) in
      (omega (arith, b.0, left_length), omega (arith, b.0, b.1, left_length, many_is))

  -- the job that is lent
  abbrev pub job : Bytes
  job = take (at + 4 + many - (at + 4)) (drop (at + 4) row)

  job_is : job ≡ take (first_length left) (drop 4 left)
  job_is = (λ i. take (many_too i) (behind i))
    where
      many_too : at + 4 + many - (at + 4) ≡ first_length left
      many_too = omega (arith, many_is)

      behind : drop (at + 4) row ≡ drop 4 left
      behind = sym (drop-drop 4 at row)

  next_is : behind_first left ≡ drop (at + 4 + many) row
  next_is =
      let behind : at + (4 + first_length left) ≡ at + 4 + many = omega (arith, many_is) in
      drop-drop (4 + first_length left) at row ∙ ap (λ (k : ℕ). drop k row) behind

  cut_so : at < length row → jobs_in left
      ≡ and_then (jobs_in (drop (at + 4 + many) row)) (λ (others : List Bytes). answered (job ∷ others))
  cut_so h =
      let b = begins left g.cut (omega (arith, left_length)) in
      cut_first left b.0 b.1
      ∙ (λ i. and_then (jobs_in (next_is i)) (λ (others : List Bytes). answered (sym job_is i ∷ others)))

  next_cut : at < length row → is_cut (jobs_in (drop (at + 4 + many) row)) ≡ true
  next_cut h =
      let b = begins left g.cut (omega (arith, left_length)) in
      ap (λ (l : Bytes). is_cut (jobs_in l)) (sym next_is) ∙ (sym (first_passes left b.0 b.1) ∙ g.cut)

  abbrev lent : Bytes
  lent = take (length records - end) (drop end records)

  -- the record of the job, in what was lent
  module _ (h : at < length row) {r : Outcome ℕ} {p : Bytes} (n : length p ≡ length lent)
      (r-is : r ≡ recorded_as (record_in (length lent) (alone job workspace))) (p-is : p
      ≡ buffer_of (length lent) (record_in (length lent) (alone job workspace))) where
    abbrev here : Outcome Bytes
    here = record_in (room - end) (alone job workspace)

    r_here : r ≡ recorded_as here
    r_here = r-is ∙ ap (λ (k : ℕ). recorded_as (record_in k (alone job workspace))) (lent_length g)

    p_here : p ≡ buffer_of (room - end) here
    p_here = p-is ∙ (λ i. buffer_of (lent_length g i) (record_in (lent_length g i) (alone job workspace)))

    -- there is none: the row's refusal is 27
    pub stops : (number : ℕ) → r ≡ refused number → batch row workspace room ≡ refused 27
    unfolding recorded_as
    stops failed e = g.is ∙ (ap (behind_these workspace room g.done) (cut_so h) ∙ by_record here refl (sym r_here ∙ e))
      where
        by_rest : (o : Outcome (List Bytes)) → is_cut o ≡ true → (number : ℕ)
            → record_in (room - length g.done) (alone job workspace) ≡ refused number
            → behind_these workspace room g.done (and_then o (λ (others : List Bytes). answered (job ∷ others)))
            ≡ refused 27
        by_rest (refused k) c number q = absurd (cut_refused k c)
        by_rest (answered others) c number q =
            none_more workspace room g.done job (omega (arith, g.done_long, g.end_inside)) number q others

        by_record : (o : Outcome Bytes) → here ≡ o → recorded_as o ≡ refused failed
            → behind_these workspace room g.done
            (and_then (jobs_in (drop (at + 4 + many) row)) (λ (others : List Bytes). answered (job ∷ others)))
            ≡ refused 27
        by_record (refused number) q t =
            by_rest (jobs_in (drop (at + 4 + many) row)) (next_cut h) number
            (ap (λ (k : ℕ). record_in (room - k) (alone job workspace)) g.done_long ∙ q)
        by_record (answered bytes) q t = let no : ⊥ = cc in absurd no

    -- there is one: one record more is done
    pub goes_on : (count : ℕ) → r ≡ answered count → (end + count ≤ room) × Going row workspace room (at + 4 + many)
        (end + count) (take end records ++ (p ++ drop (length records - end) (drop end records)))
    unfolding recorded_as buffer_of
    goes_on count e = by_record here refl (sym r_here ∙ e) p_here
      where
        by_record : (o : Outcome Bytes) → here ≡ o → recorded_as o ≡ answered count → p ≡ buffer_of (room - end) o
            → (end + count ≤ room) × Going row workspace room (at + 4 + many) (end + count)
            (take end records ++ (p ++ drop (length records - end) (drop end records)))
        by_record (refused number) q t b = let no : ⊥ = cc in absurd no
        by_record (answered first) q t b =
            let same : length first ≡ count = cc in
            let recorded = record_of_holds (room - end) (alone job workspace) first q in
            let behind : room - end - length first ≡ room - (end + count) = omega arith in (
              omega (arith, recorded.1, g.end_inside),
              record {
                inside = (job_inside h).1;
                cut = next_cut h;
                done = g.done ++ first;
                done_long = length-append g.done first ∙ omega (arith, g.done_long);
                end_inside = omega (arith, recorded.1, g.end_inside);
                records_are =
                    back_whole end records p (omega (arith, long g, g.end_inside))
                    (n ∙ ap length (lent_tail end records))
                    ∙ ((λ i. front i ++ b i)
                    ∙ (sym (append_assoc g.done first (replicate (room - end - length first) 0))
                    ∙ ap (λ (k : ℕ). (g.done ++ first) ++ replicate k 0) behind));
                is =
                    g.is ∙ (ap (behind_these workspace room g.done) (cut_so h)
                    ∙ one_more workspace room g.done job first recorded.0 (jobs_in (drop (at + 4 + many) row)));
              },
            )
          where
            front : take end records ≡ g.done
            front = ap (take end) g.records_are ∙ take_at g.done (replicate (room - end) 0) end g.done_long

-- no job is left: the records are all of them
pub ended : {row : Bytes} {workspace room end : ℕ} {at : ℕ} {records : Bytes}
    → Going row workspace room at end records → length row ≤ at
    → (answered end ≡ recorded_as (batch row workspace room)) × (records ≡ buffer_of room (batch row workspace room))
unfolding behind_these and_then records_of recorded_as buffer_of
ended {row} {workspace} {room} {end} {at} {records} g h =
    let none : jobs_in (drop at row) ≡ answered [] = cut_empty (drop at row) (omega (arith, length-drop at row)) in
    let all : batch row workspace room ≡ answered g.done =
    g.is ∙ (ap (behind_these workspace room g.done) none ∙ (ap (fitting_all room) (append-nil g.done)
    ∙ fits_all room g.done (omega (arith, g.done_long, g.end_inside)))) in (
      ap answered (sym g.done_long) ∙ sym (ap recorded_as all),
      g.records_are
          ∙ (ap (λ (k : ℕ). g.done ++ replicate (room - k) 0) (sym g.done_long) ∙ sym (ap (buffer_of room) all)),
    )
