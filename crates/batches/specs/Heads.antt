-- The head of a record in front of what stands behind it, in a buffer that was zero [15.2]: the clauses of
-- `write_record`, case by case. Leans on Records, on what is written of a job, and on the laws of lent parts.
use Rattle.std.specs.Prelude.{◌≡◌, ◌∷◌, ◌++◌, ℕ, ◌+◌, ◌-◌, ◌≤◌, ◌<◌, take, drop, replicate, Some, None}
use Rattle.std.proofs.Math.Path.{refl, sym, ap}
use Rattle.std.proofs.Common.{◌∙◌, take_at}
use native.Mathlib.Omega.{arith}
use Rattle.std.proofs.Math.ListN.{length}
use Rattle.std.proofs.lemmas.List.{length-replicate, replicate-append-replicate}
use Rattle.definitions.specs.Outcome.{Outcome, refused, answered, and_then}
use Rattle.definitions.specs.Job.{Bytes, word_bytes, buffer_of}
use Rattle.laws.specs.Segments.{drop_replicate}
use Rattle.words.specs.Words.{put, bytes_of, word_bytes_is}
use Rattle.words.specs.Lent.{lent_tail, back_whole}
use Rattle.answering.specs.Closed.{written_in, buffer_in}
use Rattle.answering.specs.Codes.{says_refused, says_short, says_wrote, short_buffer, wrote_buffer}
use Rattle.definitions.specs.Batch.{half_bytes}
use Rattle.batches.specs.Records.{record_in, recorded_as, refused_record, answered_record, long_record, no_room}
use Rattle.batches.specs.Records.{no_head}

abbrev zeros : ℕ → Bytes
zeros n = replicate n 0

-- ---- the head's two numbers

put_number : (behind : Bytes) (number : ℕ)
    → put 2 (zeros 6 ++ behind) 4 number ≡ (word_bytes 0 ++ half_bytes number) ++ behind
unfolding put bytes_of word_bytes half_bytes
put_number behind number = refl

put_many : (behind : Bytes) (many : ℕ) → put 4 (zeros 6 ++ behind) 0 many ≡ word_bytes many ++ (half_bytes 0 ++ behind)
unfolding put bytes_of half_bytes
put_many behind many = ap (λ (w : Bytes). w ++ (0 ∷ 0 ∷ behind)) (sym (word_bytes_is many))

-- ---- a buffer of zeros, whose tail is lent

module _ (records : Bytes) (clear : records ≡ zeros (length records)) (to : ℕ) (inside : to ≤ length records) where
  abbrev lent : Bytes
  lent = take (length records - to) (drop to records)

  lent_is : lent ≡ zeros (length records - to)
  lent_is = lent_tail to records ∙ (ap (drop to) clear ∙ drop_replicate to (length records) 0)

  pub lent_length : length lent ≡ length records - to
  lent_length = ap length lent_is ∙ length-replicate (length records - to) 0

  pub lent_clear : lent ≡ zeros (length lent)
  lent_clear = lent_is ∙ ap zeros (sym lent_length)

  front_clear : take to records ≡ zeros to
  front_clear =
      let whole : length records ≡ to + (length records - to) = omega arith in
      ap (take to) (clear ∙ (ap zeros whole ∙ sym (replicate-append-replicate to (length records - to) 0)))
      ∙ take_at (zeros to) (zeros (length records - to)) to (length-replicate to 0)

  -- given back, it stands behind zeros
  pub behind_zeros : (p : Bytes) → length p ≡ length lent
      → take to records ++ (p ++ drop (length records - to) (drop to records)) ≡ zeros to ++ p
  behind_zeros p n =
      back_whole to records p inside (n ∙ ap length (lent_tail to records)) ∙ ap (λ (l : Bytes). l ++ p) front_clear

-- ---- the clauses

abbrev Clauses : ℕ → Outcome Bytes → Outcome ℕ → Bytes → Type 0
Clauses room o r buffer = (r ≡ recorded_as (record_in room o)) × (buffer ≡ buffer_of room (record_in room o))

module _ (room : ℕ) (o : Outcome Bytes) where
  pub too_long_clauses : record_in room o ≡ refused 27 → (buffer : Bytes) → buffer ≡ zeros room
      → Clauses room o (refused 27) buffer
  unfolding recorded_as buffer_of
  too_long_clauses e buffer b = (sym (ap recorded_as e), b ∙ sym (ap (buffer_of room) e))

  wrote_clauses : (bytes : Bytes) → record_in room o ≡ answered bytes → (many : ℕ) → many ≡ length bytes
      → (buffer : Bytes) → buffer ≡ bytes ++ zeros (room - length bytes) → Clauses room o (answered many) buffer
  unfolding recorded_as buffer_of
  wrote_clauses bytes e many n buffer b = (ap answered n ∙ sym (ap recorded_as e), b ∙ sym (ap (buffer_of room) e))

  -- no room for the head
  pub head_clauses : room < 6 → (buffer : Bytes) → buffer ≡ zeros room → Clauses room o (refused 27) buffer
  head_clauses h = too_long_clauses (no_head room o h)

-- the job was answered in what is behind the head, which is given back as `p`
module _ (records : Bytes) (clear : records ≡ zeros (length records)) (h : 6 ≤ length records) (o : Outcome Bytes)
    (p : Bytes) (n : length p ≡ length (lent records clear 6 h))
    (p-is : p ≡ buffer_in (length (lent records clear 6 h)) o) where
  abbrev room : ℕ
  room = length records

  abbrev back : Bytes
  back = take 6 records ++ (p ++ drop (length records - 6) (drop 6 records))

  back_is : back ≡ zeros 6 ++ p
  back_is = behind_zeros records clear 6 h p n

  behind_length_holds : length (lent records clear 6 h) ≡ room - 6
  behind_length_holds = lent_length records clear 6 h

  p_in : p ≡ buffer_in (room - 6) o
  p_in = p-is ∙ ap (λ (k : ℕ). buffer_in k o) behind_length_holds

  -- a refusal
  pub refused_clauses : (number : ℕ) → refused number ≡ written_in (length (lent records clear 6 h)) o
      → Clauses room o (answered 6) (put 2 back 4 number)
  unfolding buffer_in and_then buffer_of word_bytes half_bytes
  refused_clauses number told =
      let is = says_refused (length (lent records clear 6 h)) o number told in
      let zero-behind : p ≡ zeros (room - 6) = p_in ∙ ap (buffer_in (room - 6)) is in
      wrote_clauses room o (word_bytes 0 ++ half_bytes number)
      (ap (record_in room) is ∙ refused_record room number h) 6 refl (put 2 back 4 number)
      (ap (λ (l : Bytes). put 2 l 4 number) (back_is ∙ ap (λ (l : Bytes). zeros 6 ++ l) zero-behind)
      ∙ put_number (zeros (room - 6)) number)

  -- an answer without room
  pub short_clauses : answered None ≡ written_in (length (lent records clear 6 h)) o → Clauses room o (refused 27) back
  short_clauses told =
      let s = says_short (length (lent records clear 6 h)) o told in
      let whole : 6 + (room - 6) ≡ room = omega arith in
      let zero-behind : p ≡ zeros (room - 6) = p_in
      ∙ (ap (buffer_in (room - 6)) s.1 ∙ short_buffer (room - 6) s.0 (omega (arith, s.2, behind_length_holds))) in
      too_long_clauses room o (ap (record_in room) s.1
      ∙ no_room room s.0 (omega (arith, s.2, behind_length_holds))) back
      (back_is ∙ (ap (λ (l : Bytes). zeros 6 ++ l) zero-behind
      ∙ (replicate-append-replicate 6 (room - 6) 0 ∙ ap zeros whole)))

  module _ (many : ℕ) (told : answered (Some many) ≡ written_in (length (lent records clear 6 h)) o) where
    -- an answer whose length is no u32: everything is cleared
    pub long_clauses : 4294967295 < many → (buffer : Bytes) → buffer ≡ zeros room → Clauses room o (refused 27) buffer
    long_clauses k =
        let s = says_wrote (length (lent records clear 6 h)) o many told in
        too_long_clauses room o (ap (record_in room) s.1 ∙ long_record room s.0 (omega (arith, s.2)))

    pub wrote_inside : 6 + many ≤ room
    wrote_inside = let s =
        says_wrote (length (lent records clear 6 h)) o many told in omega (arith, s.3, behind_length_holds)

    -- an answer
    pub answered_clauses : many ≤ 4294967295 → Clauses room o (answered (6 + many)) (put 4 back 0 many)
    unfolding word_bytes half_bytes
    answered_clauses k =
        let s = says_wrote (length (lent records clear 6 h)) o many told in
        let bytes = s.0 in
        let fits : 6 + length bytes ≤ room = omega (arith, s.2, s.3, behind_length_holds) in
        let less : room - 6 - length bytes ≡ room - (6 + length bytes) = omega arith in
        let long : 6 + length bytes ≡ length (word_bytes (length bytes) ++ (half_bytes 0 ++ bytes)) = omega arith in
        let behind : p ≡ bytes ++ zeros (room - (6 + length bytes)) =
        p_in ∙ (ap (buffer_in (room - 6)) s.1
        ∙ (wrote_buffer (room - 6) bytes (omega arith) ∙ ap (λ (j : ℕ). bytes ++ zeros j) less)) in
        wrote_clauses room o (word_bytes (length bytes) ++ (half_bytes 0 ++ bytes)) (ap (record_in room) s.1
        ∙ answered_record room bytes (omega (arith, s.2)) fits) (6 + many) (omega (arith, s.2))
        (put 4 back 0 many)
        (ap (λ (l : Bytes). put 4 l 0 many) (back_is ∙ ap (λ (l : Bytes). zeros 6 ++ l) behind)
        ∙ (put_many (bytes ++ zeros (room - (6 + length bytes))) many
        ∙ ap (λ (j : ℕ). word_bytes j ++ (half_bytes 0 ++ (bytes ++ zeros (room - (6 + length bytes))))) s.2
        ∙ ap (λ (j : ℕ). (word_bytes (length bytes) ++ (half_bytes 0 ++ bytes)) ++ zeros (room - j)) long))
