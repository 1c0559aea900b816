-- The end of writing. Every word has room and the cursor is the answer's length, or some word has none and there is
-- no cursor: by that the function tells whether an answer was written. Leans on the writer's buffer and cursor.
use Rattle.std.specs.Prelude.{◌≡◌, refl, cond, List, [], ℕ, ◌*◌, ◌≤◌, ◌<◌, ltb, replicate, Option, Some, None}
use Rattle.std.proofs.Common.{sym, ap, ◌∙◌, subst, arith}
use Rattle.std.proofs.Math.Logic.{⊎_elim}
use borrow.Author.Tests.{lt-ltb, le-ltb}
use Rattle.std.proofs.Math.ListN.{length}
use Rattle.definitions.specs.Outcome.{Outcome, refused, answered, and_then, refuse_if}
use Rattle.definitions.specs.Job.{Bytes, fitting, buffer_of}
use Rattle.laws.specs.Segments.{le_or_lt}
use Rattle.words.specs.Writer.{encoded, written, cursor_of, encoded_length, written_none, cursor_none, written_fits}
use Rattle.words.specs.Writer.{padded_answer, cursor_fits, cursor_full}
use Rattle.words.specs.declared.Writer.{Writer}
use Rattle.words.specs.Wrote as writing

-- ---- what is written of a job's outcome by itself

-- so many bytes, or none where there is no room for them
unfoldable pub written_in : ℕ → Outcome Bytes → Outcome (Option ℕ)
written_in room (refused number) = refused number
written_in room (answered bytes) = answered (cond (ltb room (length bytes)) None (Some (length bytes)))

-- the buffer behind it: that of the call whose refusal 17 is `None`
unfoldable pub buffer_in : ℕ → Outcome Bytes → Bytes
buffer_in room o = buffer_of room (and_then o (fitting room))

-- ---- the same by the cursor

unfoldable pub written_to : ℕ → Option ℕ → Outcome (Option ℕ)
written_to room None = answered None
written_to room (Some at) = answered (cond (ltb room at) None (Some at))

-- what has no room is cleared again
unfoldable pub buffer_to : Bytes → Option ℕ → Bytes
buffer_to buffer None = replicate (length buffer) 0
buffer_to buffer (Some at) = cond (ltb (length buffer) at) (replicate (length buffer) 0) buffer

-- these words stand in the buffer, as many as there is room for, and the cursor is behind them
record WroteAll (words : List ℕ) (buffer : List ℕ) (at : Option ℕ) : Type 0 where
  buffer_is : buffer ≡ written (length buffer) words
  cursor_is : at ≡ cursor_of (length buffer) words

module _ (words buffer : List ℕ) (at : Option ℕ) (w : WroteAll words buffer at) where
  abbrev room : ℕ
  room = length buffer

  both : (written_to room at ≡ written_in room (answered (encoded words)))
      × (buffer_to buffer at ≡ buffer_in room (answered (encoded words)))
  unfolding written_to written_in buffer_to buffer_in buffer_of fitting refuse_if and_then
  both = ⊎_elim whole too_long_holds (le_or_lt (4 * length words) room)
    where
      whole : 4 * length words ≤ room → (written_to room at ≡ written_in room (answered (encoded words)))
          × (buffer_to buffer at ≡ buffer_in room (answered (encoded words)))
      whole h =
          let e = encoded_length words in
          let long : at ≡ Some (length (encoded words)) = w.cursor_is ∙ cursor_fits room words h in (
            rw (long, le-ltb room (length (encoded words)) (omega arith)) refl,
            rw (long, le-ltb room (length (encoded words)) (omega arith)) (w.buffer_is
                ∙ (written_fits room words h ∙ padded_answer room (encoded words))),
          )

      too_long_holds : room < 4 * length words → (written_to room at ≡ written_in room (answered (encoded words)))
          × (buffer_to buffer at ≡ buffer_in room (answered (encoded words)))
      too_long_holds h =
          let e = encoded_length words in
          let none : at ≡ None = w.cursor_is ∙ cursor_full room words h in (
            rw (none, lt-ltb room (length (encoded words)) (omega arith)) refl,
            rw (none, lt-ltb room (length (encoded words)) (omega arith)) refl,
          )

-- words written into a cleared buffer, whose length `Wrote` keeps
module _ (from to words : List ℕ) (at : Option ℕ) (clear : from ≡ replicate (length from) 0)
    (wrote : writing.Wrote from (Some 0) to at words) where
  wrote_all : WroteAll words to at
  wrote_all =
      let a = wrote.adds [] (clear ∙ sym (written_none (length from))) (sym (cursor_none (length from))) in
      record {
        buffer_is = a.0 ∙ ap (λ (k : ℕ). written k words) (sym wrote.long);
        cursor_is = a.1 ∙ ap (λ (k : ℕ). cursor_of k words) (sym wrote.long);
      }

  ends : (written_to (length to) at ≡ written_in (length to) (answered (encoded words)))
      × (buffer_to to at ≡ buffer_in (length to) (answered (encoded words)))
  ends = both words to at wrote_all

  pub written_all : written_to (length to) at ≡ written_in (length from) (answered (encoded words))
  written_all = ends.0 ∙ ap (λ (k : ℕ). written_in k (answered (encoded words))) wrote.long

  pub buffer_all : buffer_to to at ≡ buffer_in (length from) (answered (encoded words))
  buffer_all = ends.1 ∙ ap (λ (k : ℕ). buffer_in k (answered (encoded words))) wrote.long

-- what a writer that began in this buffer wrote there
pub begun_wrote : {from words : List ℕ} {before after : Writer} → before.buffer.now ≡ from → before.at ≡ Some 0
    → writing.Writes before after words → writing.Wrote from (Some 0) after.buffer.now after.at words
begun_wrote {from} {words} {before} {after} opened first writes =
    subst (λ (s : List ℕ). writing.Wrote s (Some 0) after.buffer.now after.at words) opened
    (subst (λ (at : Option ℕ). writing.Wrote before.buffer.now at after.buffer.now after.at words) first writes.wrote)
