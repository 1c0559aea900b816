-- What a writing function does to an answer buffer and its cursor: whatever words stand there, these stand behind
-- them. Said of a buffer and a cursor (`Wrote`), and of a writer (`Writes`). Leans on Writer.
use Rattle.std.specs.Prelude.{◌≡◌, refl, Bool, true, false, cond, List, [], ◌∷◌, ◌++◌, ℕ, ◌+◌, leb, length, Option}
use Rattle.std.specs.Prelude.{Some, None}
use Rattle.std.proofs.Common.{sym, ap, ◌∙◌, append_assoc, append-nil}
use Rattle.words.specs.Words.{put, put_length}
use Rattle.words.specs.declared.Writer.{Writer}
use Rattle.words.specs.Writer.{written, cursor_of, with_word, behind_word, cursor_word, written_word}

-- the buffer and the cursor before, the buffer and the cursor after, and the words between
pub record Wrote (before : List ℕ) (at : Option ℕ) (after : List ℕ) (r : Option ℕ) (words : List ℕ) : Type 0 where
  pub long : length after ≡ length before
  pub adds : (l : List ℕ) → before ≡ written (length before) l → at ≡ cursor_of (length before) l
      → (after ≡ written (length before) (l ++ words)) × (r ≡ cursor_of (length before) (l ++ words))

-- no words
pub wrote_none : (s : List ℕ) (at : Option ℕ) → Wrote s at s at []
wrote_none s at = record {
  long = refl;
  adds =
      λ l p q. (p ∙ ap (written (length s)) (sym (append-nil l)), q ∙ ap (cursor_of (length s)) (sym (append-nil l)));
}

-- one word
with_length : (s : List ℕ) (at : Option ℕ) (v : ℕ) → length (with_word s at v) ≡ length s
unfolding with_word
with_length s None v = refl
with_length s (Some at) v = go (leb (at + 4) (length s))
  where
    go : (b : Bool) → length (cond b (put 4 s at v) s) ≡ length s
    go true = put_length 4 s at v
    go false = refl

pub wrote_word : (s t : List ℕ) (at r : Option ℕ) (v : ℕ) → r ≡ behind_word (length s) at → t ≡ with_word s at v
    → Wrote s at t r (v ∷ [])
wrote_word s t at r v e f = record {
  long = ap length f ∙ with_length s at v;
  adds = λ l p q. (
    f ∙ (ap (λ (x : List ℕ). with_word x at v) p
        ∙ (ap (λ (i : Option ℕ). with_word (written (length s) l) i v) q ∙ written_word (length s) l v)),
    e ∙ (ap (behind_word (length s)) q ∙ cursor_word (length s) l v),
  );
}

-- words and then others
pub wrote_then : {s t u : List ℕ} {at r q : Option ℕ} {a b : List ℕ} → Wrote s at t r a → Wrote t r u q b
    → Wrote s at u q (a ++ b)
wrote_then {s} {t} {u} {at} {r} {q} {a} {b} x y = record {
  long = y.long ∙ x.long;
  adds = λ l e f.
      let n = x.long in
      let first = x.adds l e f in
      let second = y.adds (l ++ a) (first.0 ∙ ap (λ (k : ℕ). written k (l ++ a)) (sym n))
      (first.1 ∙ ap (λ (k : ℕ). cursor_of k (l ++ a)) (sym n)) in (
        second.0 ∙ (ap (λ (k : ℕ). written k (l ++ a ++ b)) n ∙ ap (written (length s)) (append_assoc l a b)),
        second.1 ∙ (ap (λ (k : ℕ). cursor_of k (l ++ a ++ b)) n ∙ ap (cursor_of (length s)) (append_assoc l a b)),
      );
}

-- the same words, said otherwise
pub wrote_as : {s t : List ℕ} {at r : Option ℕ} {a b : List ℕ} → Wrote s at t r a → a ≡ b → Wrote s at t r b
wrote_as {s} {t} {at} {r} x e = rw (← e) x

-- ---- a writer

-- the buffer is the same one, and the words stand in it
pub record Writes (before after : Writer) (words : List ℕ) : Type 0 where
  pub same : after.buffer.ghost_name ≡ before.buffer.ghost_name
  pub wrote : Wrote before.buffer.now before.at after.buffer.now after.at words

pub writes_none : (w : Writer) → Writes w w []
writes_none w = record { same = refl; wrote = wrote_none w.buffer.now w.at }

pub writes_then : {u v w : Writer} {a b : List ℕ} → Writes u v a → Writes v w b → Writes u w (a ++ b)
writes_then x y = record { same = y.same ∙ x.same; wrote = wrote_then x.wrote y.wrote }

pub writes_as : {v w : Writer} {a b : List ℕ} → Writes v w a → a ≡ b → Writes v w b
writes_as {v} {w} x e = rw (← e) x
