-- An answer buffer that is cleared once and then takes words one behind another: after each, the words so far and
-- zeros behind them. Words for which there is no room are dropped, and the cursor tells. Leans on `word_bytes` [12.6]
-- and on Words. Assumes nothing.
use Rattle.std.specs.Prelude.{◌≡◌, cond, ℕ, ◌+◌, ◌-◌, ◌*◌, ◌/◌, ◌≤◌, ◌<◌, leb, take, drop, replicate, Option, Some}
use Rattle.std.specs.Prelude.{None}
use Rattle.std.proofs.Math.Path.{refl, sym, ap}
use Rattle.std.proofs.Common.{◌∙◌, length-append, length-take, take_all}
use mathlib.Core.List.{List, [], ◌∷◌, ◌++◌, flat_map, append_assoc, append-nil}
use Rattle.std.proofs.Math.Logic.{⊎_elim}
use Rattle.std.proofs.Math.Nat.{min-le_left}
use native.Mathlib.Omega.{arith}
use borrow.Author.Tests.{le-leb, lt-leb}
use Rattle.std.proofs.Math.ListN.{length}
use Rattle.std.proofs.lemmas.List.{length-replicate, take-append-le}
use Rattle.std.proofs.lemmas.List.Edits.{sets}
use Rattle.std.proofs.Math.Seq.{take-nil}
use Rattle.definitions.specs.Job.{word_bytes, buffer_of}
use Rattle.definitions.specs.Outcome.{answered}
use Rattle.laws.specs.Segments.{sets_front, sets_behind, drop_replicate, le_or_lt}
use Rattle.words.specs.Words.{bytes_of, bytes_of_length, put, word_bytes_is}

-- [12.6] the bytes of a list of words
unfoldable pub encoded : List ℕ → List ℕ
encoded = flat_map word_bytes

-- a list with zeros behind it, n in all
unfoldable pub padded : ℕ → List ℕ → List ℕ
padded n l = l ++ replicate (n - length l) 0

-- the most bytes that a buffer has
abbrev pub full : ℕ
full = 18446744073709551615

-- a buffer of n bytes after the words l, as many of them as there is room for, and the cursor behind them
unfoldable pub written : ℕ → List ℕ → List ℕ
written n l = padded n (encoded (take (n / 4) l))

-- none once there was no room for a word
unfoldable pub cursor_of : ℕ → List ℕ → Option ℕ
cursor_of n l = cond (leb (4 * length l) n) (Some (4 * length l)) None

-- a word at the cursor, and the cursor behind it
unfoldable pub with_word : List ℕ → Option ℕ → ℕ → List ℕ
with_word s None v = s
with_word s (Some at) v = cond (leb (at + 4) (length s)) (put 4 s at v) s

unfoldable pub behind_word : ℕ → Option ℕ → Option ℕ
behind_word n None = None
behind_word n (Some at) = cond (leb (at + 4) n) (Some (at + 4)) None

-- ---- laws

pub encoded_append : (a b : List ℕ) → encoded (a ++ b) ≡ encoded a ++ encoded b
unfolding encoded flat_map
encoded_append [] b = refl
encoded_append (x ∷ a) b =
    ap (λ (l : List ℕ). word_bytes x ++ l) (encoded_append a b)
    ∙ sym (append_assoc (word_bytes x) (encoded a) (encoded b))

pub encoded_one : (v : ℕ) → encoded (v ∷ []) ≡ bytes_of 4 v
unfolding encoded flat_map
encoded_one v = append-nil (word_bytes v) ∙ word_bytes_is v

pub encoded_length : (l : List ℕ) → length (encoded l) ≡ 4 * length l
unfolding encoded flat_map word_bytes
encoded_length [] = refl
encoded_length (x ∷ l) = let h = encoded_length l in omega arith

pub padded_length : (n : ℕ) (l : List ℕ) → length l ≤ n → length (padded n l) ≡ n
unfolding padded
padded_length n l h = rw (length-append, length-replicate) (omega arith)

-- a number in the zeros behind a list becomes part of the list, for every width
put_zeros : (w m v : ℕ) → w ≤ m → put w (replicate m 0) 0 v ≡ bytes_of w v ++ replicate (m - w) 0
unfolding put
put_zeros w m v h =
    let e = bytes_of_length w v in
    let z : length {A = ℕ} (replicate m 0) ≡ m = length-replicate m 0 in
    sets_front (bytes_of w v) (replicate m 0) (omega arith)
    ∙ (ap (λ (k : ℕ). bytes_of w v ++ drop k (replicate m 0)) e
    ∙ ap (λ (r : List ℕ). bytes_of w v ++ r) (drop_replicate w m 0))

put_behind : (w : ℕ) (l r : List ℕ) (v : ℕ) → put w (l ++ r) (length l) v ≡ l ++ put w r 0 v
unfolding put
put_behind w l r v =
    let at : length l ≡ length l + 0 = omega arith in
    ap (λ (k : ℕ). sets (l ++ r) k (bytes_of w v)) at ∙ sets_behind l r (bytes_of w v) 0

pub put_padded : (w n : ℕ) (l : List ℕ) (v : ℕ) → length l + w ≤ n
    → put w (padded n l) (length l) v ≡ padded n (l ++ bytes_of w v)
unfolding padded
put_padded w n l v h =
    let m : n - length l - w ≡ n - length (l ++ bytes_of w v) = rw (length-append, bytes_of_length) (omega arith) in
    put_behind w l (replicate (n - length l) 0) v
    ∙ (ap (λ (r : List ℕ). l ++ r) (put_zeros w (n - length l) v (omega arith))
    ∙ (sym (append_assoc l (bytes_of w v) (replicate (n - length l - w) 0))
    ∙ ap (λ (k : ℕ). l ++ bytes_of w v ++ replicate k 0) m))

-- one word more, with zeros behind: what each write of an answer does
pub put_word : (n : ℕ) (l : List ℕ) (v : ℕ) → 4 * length l + 4 ≤ n
    → put 4 (padded n (encoded l)) (4 * length l) v ≡ padded n (encoded (l ++ (v ∷ [])))
put_word n l v h =
    let e = encoded_length l in
    ap (λ (k : ℕ). put 4 (padded n (encoded l)) k v) (sym e)
    ∙ (put_padded 4 n (encoded l) v (omega arith)
    ∙ ap (padded n) (ap (λ (r : List ℕ). encoded l ++ r) (sym (encoded_one v)) ∙ sym (encoded_append l (v ∷ []))))

-- a cleared buffer
pub written_none : (n : ℕ) → written n [] ≡ replicate n 0
unfolding written padded encoded flat_map
written_none n =
    let e : n - 0 ≡ n = omega arith in
    rw (take-nil (n / 4), e) refl

pub cursor_none : (n : ℕ) → cursor_of n [] ≡ Some 0
unfolding cursor_of
cursor_none n = rw (le-leb 0 n (omega arith)) refl

-- where every word has room, the buffer is the definition's [12.7]
pub written_fits : (n : ℕ) (l : List ℕ) → 4 * length l ≤ n → written n l ≡ padded n (encoded l)
unfolding written
written_fits n l h = rw (take_all (n / 4) l (omega arith)) refl

pub padded_answer : (n : ℕ) (bytes : List ℕ) → padded n bytes ≡ buffer_of n (answered bytes)
unfolding padded buffer_of
padded_answer n bytes = refl

pub cursor_fits : (n : ℕ) (l : List ℕ) → 4 * length l ≤ n → cursor_of n l ≡ Some (length (encoded l))
unfolding cursor_of
cursor_fits n l h = rw (le-leb (4 * length l) n h) (ap Some (sym (encoded_length l)))

pub cursor_full : (n : ℕ) (l : List ℕ) → n < 4 * length l → cursor_of n l ≡ None
unfolding cursor_of
cursor_full n l h = rw (lt-leb (4 * length l) n h) refl

-- one word more, where it has room, where it is the first that has none, and where an earlier one had none
module _ (n : ℕ) (l : List ℕ) (v : ℕ) where
  more_length : length (l ++ (v ∷ [])) ≡ length l + 1
  more_length = length-append l (v ∷ [])

  here : 4 * length l ≤ n → cursor_of n l ≡ Some (4 * length l)
  here h = cursor_fits n l h ∙ ap Some (encoded_length l)

  cursor_room : 4 * length l + 4 ≤ n → behind_word n (cursor_of n l) ≡ cursor_of n (l ++ (v ∷ []))
  unfolding cursor_of behind_word
  cursor_room h =
      let e : 4 * length (l ++ (v ∷ [])) ≡ 4 * length l + 4 = ap (λ (k : ℕ). 4 * k) more_length ∙ omega arith in
      rw (le-leb (4 * length l) n (omega arith), e, le-leb (4 * length l + 4) n h) refl

  cursor_no_room : n < 4 * length l + 4 → behind_word n (cursor_of n l) ≡ cursor_of n (l ++ (v ∷ []))
  unfolding behind_word
  cursor_no_room h =
      let e = more_length in
      let past : behind_word n (cursor_of n l) ≡ None =
      ⊎_elim (λ g. ap (behind_word n) (here g) ∙ (rw (lt-leb (4 * length l + 4) n h) refl))
      (λ g. ap (behind_word n) (cursor_full n l g)) (le_or_lt (4 * length l) n) in
      past ∙ sym (cursor_full n (l ++ (v ∷ [])) (omega arith))

  -- the cursor after one word more
  pub cursor_word : behind_word n (cursor_of n l) ≡ cursor_of n (l ++ (v ∷ []))
  cursor_word = ⊎_elim cursor_room cursor_no_room (le_or_lt (4 * length l + 4) n)

  written_length : length (written n l) ≡ n
  unfolding written
  written_length =
      padded_length n (encoded (take (n / 4) l))
      (rw (encoded_length, length-take) (omega (arith, min-le_left (n / 4) (length l))))

  written_room : 4 * length l + 4 ≤ n → with_word (written n l) (cursor_of n l) v ≡ written n (l ++ (v ∷ []))
  unfolding with_word
  written_room h =
      let e = more_length in
      let c : cursor_of n l ≡ Some (4 * length l) = here (omega arith) in
      let before = written_fits n l (omega arith) in
      rw c (rw (written_length, le-leb (4 * length l + 4) n h, before)
      (put_word n l v h ∙ sym (written_fits n (l ++ (v ∷ [])) (omega arith))))

  written_same : n < 4 * length l + 4 → written n l ≡ written n (l ++ (v ∷ []))
  unfolding written
  written_same h = ap (λ (r : List ℕ). padded n (encoded r)) (sym (take-append-le (n / 4) l (v ∷ []) (omega arith)))

  written_no_room : n < 4 * length l + 4 → with_word (written n l) (cursor_of n l) v ≡ written n (l ++ (v ∷ []))
  unfolding with_word
  written_no_room h =
      let past : with_word (written n l) (cursor_of n l) v ≡ written n l =
      ⊎_elim
      (λ g. ap (λ (at : Option ℕ). with_word (written n l) at v) (here g)
      ∙ (rw (written_length, lt-leb (4 * length l + 4) n h) refl))
      (λ g. ap (λ (at : Option ℕ). with_word (written n l) at v) (cursor_full n l g))
      (le_or_lt (4 * length l) n) in
      past ∙ written_same h

  -- the buffer after one word more
  pub written_word : with_word (written n l) (cursor_of n l) v ≡ written n (l ++ (v ∷ []))
  written_word = ⊎_elim written_room written_no_room (le_or_lt (4 * length l + 4) n)
