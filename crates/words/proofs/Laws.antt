-- What the proofs of the functions cite: what straight-line code leaves, said by the definitions. Assumes nothing.
use mathlib.Core.Path.{◌≡◌, refl, sym, ap, subst, ◌∙◌}
use mathlib.Core.Bool.{true, false}
use mathlib.Core.List.{List, [], ◌∷◌, ◌++◌, append_assoc}
use Prim.Native.Nat.{ℕ, zero, suc, ◌+◌, ◌-◌, ◌*◌, ◌/◌, ◌%◌, ◌^◌, ◌≤◌, ◌<◌}
use native.Mathlib.Omega.{arith}
use borrow.Author.Tests.{lt-ltb, le-ltb, le-leb, lt-leb}
use borrow.Rule.Slice.PartMut.{put_mid}
use lib.Dec.{T}
use Rattle.std.specs.Int.{sum_through, byte_worth, bytes_low_first}
use Rattle.std.specs.Array.{IsWholeChunk}
use Rattle.std.specs.Prelude.{Option, Some, None, Result, Ok, MatchResult, ◌≢◌, slice_index}
use Rattle.std.proofs.Common.{pow-suc, div-one, mul_comm, drop-drop, length-take-le, take_all}
use Rattle.std.proofs.Math.Nat.{pow-zero, div-div-eq-div-mul}
use Rattle.std.proofs.lemmas.List.Edits.{sets-eq}
use lib.ListN.{length, get_or, take, drop}
use lib.Ieee.{Float, nan, inf, fin, binary64, of_bits, to_bits, is_nan, nan_bits}
use lib.Ieee.Bits.{nan_bits_is, nan_bits_above}
use Rattle.definitions.specs.Job.{little, number_at, float_at}
use Rattle.laws.specs.Parts.{take_more}
use Rattle.words.specs.Words.{bytes_of, bytes_of_length, put, little_append}
use Rattle.words.specs.Floats.{read_of}
use Rattle.words.specs.Writer.{with_word, behind_word}

-- ---- numbers, as the library makes them of bytes and takes them apart

-- what the library sums up, for every width
sum_is : (l : List ℕ) (k : ℕ) → k < length l
    → sum_through (λ i. byte_worth i (slice_index l i)) k ≡ little (take (suc k) l)
unfolding little
sum_is [] k h = absurd (omega arith)
sum_is (x ∷ l) zero h = omega arith
sum_is (x ∷ l) (suc k) h =
    let all = x ∷ l in
    let b = get_or all (suc k) 0 in
    let e : suc (suc k) ≡ suc k + 1 = omega arith in
    let n : length (take (suc k) all) ≡ suc k = length-take-le (suc k) all (omega arith) in
    let one : b + 256 * 0 ≡ b = omega arith in
    let more : little (take (suc (suc k)) all) ≡ little (take (suc k) all) + 256 ^ suc k * b =
    ap (λ (j : ℕ). little (take j all)) e
    ∙ (ap little (take_more all (suc k) 0 h)
    ∙ (little_append (take (suc k) all) (b ∷ [])
    ∙ ap (λ (j : ℕ). little (take (suc k) all) + 256 ^ j * (b + 256 * 0)) n
    ∙ ap (λ (j : ℕ). little (take (suc k) all) + 256 ^ suc k * j) one)) in
    ap (λ (m : ℕ). m + b * 256 ^ suc k) (sum_is all k (omega arith))
    ∙ (ap (λ (m : ℕ). little (take (suc k) all) + m) (mul_comm b (256 ^ suc k)) ∙ sym more)

-- bytes of a slice as an array, and their number
pub read_bytes : {E : Type 0} (s bytes : List ℕ) (at k : ℕ) (r : Result (List ℕ) E) → at + suc k ≤ length s
    → r ≡ Ok bytes
    → MatchResult r (λ (y : List ℕ). IsWholeChunk (take (at + suc k - at) (drop at s)) y (suc k))
    (λ _. length (take (at + suc k - at) (drop at s)) ≢ suc k)
    → sum_through (λ i. byte_worth i (slice_index bytes i)) k ≡ number_at s at (suc k)
unfolding number_at
read_bytes {E} s bytes at k r h e m =
    let part = take (at + suc k - at) (drop at s) in
    let whole : IsWholeChunk part bytes (suc k) = subst (λ (q : Result (List ℕ) E).
    MatchResult q (λ (y : List ℕ). IsWholeChunk part y (suc k)) (λ _. length part ≢ suc k)) e m in
    let w : at + suc k - at ≡ suc k = omega arith in
    let same : bytes ≡ take (suc k) (drop at s) = whole.same ∙ ap (λ (j : ℕ). take j (drop at s)) w in
    let n : length bytes ≡ suc k = ap length whole.same ∙ whole.long in
    sum_is bytes k (omega arith) ∙ ap little (take_all (suc k) bytes (omega arith) ∙ same)

low_first : (i w v : ℕ) → bytes_low_first i w v ≡ bytes_of w (v / 256 ^ i)
unfolding bytes_of
low_first i zero v = refl
low_first zero (suc w) v = rw (pow-zero, div-one) (ap (λ (l : List ℕ). v % 256 ∷ l) (low_first 1 w v))
low_first (suc i) (suc w) v =
    let d : v / 256 ^ suc i / 256 ≡ v / 256 ^ suc (suc i) = div-div-eq-div-mul v (256 ^ suc i) 256
    ∙ ap (λ (k : ℕ). v / k) (sym (pow-suc 256 (suc i))) in
    rw d (ap (λ (l : List ℕ). v / 256 ^ suc i % 256 ∷ l) (low_first (suc (suc i)) w v))

-- a copy of a number's bytes
pub copied : (w : ℕ) (s bytes : List ℕ) (at v : ℕ) → at + w ≤ length s → bytes ≡ bytes_low_first 0 w v
    → put_mid at (at + w - at) s bytes ≡ put w s at v
unfolding put
copied w s bytes at v h e =
    let n = bytes_of_length w v in
    let m : at + w - at ≡ w = omega arith in
    let b : bytes ≡ bytes_of w v = e ∙ low_first 0 w v ∙ (rw (pow-zero, div-one) refl) in
    rw (m, b, drop-drop) (sym (sets-eq (bytes_of w v) s at (omega arith)
    ∙ append_assoc (take at s) (bytes_of w v) (drop (at + length (bytes_of w v)) s)
    ∙ ap (λ (k : ℕ). take at s ++ (bytes_of w v ++ drop (at + k) s)) n))

-- ---- floats

-- a pattern above the infinity's is a NaN's
pub nan_pattern : (n : ℕ) → 9218868437227405312 < n % 9223372036854775808 → nan_bits binary64 n ≡ true
nan_pattern n h = nan_bits_above binary64 n ∙ lt-ltb 9218868437227405312 (n % 9223372036854775808) h

pub no_nan_pattern : (n : ℕ) → n % 9223372036854775808 ≤ 9218868437227405312 → nan_bits binary64 n ≡ false
no_nan_pattern n h = nan_bits_above binary64 n ∙ le-ltb 9218868437227405312 (n % 9223372036854775808) h

read_nan : (x : Float) → is_nan x ≡ true → None ≡ read_of x
unfolding read_of is_nan
read_nan nan h = refl
read_nan (inf s) h = absurd (subst T (sym h) tt)
read_nan (fin s m e) h = absurd (subst T (sym h) tt)

read_number : (x : Float) → is_nan x ≡ false → Some x ≡ read_of x
unfolding read_of is_nan
read_number nan h = absurd (subst T h tt)
read_number (inf s) h = refl
read_number (fin s m e) h = refl

pub read_as_nan : (s : List ℕ) (at n : ℕ) → n ≡ number_at s at 8 → 9218868437227405312 < n % 9223372036854775808
    → None ≡ read_of (float_at s at)
unfolding float_at
read_as_nan s at n e h =
    read_nan (of_bits binary64 n) (sym (nan_bits_is binary64 n) ∙ nan_pattern n h)
    ∙ ap (λ (k : ℕ). read_of (of_bits binary64 k)) e

pub read_as_number : (s : List ℕ) (at n : ℕ) → n ≡ number_at s at 8 → n % 9223372036854775808 ≤ 9218868437227405312
    → Some (of_bits binary64 n) ≡ read_of (float_at s at)
unfolding float_at
read_as_number s at n e h =
    read_number (of_bits binary64 n) (sym (nan_bits_is binary64 n) ∙ no_nan_pattern n h)
    ∙ ap (λ (k : ℕ). read_of (of_bits binary64 k)) e

-- the pattern that is written for a NaN is the library's
pub nan_pattern_written : (x : Float) → is_nan x ≡ true → 9221120237041090560 ≡ to_bits binary64 x
unfolding is_nan to_bits
nan_pattern_written nan h = refl
nan_pattern_written (inf s) h = absurd (subst T (sym h) tt)
nan_pattern_written (fin s m e) h = absurd (subst T (sym h) tt)

-- ---- a word at the cursor

pub no_cursor : (s : List ℕ) (at : Option ℕ) (v : ℕ) → at ≡ None
    → (at ≡ behind_word (length s) at) × (s ≡ with_word s at v)
unfolding behind_word with_word
no_cursor s at v e = rw e (refl, refl)

pub no_word : (s : List ℕ) (at : Option ℕ) (i v : ℕ) → at ≡ Some i → length s < i + 4
    → (None ≡ behind_word (length s) at) × (s ≡ with_word s at v)
unfolding behind_word with_word
no_word s at i v e h = rw (e, lt-leb (i + 4) (length s) h) (refl, refl)

pub a_word : (s t : List ℕ) (at : Option ℕ) (i v : ℕ) → at ≡ Some i → i + 4 ≤ length s → t ≡ put 4 s i v
    → (Some (i + 4) ≡ behind_word (length s) at) × (t ≡ with_word s at v)
unfolding behind_word with_word
a_word s t at i v e h p = rw (e, le-leb (i + 4) (length s) h) (refl, p)
