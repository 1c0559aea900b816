-- Little-endian numbers of any width in a list of bytes, and a list of bytes as a list of such numbers. Reading is
-- `number_at` of the definitions [10.1]; writing is `put`. Each law is stated once, for every width. Leans on the
-- definitions of the job's bytes and on the laws of segments. Assumes nothing.
use Rattle.std.specs.Prelude.{◌≡◌, refl, List, [], ◌∷◌, ◌++◌, ◌⊎◌, ℕ, zero, suc, ◌+◌, ◌-◌, ◌*◌, ◌/◌, ◌%◌, ◌^◌, ◌≤◌, ◌<◌}
use Rattle.std.specs.Prelude.{length, get_or, set, take, drop}
use Rattle.std.proofs.Common.{sym, ap, ◌∙◌, inl, inr, zero-add, suc-add, mul-zero, pow-suc, div-lt_iff_lt-mul}
use Rattle.std.proofs.Common.{zero-lt-suc, arith, length-drop, take_at, drop_at, drop-drop, take-take, div-one}
use Rattle.std.proofs.Common.{take-add, drop-cons, length-take-le}
use Rattle.std.proofs.Math.Nat.{pow-zero, pow-succ', one-le-pow, div-div-eq-div-mul}
use Rattle.std.proofs.lemmas.List.Edits.{sets}
use Rattle.std.proofs.Math.Seq.{length-sets}
use Rattle.definitions.specs.Job.{little, number_at, word_bytes}
use Rattle.laws.specs.Segments.{part, take_sets_le, take_sets_ge, drop_sets_ge, drop_sets_add, part_sets, drop_take}
use Rattle.laws.specs.Segments.{part_take, cons_same, sets_append}
use Rattle.std.proofs.Math.Arith.{mod-mul}

-- v in so many bytes, the lowest first
unfoldable pub bytes_of : ℕ → ℕ → List ℕ
bytes_of zero v = []
bytes_of (suc w) v = v % 256 ∷ bytes_of w (v / 256)

-- s with v in the w bytes from a place on
unfoldable pub put : ℕ → List ℕ → ℕ → ℕ → List ℕ
put w s at v = sets s at (bytes_of w v)

-- the first n numbers of w bytes each
unfoldable pub words : ℕ → List ℕ → ℕ → List ℕ
words w s zero = []
words w s (suc n) = little (take w s) ∷ words w (drop w s) n

-- ---- a number and its bytes

pub bytes_of_length : (w v : ℕ) → length (bytes_of w v) ≡ w
unfolding bytes_of
bytes_of_length zero v = refl
bytes_of_length (suc w) v = ap suc (bytes_of_length w (v / 256))

pub little_bytes_of : (w v : ℕ) → v < 256 ^ w → little (bytes_of w v) ≡ v
unfolding little bytes_of
little_bytes_of zero v h = let z = pow-zero 256 in omega arith
little_bytes_of (suc w) v h =
    let p : v < 256 ^ w * 256 = rw pow-suc at h in
    let q : v / 256 < 256 ^ w = (div-lt_iff_lt-mul (zero-lt-suc 255)).1 p in
    let r = little_bytes_of w (v / 256) q in
    omega arith

pub little_append : (xs ys : List ℕ) → little (xs ++ ys) ≡ little xs + 256 ^ length xs * little ys
unfolding little
little_append [] ys = let z = pow-zero 256 in rw pow-zero (omega arith)
little_append (x ∷ xs) ys =
    let h = little_append xs ys in
    let p : 256 ^ suc (length xs) ≡ 256 ^ length xs * 256 = pow-suc 256 (length xs) in
    rw (h, p) (omega arith)

-- a word [12.6] is the number in four bytes
pub word_bytes_is : (v : ℕ) → word_bytes v ≡ bytes_of 4 v
unfolding word_bytes bytes_of
word_bytes_is v =
    let a : v / 65536 ≡ v / 256 / 256 = omega arith in
    let b : v / 16777216 ≡ v / 256 / 256 / 256 = omega arith in
    rw (a, b) refl

-- ---- a number in a list of bytes

pub put_length : (w : ℕ) (s : List ℕ) (at v : ℕ) → length (put w s at v) ≡ length s
unfolding put
put_length w s at v = length-sets s at (bytes_of w v)

-- a number in two halves, read and written
pub number_at_add : (s : List ℕ) (at a b : ℕ) → at + a ≤ length s → number_at s at (a + b)
    ≡ number_at s at a + 256 ^ a * number_at s (at + a) b
unfolding number_at
number_at_add s at a b h =
    let l : length (take a (drop at s)) ≡ a = length-take-le a (drop at s) (rw length-drop (omega arith)) in
    rw (take-add a b (drop at s), little_append, drop-drop a at s, l) refl

-- one byte
pub number_at_byte : (s : List ℕ) (at : ℕ) → at < length s → number_at s at 1 ≡ get_or s at 0
unfolding number_at little
number_at_byte s at h = rw (drop-cons s at 0 h) (omega arith)

bytes_of_add : (a b v : ℕ) → bytes_of (a + b) v ≡ bytes_of a v ++ bytes_of b (v / 256 ^ a)
unfolding bytes_of
bytes_of_add zero b v = rw (zero-add, pow-zero, div-one) refl
bytes_of_add (suc a) b v =
    let d : v / 256 / 256 ^ a ≡ v / 256 ^ suc a = div-div-eq-div-mul v 256 (256 ^ a)
    ∙ ap (λ (k : ℕ). v / k) (sym (pow-succ' 256 a)) in
    rw suc-add
    (ap (λ (l : List ℕ). v % 256 ∷ l)
    (bytes_of_add a b (v / 256) ∙ ap (λ (k : ℕ). bytes_of a (v / 256) ++ bytes_of b k) d))

bytes_of_low : (a v : ℕ) → bytes_of a (v % 256 ^ a) ≡ bytes_of a v
unfolding bytes_of
bytes_of_low zero v = refl
bytes_of_low (suc a) v =
    let m : v % 256 ^ suc a ≡ v / 256 % 256 ^ a * 256 + v % 256 =
    ap (λ (k : ℕ). v % k) (pow-suc 256 a) ∙ mod-mul v (one-le-pow a 256 (zero-lt-suc 255)) (zero-lt-suc 255) in
    let low : v % 256 ^ suc a % 256 ≡ v % 256 = rw m (omega arith) in
    let high : v % 256 ^ suc a / 256 ≡ v / 256 % 256 ^ a = rw m (omega arith) in
    rw (low, high) (ap (λ (l : List ℕ). v % 256 ∷ l) (bytes_of_low a (v / 256)))

pub put_add : (s : List ℕ) (at a b v : ℕ) → put (a + b) s at v ≡ put b (put a s at (v % 256 ^ a)) (at + a) (v / 256 ^ a)
unfolding put
put_add s at a b v =
    rw bytes_of_low
    (ap (sets s at) (bytes_of_add a b v)
    ∙ (sym (sets_append (bytes_of a v) (bytes_of b (v / 256 ^ a)) s at)
    ∙ ap (λ (k : ℕ). sets (sets s at (bytes_of a v)) (at + k) (bytes_of b (v / 256 ^ a))) (bytes_of_length a v)))

-- what was written is read
pub number_at_put : (w : ℕ) (s : List ℕ) (at v : ℕ) → at + w ≤ length s → v < 256 ^ w
    → number_at (put w s at v) at w ≡ v
unfolding number_at put
number_at_put w s at v h f =
    let n = bytes_of_length w v in
    let p : take w (drop at (sets s at (bytes_of w v))) ≡ bytes_of w v =
    rw n at (part_sets (bytes_of w v) s at (omega arith)) in
    ap little p ∙ little_bytes_of w v f

-- the parts before and behind are as they were
pub take_put : (w : ℕ) (s : List ℕ) (at v n : ℕ) → n ≤ at → take n (put w s at v) ≡ take n s
unfolding put
take_put w s at v n h = take_sets_le (bytes_of w v) s n at h

pub drop_put : (w : ℕ) (s : List ℕ) (at v n : ℕ) → at + w ≤ n → drop n (put w s at v) ≡ drop n s
unfolding put
drop_put w s at v n h = let e = bytes_of_length w v in drop_sets_ge (bytes_of w v) s n at (omega arith)

pub drop_put_add : (w : ℕ) (s : List ℕ) (n at v : ℕ) → drop n (put w s (n + at) v) ≡ put w (drop n s) at v
unfolding put
drop_put_add w s n at v = drop_sets_add (bytes_of w v) s n at

-- any part beside the number is as it was
pub part_put_off : (w : ℕ) (s : List ℕ) (at v j m : ℕ) → (j + m ≤ at) ⊎ (at + w ≤ j)
    → take m (drop j (put w s at v)) ≡ take m (drop j s)
part_put_off w s at v j m (inl h) =
    let e : j + (at - j) ≡ at = omega arith in
    ap (λ (k : ℕ). take m (drop j (put w s k v))) (sym e)
    ∙ (ap (take m) (drop_put_add w s j (at - j) v) ∙ take_put w (drop j s) (at - j) v m (omega arith))
part_put_off w s at v j m (inr h) = ap (take m) (drop_put w s at v j h)

-- a number written inside a part is written in the part
pub part_put_in : (w : ℕ) (s : List ℕ) (a n at v : ℕ) → at + w ≤ n
    → part a n (put w s (a + at) v) ≡ put w (part a n s) at v
unfolding put
part_put_in w s a n at v h =
    let e = bytes_of_length w v in
    ap (take n) (drop_sets_add (bytes_of w v) s a at) ∙ take_sets_ge (bytes_of w v) (drop a s) n at (omega arith)

pub number_at_put_off : (w : ℕ) (s : List ℕ) (at v j m : ℕ) → (j + m ≤ at) ⊎ (at + w ≤ j)
    → number_at (put w s at v) j m ≡ number_at s j m
unfolding number_at
number_at_put_off w s at v j m o = ap little (part_put_off w s at v j m o)

-- a number of a part is a number of the whole
pub number_at_drop : (s : List ℕ) (a at w : ℕ) → number_at (drop a s) at w ≡ number_at s (a + at) w
unfolding number_at
number_at_drop s a at w = rw (drop-drop at a s) refl

pub number_at_take : (s : List ℕ) (n at w : ℕ) → at + w ≤ n → number_at (take n s) at w ≡ number_at s at w
unfolding number_at
number_at_take s n at w h = ap little (part_take n s at w h)

-- ---- a list of numbers

pub words_length : (w : ℕ) (s : List ℕ) (n : ℕ) → length (words w s n) ≡ n
unfolding words
words_length w s zero = refl
words_length w s (suc n) = ap suc (words_length w (drop w s) n)

-- in two parts
pub words_add : (w : ℕ) (s : List ℕ) (m n : ℕ) → words w s (m + n) ≡ words w s m ++ words w (drop (w * m) s) n
unfolding words
words_add w s zero n = rw (zero-add, mul-zero) refl
words_add w s (suc m) n =
    let e : w + w * m ≡ w * suc m = omega arith in
    rw suc-add
    (ap (λ (l : List ℕ). little (take w s) ∷ l)
    (words_add w (drop w s) m n
    ∙ ap (λ (r : List ℕ). words w (drop w s) m ++ words w r n) (drop-drop (w * m) w s ∙ ap (λ (k : ℕ). drop k s) e)))

-- one more at the end
pub words_more : (w : ℕ) (s : List ℕ) (n : ℕ) → words w s (n + 1) ≡ words w s n ++ (number_at s (w * n) w ∷ [])
unfolding words number_at
words_more w s n = words_add w s n 1

pub get_d_words : (w : ℕ) (s : List ℕ) (n i : ℕ) → i < n → get_or (words w s n) i 0 ≡ number_at s (w * i) w
unfolding words number_at
get_d_words w s zero i h = absurd (omega arith)
get_d_words w s (suc n) zero h = rw mul-zero refl
get_d_words w s (suc n) (suc i) h =
    let e : w + w * i ≡ w * suc i = omega arith in
    get_d_words w (drop w s) n i (omega arith)
    ∙ (ap (λ (l : List ℕ). little (take w l)) (drop-drop (w * i) w s) ∙ ap (λ (k : ℕ). little (take w (drop k s))) e)

-- the first m of n numbers, and the rest
pub take_words : (w : ℕ) (s : List ℕ) (m n : ℕ) → m ≤ n → take m (words w s n) ≡ words w s m
take_words w s m n h =
    let e : m + (n - m) ≡ n = omega arith in
    ap (λ (k : ℕ). take m (words w s k)) (sym e)
    ∙ (ap (take m) (words_add w s m (n - m))
    ∙ take_at (words w s m) (words w (drop (w * m) s) (n - m)) m (words_length w s m))

pub drop_words : (w : ℕ) (s : List ℕ) (m n : ℕ) → m ≤ n → drop m (words w s n) ≡ words w (drop (w * m) s) (n - m)
drop_words w s m n h =
    let e : m + (n - m) ≡ n = omega arith in
    ap (λ (k : ℕ). drop m (words w s k)) (sym e)
    ∙ (ap (drop m) (words_add w s m (n - m))
    ∙ drop_at (words w s m) (words w (drop (w * m) s) (n - m)) m (words_length w s m))

-- the numbers are those of their own bytes
pub words_take : (w : ℕ) (s : List ℕ) (k n : ℕ) → w * n ≤ k → words w (take k s) n ≡ words w s n
unfolding words
words_take w s k zero h = refl
words_take w s k (suc n) h =
    let e : w + w * n ≡ w * suc n = omega arith in
    let a : take w (take k s) ≡ take w s = take-take w k s (omega arith) in
    let b : drop w (take k s) ≡ take (k - w) (drop w s) = drop_take w k s (omega arith) in
    rw (a, b, words_take w (drop w s) (k - w) n (omega arith)) refl

-- what is written is the number at its place: the byte table is an array of numbers
pub words_put : (w : ℕ) (s : List ℕ) (n i v : ℕ) → i < n → w * n ≤ length s → v < 256 ^ w
    → words w (put w s (w * i) v) n ≡ set (words w s n) i v
unfolding words number_at
words_put w s zero i v h l f = absurd (omega arith)
words_put w s (suc n) zero v h l f =
    let e : w + w * n ≡ w * suc n = omega arith in
    rw mul-zero (cons_same (number_at_put w s 0 v (omega arith) f)
    (ap (λ (r : List ℕ). words w r n) (drop_put w s 0 v w (omega arith))))
words_put w s (suc n) (suc i) v h l f =
    let e : w + w * i ≡ w * suc i = omega arith in
    let e' : w + w * n ≡ w * suc n = omega arith in
    rw (← e)
    (cons_same
    (ap little (take_put w s (w + w * i) v w (omega arith)))
    (ap (λ (r : List ℕ). words w r n) (drop_put_add w s w (w * i) v)
    ∙ words_put w (drop w s) n i v (omega arith) (rw length-drop (omega arith)) f))

-- what is written behind them, in any width
pub words_put_behind : (w u : ℕ) (s : List ℕ) (n at v : ℕ) → w * n ≤ at → words w (put u s at v) n ≡ words w s n
words_put_behind w u s n at v h =
    sym (words_take w (put u s at v) (w * n) n (omega arith))
    ∙ (ap (λ (r : List ℕ). words w r n) (take_put u s at v (w * n) h) ∙ words_take w s (w * n) n (omega arith))

-- one more is appended
pub words_push : (w : ℕ) (s : List ℕ) (n v : ℕ) → w * n + w ≤ length s → v < 256 ^ w
    → words w (put w s (w * n) v) (n + 1) ≡ words w s n ++ (v ∷ [])
words_push w s n v h f =
    rw (
      words_more w (put w s (w * n) v) n,
      number_at_put w s (w * n) v h f,
      words_put_behind w w s n (w * n) v (omega arith),
    ) refl

-- ---- a table of numbers that begins at some place of a list of bytes

module _ (w : ℕ) (s : List ℕ) (base n : ℕ) where
  -- a number of the table
  pub get_d_table : (i : ℕ) → i < n → get_or (words w (drop base s) n) i 0 ≡ number_at s (base + w * i) w
  get_d_table i h = get_d_words w (drop base s) n i h ∙ number_at_drop s base (w * i) w

  -- one is written
  pub table_put : (i v : ℕ) → i < n → base + w * n ≤ length s → v < 256 ^ w
      → words w (drop base (put w s (base + w * i) v)) n ≡ set (words w (drop base s) n) i v
  table_put i v h l f =
      let d = length-drop base s in
      ap (λ (r : List ℕ). words w r n) (drop_put_add w s base (w * i) v)
      ∙ words_put w (drop base s) n i v h (omega arith) f

  -- one is appended
  pub table_push : (v : ℕ) → base + w * n + w ≤ length s → v < 256 ^ w
      → words w (drop base (put w s (base + w * n) v)) (n + 1) ≡ words w (drop base s) n ++ (v ∷ [])
  table_push v l f =
      let d = length-drop base s in
      ap (λ (r : List ℕ). words w r (n + 1)) (drop_put_add w s base (w * n) v)
      ∙ words_push w (drop base s) n v (omega arith) f
