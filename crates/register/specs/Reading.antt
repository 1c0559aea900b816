-- An answer read back from its bytes, which hold its numbers [12.3] as u32 [12.6]. Where every number is one, the
-- bytes determine the words, and these the entries. Leans on the definition of the answer's bytes, and on numbers in
-- bytes.
use Rattle.std.specs.Prelude.{◌≡◌, refl, ℕ, zero, suc, ◌<◌, length}
use Rattle.std.proofs.Common.{sym, ap, ◌∙◌}
use mathlib.Core.List.{List, [], ◌∷◌, ◌++◌, map, flat_map, append_assoc, append-nil}
use Rattle.definitions.specs.Lists.{Pair}
use Rattle.definitions.specs.Figures.{Figure}
use Rattle.definitions.specs.Recursion.{Entry, Answer}
use Rattle.definitions.specs.Job.{Bytes, little, counted, figure_words, facet_words, entry_words, compound_words}
use Rattle.definitions.specs.Job.{summary_words, answer_words, word_bytes, answer_bytes}
use Rattle.laws.specs.Lists.{there}
use Rattle.words.specs.Words.{word_bytes_is, little_bytes_of}
use Rattle.laws.specs.Places.{map_self}
use Rattle.shapes.specs.FigureNumbers.{WordsBelow}
use Rattle.shapes.specs.JobWords.{u32s}

-- ---- the definition

-- the numbers in the bytes, four bytes to a number [12.6]
unfoldable pub words_read : Bytes → List ℕ
words_read [] = []
words_read (a ∷ []) = []
words_read (a ∷ b ∷ []) = []
words_read (a ∷ b ∷ c ∷ []) = []
words_read (a ∷ b ∷ c ∷ d ∷ bytes) = little (a ∷ b ∷ c ∷ d ∷ []) ∷ words_read bytes

-- something read from the front of a list of words, and what is left of the list
abbrev pub Reader : Type 0 → Type 0
Reader A = List ℕ → A × List ℕ

unfoldable pub read_word : Reader ℕ
read_word [] = (0, [])
read_word (w ∷ words) = (w, words)

-- so many, one behind another
unfoldable pub read_many : {A : Type 0} → Reader A → ℕ → Reader (List A)
read_many read zero words = ([], words)
read_many read (suc n) words =
    let first = read words in
    let others = read_many read n first.1 in
    (first.0 ∷ others.0, others.1)

-- how many, and then each
unfoldable pub read_counted : {A : Type 0} → Reader A → Reader (List A)
read_counted read words = let many = read_word words in read_many read many.0 many.1

unfoldable pub read_pair : Reader Pair
read_pair words =
    let first = read_word words in
    let second = read_word first.1 in
    ((first.0, second.0), second.1)

-- a figure [12.4]: its ranks, their elements, their subs, how many of each in front
unfoldable pub read_figure : Reader Figure
read_figure = read_counted (read_counted (read_counted read_word))

-- an entry [12.3]: its split list, the list before splitting, and its figure
unfoldable pub read_entry : Reader Entry
read_entry words =
    let list = read_counted read_pair words in
    let before = read_counted read_pair list.1 in
    let figure = read_figure before.1 in
    (record { list = list.0; before = before.0; figure = figure.0 }, figure.1)

-- the entries, behind the number of lists examined and the orbits' counts
unfoldable pub entries_read : Bytes → List Entry
entries_read bytes =
    let counts = read_counted read_word (read_word (words_read bytes)).1 in
    (read_counted read_entry counts.1).0

-- ---- words are read back

-- what is read of a number that was written as a u32
unfoldable low : ℕ → ℕ
low w = little (word_bytes w)

low_is : (w : ℕ) → w < 4294967296 → low w ≡ w
unfolding low
low_is w h = ap little (word_bytes_is w) ∙ little_bytes_of 4 w h

words_read_holds : (words : List ℕ) (tail : Bytes)
    → words_read (flat_map word_bytes words ++ tail) ≡ map low words ++ words_read tail
unfolding flat_map word_bytes words_read low
words_read_holds [] tail = refl
words_read_holds (w ∷ words) tail = ap (λ (l : List ℕ). low w ∷ l) (words_read_holds words tail)

-- ---- what is written in words is read from them

-- a reader of what these words say
abbrev Reads : {A : Type 0} → Reader A → (A → List ℕ) → Type 0
Reads {A} read words = (a : A) (rest : List ℕ) → read (words a ++ rest) ≡ (a, rest)

many_read : {A : Type 0} (read : Reader A) (words : A → List ℕ) → Reads read words → (items : List A) (rest : List ℕ)
    → read_many read (length items) (flat_map words items ++ rest) ≡ (items, rest)
unfolding read_many flat_map
many_read read words h [] rest = refl
many_read {A} read words h (a ∷ items) rest =
    let after : A × List ℕ → List A × List ℕ = λ first. let others = read_many read (length items) first.1 in
    (first.0 ∷ others.0, others.1) in
    ap (λ (l : List ℕ). after (read l)) (append_assoc (words a) (flat_map words items) rest)
    ∙ (ap after (h a (flat_map words items ++ rest))
    ∙ ap (λ (others : List A × List ℕ). (a ∷ others.0, others.1)) (many_read read words h items rest))

counted_read : {A : Type 0} (read : Reader A) (words : A → List ℕ) → Reads read words
    → Reads (read_counted read) (counted words)
unfolding read_counted read_word counted
counted_read read words h items rest = many_read read words h items rest

word_reads : Reads read_word (λ (w : ℕ). w ∷ [])
unfolding read_word
word_reads w rest = refl

pair_reads : Reads read_pair (λ (p : Pair). p.0 ∷ p.1 ∷ [])
unfolding read_pair read_word
pair_reads p rest = refl

figure_reads : Reads read_figure figure_words
unfolding read_figure figure_words
figure_reads =
    counted_read (read_counted (read_counted read_word)) (counted (counted (λ (w : ℕ). w ∷ []))) (counted_read
    (read_counted read_word) (counted (λ (w : ℕ). w ∷ [])) (counted_read read_word (λ (w : ℕ). w ∷ []) word_reads))

facets_read : Reads (read_counted read_pair) facet_words
unfolding facet_words
facets_read = counted_read read_pair (λ (p : Pair). p.0 ∷ p.1 ∷ []) pair_reads

entry_reads : Reads read_entry entry_words
unfolding read_entry entry_words
entry_reads e rest =
    let figureRest = figure_words e.figure ++ rest in
    let after : List Pair → List Pair × List ℕ → Entry × List ℕ = λ list before. let figure = read_figure before.1 in
    (record { list = list; before = before.0; figure = figure.0 }, figure.1) in
    let whole : List Pair × List ℕ → Entry × List ℕ = λ list. after list.0 (read_counted read_pair list.1) in
    ap (λ (l : List ℕ). whole (read_counted read_pair l))
    (in_three (facet_words e.list) (facet_words e.before) (figure_words e.figure) rest)
    ∙ (ap whole (facets_read e.list (facet_words e.before ++ figureRest))
    ∙ (ap (after e.list) (facets_read e.before figureRest)
    ∙ ap (λ (figure : Figure × List ℕ). (
      record {
        list = e.list;
        before = e.before;
        figure = figure.0;
      },
      figure.1,
    )) (figure_reads e.figure rest)))
  where
    in_three : (a b c d : List ℕ) → (a ++ b ++ c) ++ d ≡ a ++ (b ++ (c ++ d))
    in_three a b c d = simp append_assoc

-- ---- the words of an answer

low_same : (words : List ℕ) → WordsBelow u32s words → map low words ≡ words
low_same words s = map_self low words (λ w i. low_is w (s.word w i))

-- the answer's bytes determine its words, whatever stands behind them
pub words_back : (words : List ℕ) (tail : Bytes) → WordsBelow u32s words
    → words_read (flat_map word_bytes words ++ tail) ≡ words ++ words_read tail
words_back words tail s = words_read_holds words tail ∙ ap (λ (l : List ℕ). l ++ words_read tail) (low_same words s)

pub answer_back : (budget : ℕ) (a : Answer) → WordsBelow u32s (answer_words budget a)
    → words_read (answer_bytes budget a) ≡ answer_words budget a
unfolding answer_bytes words_read
answer_back budget a s =
    ap words_read (sym (append-nil (flat_map word_bytes (answer_words budget a))))
    ∙ (words_back (answer_words budget a) [] s ∙ append-nil (answer_words budget a))

-- ---- the entries of an answer

-- all words but the first, how many lists were examined
behind_examined : Answer → List ℕ
behind_examined a =
    counted (λ (count : ℕ). count ∷ []) a.counts ++ counted entry_words a.entries
    ++ flat_map (counted figure_words) a.possible ++ counted compound_words a.compounds
    ++ flat_map summary_words a.entries

regroup : (a b c d e f : List ℕ) → (a ++ b ++ c ++ d ++ e) ++ f ≡ a ++ (b ++ (c ++ (d ++ (e ++ f))))
regroup a b c d e f = simp append_assoc

-- whatever the budget is, its word stands in front of the counts
pub entries_read_holds : (budget : ℕ) (a : Answer) (tail : Bytes) → WordsBelow u32s (answer_words 0 a)
    → entries_read (answer_bytes budget a ++ tail) ≡ a.entries
unfolding answer_bytes answer_words entries_read read_word behind_examined
entries_read_holds budget a tail small =
    let behind = behind_examined a in
    let counts = counted (λ (count : ℕ). count ∷ []) a.counts in
    let entries = counted entry_words a.entries in
    let possible = flat_map (counted figure_words) a.possible in
    let compounds = counted compound_words a.compounds in
    let summaries = flat_map summary_words a.entries in
    let others = possible ++ (compounds ++ (summaries ++ words_read tail)) in
    let after : List ℕ → List Entry = λ words. (read_counted read_entry (read_counted read_word words).1).0 in
    let read : map low behind ≡ behind = low_same behind (record { word = λ w i. small.word w (there i) }) in
    ap (λ (words : List ℕ). after (read_word words).1) (words_read_holds (answer_words budget a) tail)
    ∙ (ap (λ (l : List ℕ). after (l ++ words_read tail)) read
    ∙ (ap after (regroup counts entries possible compounds summaries (words_read tail))
    ∙ (ap (λ (r : List ℕ × List ℕ). (read_counted read_entry r.1).0)
    (counted_read read_word (λ (count : ℕ). count ∷ []) word_reads a.counts (entries ++ others))
    ∙ ap (λ (r : List Entry × List ℕ). r.0) (counted_read read_entry entry_words entry_reads a.entries others))))

-- ---- the numbers of a list that stands alone

-- how many, and then each
unfoldable pub numbers_read : Bytes → List ℕ
numbers_read bytes = (read_counted read_word (words_read bytes)).0

pub numbers_back : (numbers : List ℕ) (tail : Bytes) → WordsBelow u32s (counted (λ (number : ℕ). number ∷ []) numbers)
    → numbers_read (flat_map word_bytes (counted (λ (number : ℕ). number ∷ []) numbers) ++ tail) ≡ numbers
unfolding numbers_read
numbers_back numbers tail small =
    ap (λ (words : List ℕ). (read_counted read_word words).0)
    (words_back (counted (λ (number : ℕ). number ∷ []) numbers) tail small)
    ∙ ap (λ (r : List ℕ × List ℕ). r.0)
    (counted_read read_word (λ (number : ℕ). number ∷ []) word_reads numbers (words_read tail))
