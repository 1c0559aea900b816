-- What is promised of the plain entries [18.4], from the two equations of the exported function: the numbers that
-- stand in its buffer, beside the entries read back from the bytes of the first call's answer. Leans on Reading, on
-- what an answered job says, and on Filtered.
use Rattle.std.specs.Prelude.{◌≡◌, refl, ℕ, ◌-◌, ◌<◌, ltb, ℤ, Option}
use Rattle.std.proofs.Common.{sym, ◌∙◌, arith}
use Rattle.std.proofs.Math.Path.{ap, subst}
use mathlib.Core.List.{List, [], ◌∷◌, ◌++◌, flat_map, append-nil, Memᴰ}
use Rattle.std.proofs.Math.ListN.{length, replicate}
use Rattle.std.proofs.lemmas.List.{length-map}
use Rattle.definitions.specs.Lists.{Pair, compare_pair}
use Rattle.definitions.specs.Outcome.{Outcome, answered}
use Rattle.definitions.specs.Recursion.{Entry, Answer}
use Rattle.definitions.specs.Job.{Bytes, read_job, tests, bounds1, call_of, counted, figure_words, entry_words}
use Rattle.definitions.specs.Job.{compound_words, summary_words, answer_words, fitting, outcome, code_of, buffer_of}
use Rattle.definitions.specs.Prices.{answer_of}
use Rattle.definitions.specs.Plain.{filter_irc, split_lists, plain_of, plain_bytes, plain_alone, plain_ones, LeftOut}
use Rattle.laws.specs.Lists.{Mem, here, in_left, in_right}
use Rattle.laws.specs.Orders.{pairs}
use Rattle.laws.specs.Outcomes.{answered_before, not_refused_if}
use Rattle.laws.specs.Refusals.{answered_passed}
use Rattle.laws.specs.Filtered.{left_out_holds}
use Rattle.shapes.specs.Answered.{answers_equal}
use Rattle.shapes.specs.FigureNumbers.{WordsBelow}
use Rattle.shapes.specs.JobWords.{u32s}
use Rattle.shapes.proofs.JobWords.{job_words}
use Rattle.answering.specs.Closed.{written_in, buffer_in}
use Rattle.answering.specs.Codes.{code_written, written_code}
use Rattle.plain.specs.Numbers.{few_kept, place_kept, flat_self}
use Rattle.register.specs.Reading.{entries_read, numbers_read, numbers_back}
use Rattle.register.specs.Demands.{called, entries_in_holds}

-- ---- code and buffer, by what came of the job

pub plain_code : (job : Bytes) (workspace room : ℕ) {w : Outcome (Option ℕ)}
    → w ≡ written_in room (plain_alone job workspace) → code_written w ≡ code_of (plain_ones job workspace room)
unfolding plain_ones
plain_code job workspace room e = written_code room (plain_alone job workspace) e

pub plain_buffer : (job : Bytes) (workspace room : ℕ)
    → buffer_in room (plain_alone job workspace) ≡ buffer_of room (plain_ones job workspace room)
unfolding buffer_in plain_ones
plain_buffer job workspace room = refl

-- ---- the words are u32

-- how many entries there are is a word of the answer
few_entries_holds : (a : Answer) → WordsBelow u32s (answer_words 0 a) → length a.entries < u32s
unfolding answer_words counted
few_entries_holds a small =
    let many = length a.entries in
    let counts = (0 - a.left) ∷ counted (λ (count : ℕ). count ∷ []) a.counts in
    let entries = counted entry_words a.entries in
    let possible = flat_map (counted figure_words) a.possible in
    let compounds = counted compound_words a.compounds in
    let summaries = flat_map summary_words a.entries in
    small.word many (in_left many (counts ++ entries ++ possible ++ compounds) summaries
    (in_left many (counts ++ entries ++ possible) compounds
    (in_left many (counts ++ entries) possible (in_right many counts entries (here refl)))))

plain_small : (a : Answer) → WordsBelow u32s (answer_words 0 a)
    → WordsBelow u32s (counted (λ (number : ℕ). number ∷ []) (plain_of a))
unfolding plain_of counted split_lists
plain_small a small = record { word = each }
  where
    lists : List (List Pair)
    lists = split_lists a.entries

    each : (w : ℕ) → Mem w (length (filter_irc compare_pair lists)
        ∷ flat_map (λ (number : ℕ). number ∷ []) (filter_irc compare_pair lists)) → w < u32s
    each w (Memᴰ.head e) =
        omega
        (arith, few_kept compare_pair lists, few_entries_holds a small, length-map a.entries (λ (x : Entry). x.list))
    each w (Memᴰ.tail m) =
        omega (
          arith,
          place_kept compare_pair lists w (subst (Mem w) (flat_self (filter_irc compare_pair lists)) m),
          few_entries_holds a small,
          length-map a.entries (λ (x : Entry). x.list),
        )

-- ---- what is left out

-- the answer whose plain entries these bytes tell
plain_told : (job : Bytes) (workspace room : ℕ) (written : Bytes) → plain_ones job workspace room ≡ answered written
    → (a : Answer) × (call_of bounds1 (read_job job) ≡ answered a) × (written ≡ plain_bytes a)
unfolding plain_ones plain_alone answer_of fitting
plain_told job workspace room written e =
    let next : Answer → Outcome Bytes = λ a. answered (plain_bytes a) in
    let fits = answered_before (plain_alone job workspace) (fitting room) written e in
    let same = answers_equal fits.0 written
    (not_refused_if (ltb room (length fits.0)) 17 (λ u. answered fits.0) written fits.2).1 in
    let call = answered_before (answer_of job workspace) next fits.0 fits.1 in
    let passed = answered_passed (tests job workspace) (λ u. call_of bounds1 (read_job job)) call.0 call.1 in
    (call.0, passed.1, sym same ∙ sym (answers_equal (plain_bytes call.0) fits.0 call.2))

kept_left_out : (a : Answer) → LeftOut (split_lists a.entries) (plain_of a)
unfolding plain_of
kept_left_out a = left_out_holds compare_pair pairs (split_lists a.entries)

module _ (job : Bytes) (workspace room : ℕ) {code : ℤ} {buffer : Bytes}
    (code_is : code ≡ code_of (plain_ones job workspace room))
    (buffer_is : buffer ≡ buffer_of room (plain_ones job workspace room)) where
  pub meets_left_out : (written : Bytes) → plain_ones job workspace room ≡ answered written
      → (first : ℕ) (answer : Bytes) → outcome job workspace first ≡ answered answer
      → LeftOut (split_lists (entries_read answer)) (numbers_read buffer)
  unfolding buffer_of plain_bytes
  meets_left_out written e first answer o =
      let c = called job workspace first answer o in
      let p = plain_told job workspace room written e in
      let a = c.given in
      let same : p.0 ≡ a = answers_equal p.0 a (sym p.1 ∙ c.is_given) in
      let tail : Bytes = replicate (room - length written) 0 in
      let whole : buffer ≡ plain_bytes a ++ tail = buffer_is
      ∙ (ap (buffer_of room) e ∙ ap (λ (l : Bytes). l ++ tail) (p.2 ∙ ap plain_bytes same)) in
      let numbers : numbers_read buffer ≡ plain_of a = ap numbers_read whole ∙ numbers_back (plain_of a) tail
      (plain_small a (job_words job c.passed c.ranked a c.is_given 0 (omega arith))) in
      let entries : entries_read answer ≡ a.entries = ap entries_read (sym (append-nil answer))
      ∙ entries_in_holds job answer [] c in
      subst (LeftOut (split_lists (entries_read answer))) (sym numbers)
      (subst (λ (es : List Entry). LeftOut (split_lists es) (plain_of a)) (sym entries) (kept_left_out a))

  -- the three clauses of the exported function, from its two equations
  pub meets_plain : (code ≡ code_of (plain_ones job workspace room))
      × ((buffer ≡ buffer_of room (plain_ones job workspace room))
      × ((written : Bytes) → plain_ones job workspace room ≡ answered written → (first : ℕ) (answer : Bytes)
      → outcome job workspace first ≡ answered answer
      → LeftOut (split_lists (entries_read answer)) (numbers_read buffer)))
  meets_plain = (code_is, (buffer_is, meets_left_out))
