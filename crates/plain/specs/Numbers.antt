-- The numbers of the plain entries, from what a call leaves: `filter_irc` on the numbered lists keeps the places that
-- the definition keeps of the entries' split lists, and they are read back from where they were put. Leans on
-- Filtered and on what a call leaves.
use Rattle.std.specs.Prelude.{◌≡◌, Bool, true, false, length, take, drop}
use Rattle.std.proofs.Math.Path.{refl, sym, ap}
use Rattle.std.proofs.Common.{◌∙◌, subst, length-drop, drop-drop}
use Rattle.std.proofs.Math.Bool.{not}
use mathlib.Core.List.{List, [], ◌∷◌, ◌++◌, map, flat_map, map-map}
use Prim.Native.Nat.{ℕ, ◌+◌, ◌*◌, ◌-◌, ◌^◌, ◌≤◌, ◌<◌, compare, Ordering}
use native.Mathlib.Omega.{arith}
use Rattle.std.proofs.lemmas.List.Edits.{sets}
use Rattle.std.proofs.Math.Seq.{length-sets}
use Rattle.definitions.specs.Lists.{compare_pair, any_of, keep, count_from}
use Rattle.definitions.specs.Orbits.{Row}
use Rattle.definitions.specs.Recursion.{Entry, Answer, swapped_ends, separate_ends}
use Rattle.definitions.specs.Job.{number_at, counted}
use Rattle.definitions.specs.Plain.{finds_other, filter_irc, split_lists, plain_of}
use Rattle.laws.specs.Lists.{Mem, kept, keep_few, of_count, count_length}
use Rattle.laws.specs.Filtered.{filter_numbered}
use Rattle.words.specs.Words.{words, words_length, words_more, number_at_drop}
use Rattle.words.specs.Runs.{run, words_sets}
use Rattle.words.specs.Lent.{lent_tail, back_tail, back_length}
use Rattle.order.specs.Areas.{HoldsOrder, lists_in, lists_length}
use Rattle.order.specs.Numbers.{AllBelow, AllAscending}
use Rattle.shapes.specs.Kept.{Kept}
use Rattle.layout.specs.declared.Level.{Level}
use Rattle.layout.specs.Leaves.{Leaves, facet_at, lists_left, both_left, lists_of_both, entry_left, answer_left}
use Rattle.entries.specs.Facets.{facet_count, ordered}
use Rattle.filter.specs.Found.{Filters}
use Rattle.kept_edges.specs.Edges.{edge_answer}

-- how many numbers, and each
unfoldable pub number_words : List ℕ → List ℕ
number_words numbers = counted (λ (number : ℕ). number ∷ []) numbers

-- the words that are written of an answer [18.3]
unfoldable pub plain_words : Answer → List ℕ
plain_words a = number_words (plain_of a)

-- ---- rank 2: one entry, in which there is no other

pub one_entry : (swapped : Bool) (rest : ℕ) → plain_words (edge_answer swapped rest) ≡ 1 ∷ 0 ∷ []
unfolding plain_words number_words counted flat_map plain_of split_lists filter_irc finds_other edge_answer
    swapped_ends separate_ends keep any_of count_from
one_entry true rest = refl
one_entry false rest = refl

-- ---- what is kept are places of the lists

module _ {A : Type 0} (c : A → A → Ordering) (lists : List (List A)) where
  pub few_kept : length (filter_irc c lists) ≤ length lists
  unfolding filter_irc
  few_kept =
      let f = keep_few (λ (a : ℕ). not (finds_other c lists a)) (count_from 0 (length lists)) in
      let n = count_length 0 (length lists) in
      omega arith

  pub place_kept : (n : ℕ) → Mem n (filter_irc c lists) → n < length lists
  unfolding filter_irc
  place_kept n m =
      let k = (of_count 0 (length lists) n
      (kept (λ (a : ℕ). not (finds_other c lists a)) n (count_from 0 (length lists)) m).0).1 in
      omega arith

-- ---- above rank 2: what a call leaves

module _ {more n : ℕ} {rows : List Row} {kept : List Kept} {level : Level} {s : List ℕ}
    (l : Leaves more n rows kept level s) where
  -- the lists from where they begin, as they are lent
  abbrev lent : List ℕ
  lent = take (length s - level.lists) (drop level.lists s)

  abbrev numbers_left : List ℕ
  numbers_left = filter_irc compare (lists_left level s)

  same_lent : lent ≡ drop level.lists s
  same_lent = lent_tail level.lists s

  pub lists_inside : level.lists ≤ length s
  lists_inside = omega (arith, l.room)

  many_lists : length (lists_left level s) ≡ level.count
  many_lists = lists_length 1024 level.bytes level.count (drop level.lists s)

  -- what `filter_irc` is asked
  pub filter_asked : Filters (record {
    most = 1024;
    bytes = level.bytes;
    count = level.count;
  }) (level.bytes + 2048) lent
  filter_asked = record {
    holds = subst (HoldsOrder 1024 level.bytes level.count) (sym same_lent) l.area;
    ascends = subst (λ (t : List ℕ). AllAscending (lists_in 1024 level.bytes level.count t)) (sym same_lent) l.ascends;
    few = l.few_entries;
    behind = omega (arith, l.few_entries);
    room = rw same_lent (omega (arith, l.room, length-drop level.lists s));
  }

  module _ (many : ℕ) (p : List ℕ) (many_is : many
      ≡ length (filter_irc compare (lists_in 1024 level.bytes level.count lent)))
      (put : p ≡ sets lent (level.bytes + 2048)
      (run 4 (filter_irc compare (lists_in 1024 level.bytes level.count lent)))) where
    -- the workspace with the lists given back
    abbrev back : List ℕ
    back = take level.lists s ++ (p ++ drop (length s - level.lists) (drop level.lists s))

    put_is : p ≡ sets (drop level.lists s) (level.bytes + 2048) (run 4 numbers_left)
    put_is = rw same_lent at put

    as_many : many ≡ length numbers_left
    as_many = rw same_lent at many_is

    long : length p ≡ length (drop level.lists s)
    long = ap length put_is ∙ length-sets (drop level.lists s) (level.bytes + 2048) (run 4 numbers_left)

    -- what `write_numbers` is asked
    pub numbers_asked : (level.lists + (level.bytes + 2048) + 4 * many ≤ length back) × (many < 4294967296)
    numbers_asked =
        let f = few_kept compare (lists_left level s) in
        let b = back_length level.lists s p lists_inside long in
        (omega (arith, l.room, as_many, many_lists), omega (arith, l.few_entries, as_many, many_lists))

    numbers_are : words 4 (drop (level.lists + (level.bytes + 2048)) back) many ≡ numbers_left
    numbers_are =
        let f = few_kept compare (lists_left level s) in
        let tail : drop (level.lists + (level.bytes + 2048)) back
        ≡ drop (level.bytes + 2048) p = sym (drop-drop (level.bytes + 2048) level.lists back)
        ∙ ap (drop (level.bytes + 2048)) (back_tail level.lists s p lists_inside long) in
        ap (λ (t : List ℕ). words 4 t many) (tail ∙ ap (drop (level.bytes + 2048)) put_is)
        ∙ (ap (words 4
        (drop (level.bytes + 2048) (sets (drop level.lists s) (level.bytes + 2048) (run 4 numbers_left)))) as_many
        ∙ words_sets 4 (drop level.lists s) (level.bytes + 2048) numbers_left
        (omega (arith, l.room, many_lists, length-drop level.lists s)) small)
      where
        small : (x : ℕ) → Mem x numbers_left → x < 256 ^ 4
        small x m = omega (arith, place_kept compare (lists_left level s) x m, many_lists, l.few_entries)

    module _ (rest : ℕ) where
      -- the entries' split lists are the numbered ones, by facets
      split_are : split_lists (answer_left more n rows kept level s rest).entries
          ≡ map (map (facet_at kept)) (lists_left level s)
      unfolding answer_left split_lists entry_left
      split_are =
          let both = both_left level s in
          map-map (λ (e : Entry). e.list) (entry_left more n rows kept) both
          ∙ (sym (map-map (map (facet_at kept)) (λ (b : List ℕ × List ℕ). b.0) both)
          ∙ ap (map (map (facet_at kept))) (lists_of_both level s))

      below : AllBelow (facet_count kept) (lists_left level s)
      below = subst (λ (b : ℕ). AllBelow b (lists_left level s)) l.keeps.facets l.numbers

      plain_are : plain_of (answer_left more n rows kept level s rest) ≡ numbers_left
      unfolding plain_of
      plain_are =
          ap (filter_irc compare_pair) split_are
          ∙ filter_numbered compare compare_pair (facet_at kept) (λ (x : ℕ). x < facet_count kept) (ordered kept)
          (lists_left level s) below

      -- and what it writes are the words of [18.3]
      pub words_are : number_words (words 4 (drop (level.lists + (level.bytes + 2048)) back) many)
          ≡ plain_words (answer_left more n rows kept level s rest)
      unfolding plain_words
      words_are = ap number_words (numbers_are ∙ sym plain_are)

-- ---- the words, one by one

module _ (s : List ℕ) where
  pub words_none : [] ≡ words 4 s 0
  unfolding words
  words_none = refl

  pub words_next : (from i v : ℕ) → v ≡ number_at s (from + 4 * i) 4
      → words 4 (drop from s) i ++ (v ∷ []) ≡ words 4 (drop from s) (i + 1)
  words_next from i v e =
      ap (λ (x : ℕ). words 4 (drop from s) i ++ (x ∷ [])) (e ∙ sym (number_at_drop s from (4 * i) 4))
      ∙ sym (words_more 4 (drop from s) i)

pub flat_self : (l : List ℕ) → flat_map (λ (number : ℕ). number ∷ []) l ≡ l
unfolding flat_map
flat_self [] = refl
flat_self (x ∷ l) = ap (λ (r : List ℕ). x ∷ r) (flat_self l)

pub number_words_holds : (s : List ℕ) (i many : ℕ) → i ≡ many
    → (many ∷ []) ++ words 4 s i ≡ number_words (words 4 s many)
unfolding number_words counted
number_words_holds s i many e =
    ap (λ (k : ℕ). many ∷ words 4 s k) e ∙ (ap (λ (k : ℕ). k ∷ words 4 s many) (sym (words_length 4 s many))
    ∙ ap (λ (r : List ℕ). length (words 4 s many) ∷ r) (sym (flat_self (words 4 s many))))
