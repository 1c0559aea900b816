-- What a call leaves is its answer: from the numbered lists that its search emitted, split, in order and labelled, to
-- the definition's entries and compounds. At rank 3, where no orbit has compounds, nothing is split; at rank 4 each
-- facet is. Leans on Listed, Facets and Parts.
use Rattle.std.specs.Prelude.{◌≡◌, refl, length}
use Rattle.std.proofs.Math.Path.{sym, ap}
use Rattle.std.proofs.Common.{◌∙◌, subst, arith}
use mathlib.Core.List.{List, [], map, flat_map, map-map}
use Rattle.std.specs.Prelude.{Option}
use Prim.Native.Nat.{ℕ, ◌<◌, compare}
use Rattle.std.proofs.Math.ListN.{get_or}
use Rattle.std.proofs.lemmas.List.{length-map}
use Rattle.definitions.specs.Lists.{Pair, compare_pair, compare_pairs, compare_nats, sort_by, count_from}
use Rattle.definitions.specs.Orbits.{Row}
use Rattle.definitions.specs.Figures.{label_irc, labels_of, compounds_from}
use Rattle.definitions.specs.Search.{Facet, Found}
use Rattle.definitions.specs.Recursion.{Entry}
use Rattle.definitions.specs.Faceting.{compare_entries}
use Rattle.laws.specs.Lists.{Mem, member_at, map_at_holds, of_count}
use Rattle.laws.specs.Sorting.{by_key, sort_map, of_sorted}
use Rattle.laws.specs.Merging.{sort_same, map_count}
use Rattle.laws.specs.Places.{map_same, map_self}
use Rattle.laws.specs.Walks.{compare_numbered, labels_numbered}
use Rattle.order.specs.Areas.{list_at}
use Rattle.order.specs.Numbers.{AllBelow}
use Rattle.splitting.specs.Splitting.{split_list}
use Rattle.shapes.specs.Kept.{Kept, kept_parts, kept_figure, kept_possible, kept_entry, kept_answer}
use Rattle.layout.specs.declared.KeptLayout.{KeptLayout}
use Rattle.layout.specs.declared.Level.{Level}
use Rattle.layout.specs.Keeps.{Keeps, labels_from}
use Rattle.layout.specs.Leaves.{facet_at, both_at, both_left, figure_left, entry_left, answer_left}
use Rattle.entries.specs.Listed.{in_list_order, order_sorts, Listed}
use Rattle.entries.specs.Split.{components_in, split_on}
use Rattle.entries.specs.Facets.{facet_count, ordered}
use Rattle.entries.specs.Parts.{Splittable, parts_below, list_whole}

-- ---- any splitting that is the definition's

module _ (more n : ℕ) (rows : List Row) (kept : List Kept) (split : List ℕ → List ℕ) (emitted : List (List ℕ))
    (splits : (l : List ℕ) → Mem l emitted
    → map (facet_at kept) (split l) ≡ flat_map (kept_parts kept) (map (facet_at kept) l))
    (below : AllBelow (facet_count kept) (map split emitted)) where
  abbrev to : ℕ → Facet
  to = facet_at kept

  abbrev entry : List ℕ × List ℕ → Entry
  entry = entry_left more n rows kept

  abbrev pub lists : List (List ℕ)
  lists = map split emitted

  -- the two lists with a number, and the numbers in the order of the entries
  abbrev both : ℕ → List ℕ × List ℕ
  both k = (get_or lists k [], get_or emitted k [])

  abbrev numbers : List ℕ
  numbers = in_list_order lists

  -- the entry of the emitted list with a number
  abbrev made : ℕ → Entry
  made k = kept_entry more n rows kept (map to (get_or emitted k []))

  many : length lists ≡ length emitted
  many = length-map emitted split

  inside : (k : ℕ) → Mem k (count_from 0 (length lists)) → k < length emitted
  inside k i = omega (arith, (of_count 0 (length lists) k i).1, many)

  number_inside : (k : ℕ) → Mem k numbers → k < length emitted
  unfolding in_list_order
  number_inside k i =
      inside k (of_sorted (by_key compare_nats (λ (j : ℕ). get_or lists j [])) k (count_from 0 (length lists)) i)

  one_entry : (k : ℕ) → k < length emitted → made k ≡ entry (both k)
  unfolding kept_entry entry_left figure_left
  one_entry k h =
      ap (λ (parts : List Facet). record {
        list = parts;
        before = map to (get_or emitted k []);
        figure = kept_figure more n rows kept parts;
      })
      (sym (splits (get_or emitted k []) (member_at emitted k [] h))
      ∙ ap (map to) (sym (map_at_holds split emitted k [] [] h)))

  list_in : (k : ℕ) → k < length emitted → Mem (get_or lists k []) lists
  list_in k h = member_at lists k [] (omega (arith, many))

  same_order : (j : ℕ) → Mem j (count_from 0 (length lists)) → (k : ℕ) → Mem k (count_from 0 (length lists))
      → by_key compare_entries made j k ≡ by_key compare_nats (λ (i : ℕ). get_or lists i []) j k
  unfolding compare_entries compare_pairs compare_nats entry_left
  same_order j i k h =
      ap (λ (e : Entry). compare_entries e (made k)) (one_entry j (inside j i))
      ∙ (ap (compare_entries (entry (both j))) (one_entry k (inside k h))
      ∙ compare_numbered compare compare_pair to (λ (n : ℕ). n < facet_count kept) (ordered kept) (get_or lists j [])
      (get_or lists k [])
      (below (get_or lists j []) (list_in j (inside j i))) (below (get_or lists k []) (list_in k (inside k h))))

  -- in the order of the split lists, equal ones as they were emitted
  entries_are : sort_by compare_entries (map (kept_entry more n rows kept) (map (map to) emitted))
      ≡ map entry (map both numbers)
  unfolding in_list_order
  entries_are =
      ap (λ (ls : List (List ℕ)). sort_by compare_entries (map (kept_entry more n rows kept) (map (map to) ls)))
      (sym (map_count [] emitted))
      ∙ (ap (λ (m : ℕ). sort_by compare_entries (map (kept_entry more n rows kept)
      (map (map to) (map (λ (k : ℕ). get_or emitted k []) (count_from 0 m))))) (sym many)
      ∙ (ap (λ (ls : List (List Facet)). sort_by compare_entries (map (kept_entry more n rows kept) ls))
      (map-map (map to) (λ (k : ℕ). get_or emitted k []) (count_from 0 (length lists)))
      ∙ (ap (sort_by compare_entries) (map-map (kept_entry more n rows kept) (λ (k : ℕ). map to (get_or emitted k []))
      (count_from 0 (length lists)))
      ∙ (sort_map compare_entries made (count_from 0 (length lists))
      ∙ (ap (map made) (sort_same (by_key compare_entries made) (by_key compare_nats (λ (i : ℕ). get_or lists i []))
      (count_from 0 (length lists)) same_order)
      ∙ (map_same made (λ (k : ℕ). entry (both k)) numbers (λ k i. one_entry k (number_inside k i))
      ∙ sym (map-map entry both numbers)))))))

  entry_lists : map (λ (e : Entry). e.list) (map entry (map both numbers)) ≡ map (map to) (sort_by compare_nats lists)
  unfolding entry_left
  entry_lists =
      map-map (λ (e : Entry). e.list) entry (map both numbers)
      ∙ (map-map (λ (b : List ℕ × List ℕ). map to b.0) both numbers
      ∙ (sym (map-map (map to) (λ (k : ℕ). get_or lists k []) numbers) ∙ ap (map (map to)) (order_sorts lists)))

  compounds_are : label_irc compare_pair (map (λ (e : Entry). e.list) (map entry (map both numbers)))
      ≡ compounds_from 0 (labels_of compare (sort_by compare_nats lists))
  unfolding label_irc
  compounds_are =
      ap (label_irc compare_pair) entry_lists
      ∙ labels_numbered compare compare_pair to (λ (n : ℕ). n < facet_count kept) (ordered kept)
      (sort_by compare_nats lists) (λ l m. below l (of_sorted compare_nats l lists m))

  pub left_answer_holds : (found : Found) → found.lists ≡ map (map to) emitted
      → (layout : KeptLayout) (from origin extent at bytes : ℕ) (s t : List ℕ) (level : Level)
      → Listed layout from origin extent at bytes emitted lists s level t
      → answer_left more n rows kept level t found.left ≡ kept_answer more n rows kept found
  unfolding answer_left kept_answer both_left both_at list_at
  left_answer_holds found e layout from origin extent at bytes s t level l =
      let both-are : both_left level t ≡ map both numbers =
      λ i. map (λ (k : ℕ). (get_or (l.split_are i) k [], get_or (l.emitted_are_holds i) k [])) (l.order_is i) in
      let made-are : map entry (map both numbers)
      ≡ sort_by compare_entries (map (kept_entry more n rows kept) found.lists) =
      sym entries_are
      ∙ ap (λ (ls : List (List Facet)). sort_by compare_entries (map (kept_entry more n rows kept) ls)) (sym e) in
      let entries : map entry (both_left level t)
      ≡ sort_by compare_entries (map (kept_entry more n rows kept) found.lists) = ap (map entry) both-are
      ∙ made-are in
      let compounds : compounds_from 0 _ ≡ label_irc compare_pair
      (map (λ (x : Entry). x.list) (sort_by compare_entries (map (kept_entry more n rows kept) found.lists))) =
      ap (compounds_from 0) l.labels_are ∙ (sym compounds_are
      ∙ ap (λ (es : List Entry). label_irc compare_pair (map (λ (x : Entry). x.list) es)) made-are) in
      λ i. record {
        counts = map (λ (k : Kept). k.orbit.count) kept;
        entries = entries i;
        possible = map (kept_possible more) kept;
        compounds = compounds i;
        left = found.left;
      }

-- ---- the two ranks

-- numbered lists that a search emitted, beside what is kept
module _ (n : ℕ) (layout : KeptLayout) (kept : List Kept) (s : List ℕ) (keeps : Keeps n layout kept s)
    (emitted : List (List ℕ)) (below : AllBelow layout.facets emitted) where
  pub all_below : AllBelow (facet_count kept) emitted
  all_below = subst (λ (b : ℕ). AllBelow b emitted) keeps.facets below

  pub table_is : components_in layout s ≡ labels_from 0 kept
  unfolding components_in
  table_is = keeps.labels

  pub lists_are : map (split_on layout s) emitted ≡ map (split_list 380 (labels_from 0 kept)) emitted
  lists_are = ap (λ (table : List (Option Pair)). map (split_list 380 table) emitted) table_is

  -- what `split_entries` is asked of the split lists
  pub split_numbers : ((k : Kept) → Mem k kept → Splittable k)
      → AllBelow layout.facets (map (split_on layout s) emitted)
  split_numbers each =
      subst (λ (b : ℕ). AllBelow b (map (split_on layout s) emitted)) (sym keeps.facets)
      (subst (AllBelow (facet_count kept)) (sym lists_are) (parts_below kept each emitted all_below))

  module _ (more : ℕ) (rows : List Row) (found : Found) (is : found.lists ≡ map (map (facet_at kept)) emitted)
      (from origin extent at bytes : ℕ) (level : Level) (t : List ℕ) where
    -- where no orbit has compounds, the emitted lists are the entries'
    pub left_whole : ((k : Kept) → Mem k kept → k.compounds ≡ [])
        → Listed layout from origin extent at bytes emitted emitted s level t
        → answer_left more n rows kept level t found.left ≡ kept_answer more n rows kept found
    left_whole plain l =
        left_answer_holds more n rows kept (λ (l : List ℕ). l) emitted
        (λ l m. sym (list_whole kept plain (map (facet_at kept) l)))
        (subst (AllBelow (facet_count kept)) (sym itself) all_below) found is layout from origin extent at bytes s t
        level
        (subst (λ (ls : List (List ℕ)). Listed layout from origin extent at bytes emitted ls s level t) (sym itself) l)
      where
        itself : map (λ (l : List ℕ). l) emitted ≡ emitted
        itself = map_self (λ (l : List ℕ). l) emitted (λ l m. refl)
