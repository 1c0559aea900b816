-- Demand 3 of one call above rank 2, sentence by sentence: what it has before its search decides its entries. No
-- rank, no tolerance and no point is mentioned: only the table that is searched.
use Rattle.std.specs.Prelude.{◌≡◌, Bool, false, not, length, take}
use Rattle.std.proofs.Math.Path.{refl, ap, subst}
use Rattle.std.proofs.Common.{sym, ◌∙◌, arith, length-take}
use Rattle.std.proofs.Math.Bool.{true}
use mathlib.Core.List.Permᴰ
use mathlib.Core.List.{List, [], map, Nodup, Permᴰ, map-map, Pairwise}
use Rattle.std.specs.Prelude.{Option, Some, None}
use Prim.Native.Nat.{ℕ, ◌-◌, min, max}
use Rattle.std.proofs.Math.Dec.{T}
use Rattle.std.proofs.lemmas.List.{length-map}
use Rattle.definitions.specs.Lists.{is_gt, compare_pairs, sort_by}
use Rattle.definitions.specs.Outcome.{answered}
use Rattle.definitions.specs.Search.{Facet, Table, Found}
use Rattle.definitions.specs.Recursion.{Rules, Entry}
use Rattle.definitions.specs.Faceting.{Prepared, table_for, entry_of, entries_of, compare_entries, entry_limits}
use Rattle.definitions.specs.Faceting.{search_from}
use Rattle.definitions.specs.Demands.{choice_of, is_closed_choice, is_order_of, equal_shares, EntryOfChoice, choices_of}
use Rattle.definitions.specs.Demands.{AllClosedChoices, EntriesComplete}
use Rattle.definitions.specs.Noble.{AllMinimalChoices}
use Rattle.definitions.specs.NobleCalls.{MinimalEntries}
use Rattle.laws.specs.Lists.{Mem, in_map, of_map}
use Rattle.laws.specs.Orders.{pair_lists}
use Rattle.laws.specs.Pairs.{Pairs, pairs→nodup, pairs_take, in_take}
use Rattle.laws.specs.Sorting.{perm_member, perm_length, pairs_perm, sort_perm, sort_map, sort_ascends, by_key}
use Rattle.completeness.specs.Walk.{closed_lists, cut, search_emits}
use Rattle.completeness.specs.Taken.{emitted_order, in_choice, of_choice}
use Rattle.completeness.specs.Choices.{closed_choice_of, same_choice, order_members}
use Rattle.completeness.specs.Complete.{every_choice}
use Rattle.completeness.specs.OneOrder.{one_order}
use Rattle.completeness.specs.Unique.{Other, lists_differ, choices_differ}
use Rattle.completeness.specs.Minimal.{minimal_choices}

-- ---- the choices of all emitted lists

abbrev NotSame : List Facet → List Facet → Type 0
NotSame c d = c ≡ d → ⊥

not_same_flip : (c d : List Facet) → NotSame c d → NotSame d c
not_same_flip c d n e = n (sym e)

-- an order of a closed choice has that choice
pub choice_of_order : (t : Table) (c e : List Facet) → T (is_closed_choice t c) → Mem e (closed_lists true t)
    → T (is_order_of t [] c e) → choice_of e ≡ c
choice_of_order t c e closed-c emitted order =
    let r = emitted_order true t e emitted in
    let m = order_members t [] c e order in
    same_choice (choice_of e) c (closed_choice_of t (choice_of e) r.1).ascending
    (closed_choice_of t c closed-c).ascending
    (λ f h. m.0 f (of_choice f e h)) (λ f h. in_choice f e (m.1 f h))

-- the emitted lists, in any order, have every closed choice just once
pub all_choices : (t : Table) → T (equal_shares t) → (lists : List (List Facet)) → Permᴰ (closed_lists true t) lists
    → AllClosedChoices t (map choice_of lists)
all_choices t equal lists perm = record {
  once =
      pairs→nodup (map choice_of lists) (pairs_perm NotSame not_same_flip (Permᴰ.map choice_of perm)
      (choices_differ (closed_lists true t) (lists_differ true t equal)));
  these = λ c. (into c, out c);
}
  where
    into : (c : List Facet) → T (is_closed_choice t c) → Mem c (map choice_of lists)
    into c h =
        let r = every_choice t c h in
        subst (λ (d : List Facet). Mem d (map choice_of lists)) (choice_of_order t c r.0 h r.1 r.2)
        (in_map choice_of r.0 lists (perm_member perm r.0 r.1))

    out : (c : List Facet) → Mem c (map choice_of lists) → T (is_closed_choice t c)
    out c h =
        let r = of_map choice_of c lists h in
        subst (λ (d : List Facet). T (is_closed_choice t d)) (sym r.2)
        (emitted_order true t r.0 (perm_member (Permᴰ.symm perm) r.0 r.1)).1

-- ---- the entries of a call

module _ (rules : Rules) (p : Prepared) (found : Found) (is_found_holds : search_from rules p ≡ answered found) where
  abbrev t : Table
  t = table_for p

  abbrev entries : List Entry
  entries = entries_of p found.lists

  -- the emitted lists in the order of their entries
  abbrev sorted : List (List Facet)
  sorted = sort_by (by_key compare_entries (entry_of p)) found.lists

  emitted_cut : found.lists ≡ cut rules.entry_limit 0 (closed_lists p.extended t)
  unfolding search_from entry_limits
  emitted_cut = search_emits t (entry_limits rules p.extended) p.left found is_found_holds

  entries_sorted : entries ≡ map (entry_of p) sorted
  unfolding entries_of
  entries_sorted = sort_map compare_entries (entry_of p) found.lists

  sorted_perm : Permᴰ sorted found.lists
  sorted_perm = sort_perm (by_key compare_entries (entry_of p)) found.lists

  -- what is emitted is among the closed lists of the tree, whatever the limit
  in_tree : (l : List Facet) → Mem l sorted → Mem l (closed_lists p.extended t)
  unfolding cut
  in_tree l h =
      go rules.entry_limit (subst (λ (s : List (List Facet)). Mem l s) emitted_cut (perm_member sorted_perm l h))
    where
      go : (limit : Option ℕ) → Mem l (cut limit 0 (closed_lists p.extended t)) → Mem l (closed_lists p.extended t)
      go None k = k
      go (Some m) k = in_take (max (m - 0) 1) l (closed_lists p.extended t) k

  of_entry : (e : Entry) → Mem e entries → (l : List Facet) × Mem l sorted × (e ≡ entry_of p l)
  of_entry e h = of_map (entry_of p) e sorted (subst (λ (s : List Entry). Mem e s) entries_sorted h)

  -- the choices that the records name are those of the emitted lists
  choices_sorted : choices_of entries ≡ map choice_of sorted
  unfolding choices_of entry_of
  choices_sorted = ap choices_of entries_sorted ∙ map-map (λ (e : Entry). choice_of e.before) (entry_of p) sorted

  entries_length : length entries ≡ length found.lists
  entries_length = ap length entries_sorted ∙ length-map sorted (entry_of p) ∙ perm_length sorted_perm

  own_choice : (l : List Facet) → Mem l sorted
      → T (is_closed_choice t (choice_of l)) × EntryOfChoice p (entry_of p l) (choice_of l)
  unfolding entry_of
  own_choice l h = let r = emitted_order p.extended t l (in_tree l h) in (r.1, record { taken_so = r.0; entry = refl })

  every_entry : (e : Entry) → Mem e entries
      → T (is_closed_choice t (choice_of e.before)) × EntryOfChoice p e (choice_of e.before)
  unfolding entry_of
  every_entry e h =
      let r = of_entry e h in
      subst (λ (x : Entry). T (is_closed_choice t (choice_of x.before)) × EntryOfChoice p x (choice_of x.before))
      (sym r.2) (own_choice r.0 r.1)

  ascend : Pairwise (λ (d e : Entry). T (not (is_gt (compare_entries d e)))) entries
  unfolding entries_of compare_entries
  ascend = sort_ascends compare_pairs pair_lists (λ (e : Entry). e.list) (map (entry_of p) found.lists)

  -- ---- closed lists are extended

  module _ (plain : p.extended ≡ true) where
    plain_cut : found.lists ≡ cut rules.entry_limit 0 (closed_lists true t)
    plain_cut = emitted_cut ∙ ap (λ (extended : Bool). cut rules.entry_limit 0 (closed_lists extended t)) plain

    -- without a limit
    all_emitted : rules.entry_limit ≡ None → Permᴰ (closed_lists true t) sorted
    unfolding cut
    all_emitted e =
        subst (λ (s : List (List Facet)). Permᴰ s sorted) (plain_cut
        ∙ ap (λ (limit : Option ℕ). cut limit 0 (closed_lists true t)) e) (Permᴰ.symm sorted_perm)

    has_entry : rules.entry_limit ≡ None → (c : List Facet) → T (is_closed_choice t c)
        → (e : Entry) × Mem e entries × EntryOfChoice p e c
    unfolding entry_of
    has_entry e c h =
        let r = every_choice t c h in (
          entry_of p r.0,
          subst (λ (s : List Entry). Mem (entry_of p r.0) s) (sym entries_sorted)
              (in_map (entry_of p) r.0 sorted (perm_member (all_emitted e) r.0 r.1)),
          record { taken_so = r.2; entry = refl },
        )

    -- with a limit m

    some_emitted : (m : ℕ) → rules.entry_limit ≡ Some m → found.lists ≡ take (max (m - 0) 1) (closed_lists true t)
    unfolding cut
    some_emitted m e = plain_cut ∙ ap (λ (limit : Option ℕ). cut limit 0 (closed_lists true t)) e

    entries_number : (m : ℕ) → rules.entry_limit ≡ Some m
        → length entries ≡ min (max m 1) (length (closed_lists true t))
    entries_number m e =
        let a : max (m - 0) 1 ≡ max m 1 = omega arith in
        entries_length ∙ ap length (some_emitted m e) ∙ length-take (max (m - 0) 1) (closed_lists true t)
        ∙ ap (λ (n : ℕ). min n (length (closed_lists true t))) a

    differ : (m : ℕ) → rules.entry_limit ≡ Some m → T (equal_shares t) → Nodup (map choice_of sorted)
    differ m e equal =
        pairs→nodup (map choice_of sorted)
        (pairs_perm NotSame not_same_flip (Permᴰ.map choice_of (Permᴰ.symm sorted_perm))
        (choices_differ found.lists (subst (Pairs Other) (sym (some_emitted m e))
        (pairs_take Other (max (m - 0) 1) (closed_lists true t) (lists_differ true t equal)))))

    pub entries_complete : EntriesComplete rules.entry_limit p found.lists entries
    entries_complete = record {
      every_entry = every_entry;
      every_choice = has_entry;
      one_to_one =
          λ e equal. subst (AllClosedChoices t) (sym choices_sorted) (all_choices t equal sorted (all_emitted e));
      one_order = one_order t;
      at_most = λ m e. let n = entries_number m e in omega arith;
      different_choices = λ m e equal. subst Nodup (sym choices_sorted) (differ m e equal);
      number = λ m e equal. (
        map choice_of (closed_lists true t),
        all_choices t equal (closed_lists true t) (Permᴰ.refl (closed_lists true t)),
        entries_number m e
            ∙ ap (min (max m 1)) (sym (length-map (closed_lists true t) choice_of)),
      );
      ascending = ascend;
      exactly = refl;
    }

  -- ---- closed lists are not extended

  module _ (shortened : p.extended ≡ false) where
    all_minimal : rules.entry_limit ≡ None → Permᴰ (closed_lists false t) sorted
    unfolding cut
    all_minimal e =
        subst (λ (s : List (List Facet)). Permᴰ s sorted)
        (emitted_cut ∙ (λ i. cut (e i) 0 (closed_lists (shortened i) t))) (Permᴰ.symm sorted_perm)

    -- what is demanded of a call with a package
    pub minimal_entries : MinimalEntries rules.entry_limit p found.lists entries
    minimal_entries = record {
      every_entry = every_entry;
      minimal =
          λ e equal.
          subst (AllMinimalChoices t) (sym choices_sorted) (minimal_choices t equal sorted (all_minimal e));
      ascending = ascend;
      exactly = refl;
    }
