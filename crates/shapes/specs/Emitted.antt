-- What the lists that a call emits hold: facets that the call has, at most one from an orbit. And the call's entries,
-- which are those lists split. Leans on Answered.
use Rattle.std.specs.Prelude.{◌≡◌, refl, ℕ, zero, suc, ◌-◌, ◌≤◌, ◌<◌, max, ltb, length, get_or}
use Rattle.std.proofs.Common.{ap, ◌∙◌, subst, arith, ltb→lt}
use Rattle.std.specs.Prelude.{Option, Some, None}
use mathlib.Core.List.{List, [], ◌∷◌, map, zip_with}
use Rattle.std.proofs.Math.ListN.{length-map}
use Rattle.definitions.specs.Lists.{map_with}
use Rattle.definitions.specs.Outcome.{answered}
use Rattle.definitions.specs.Orbits.{Row}
use Rattle.definitions.specs.Search.{Facet, Found, all_facets}
use Rattle.definitions.specs.Recursion.{Rules, Entry, Inner, no_ridges, number_ridge, number_ridges, share_of}
use Rattle.definitions.specs.Recursion.{facet_shares, table_of}
use Rattle.definitions.specs.Faceting.{Prepared, table_for, entry_limits, search_from, entry_of, entries_of}
use Rattle.definitions.specs.Faceting.{compare_entries}
use Rattle.definitions.specs.Demands.{is_possible, choice_of}
use Rattle.laws.specs.Bools.{second}
use Rattle.laws.specs.Lists.{Mem, of_map}
use Rattle.laws.specs.Pairs.{Pairs, in_take}
use Rattle.laws.specs.Sorting.{of_sorted, perm_length, sort_perm}
use Rattle.completeness.specs.Facets.{facet_possible}
use Rattle.completeness.specs.Walk.{closed_lists, cut, search_emits}
use Rattle.completeness.specs.Taken.{OtherOrbit, choice_perm, emitted_order, in_choice}
use Rattle.completeness.specs.Choices.{ClosedChoice, closed_choice_of}
use Rattle.shapes.specs.Answered.{facet_number, search_few}

-- ---- the table's facets are the call's

pub map_with_length : {A B S : Type 0} (f : S → A → B × S) (s : S) (l : List A) → length (map_with f s l).0 ≡ length l
unfolding map_with
map_with_length f s [] = refl
map_with_length f s (x ∷ l) = ap suc (map_with_length f (f s x).1 l)

zip_lengths : {A B C : Type 0} (g : A → B → List C) (size : A → ℕ) (xs : List A) (ys : List B)
    → ((x : A) (y : B) → length (g x y) ≡ size x) → length ys ≡ length xs
    → (i : ℕ) → length (get_or (zip_with g xs ys) i []) ≡ get_or (map size xs) i 0
unfolding zip_with
zip_lengths g size [] ys h e i = refl
zip_lengths g size (x ∷ xs) [] h e i = absurd (omega arith)
zip_lengths g size (x ∷ xs) (y ∷ ys) h e zero = h x y
zip_lengths g size (x ∷ xs) (y ∷ ys) h e (suc i) = zip_lengths g size xs ys h (omega arith) i

-- a facet of the table is one of an orbit of the call, and below the number of that orbit's possible facets
pub table_facet : (rows : List Row) (inner : List Inner) (f : Facet) → Mem f (all_facets (table_of rows inner))
    → f.1 < get_or (map facet_number inner) f.0 0
unfolding table_of is_possible number_ridges facet_shares
table_facet rows inner f m =
    let t = table_of rows inner in
    let possible = facet_possible t f m in
    let k = ltb→lt f.1 (length (get_or t.shares f.0 []))
    (second (ltb f.0 (length t.shares)) (ltb f.1 (length (get_or t.shares f.0 []))) possible) in
    let numbered = number_ridges rows no_ridges inner in
    let e = zip_lengths (facet_shares numbered.1.counts) facet_number inner numbered.0
    (λ i numbers. length-map i.answer.entries (λ (x : Entry). map (share_of numbered.1.counts i numbers) x.list))
    (map_with_length (λ known (i : Inner).
    map_with (map_with (number_ridge rows i.orbit.vertices)) known i.answer.possible) no_ridges inner) f.0 in
    subst (λ (n : ℕ). f.1 < n) e k

-- ---- the lists found

module _ (rules : Rules) (p : Prepared) (found : Found) (is_found_holds : search_from rules p ≡ answered found) where
  found_in_tree : (l : List Facet) → Mem l found.lists → Mem l (closed_lists p.extended (table_for p))
  unfolding search_from entry_limits cut
  found_in_tree l m =
      go rules.entry_limit (subst (λ (s : List (List Facet)). Mem l s)
      (search_emits (table_for p) (entry_limits rules p.extended) p.left found is_found_holds) m)
    where
      go : (limit : Option ℕ) → Mem l (cut limit 0 (closed_lists p.extended (table_for p)))
          → Mem l (closed_lists p.extended (table_for p))
      go None k = k
      go (Some many) k = in_take (max (many - 0) 1) l (closed_lists p.extended (table_for p)) k

  found_choice : (l : List Facet) → Mem l found.lists → ClosedChoice (table_for p) (choice_of l)
  found_choice l m =
      closed_choice_of (table_for p) (choice_of l) (emitted_order p.extended (table_for p) l (found_in_tree l m)).1

  -- facets of the call alone
  pub found_facet : (l : List Facet) → Mem l found.lists → (f : Facet) → Mem f l
      → f.1 < get_or (map facet_number p.inner) f.0 0
  unfolding table_for
  found_facet l m f i = table_facet p.rows p.inner f ((found_choice l m).possible f (in_choice f l i))

  -- no two from one orbit
  pub found_apart : (l : List Facet) → Mem l found.lists → Pairs OtherOrbit l
  found_apart l m = (emitted_order p.extended (table_for p) l (found_in_tree l m)).2

  -- one at least
  pub found_some : (l : List Facet) → Mem l found.lists → 0 < length l
  found_some l m = let a = (found_choice l m).some_facet in let e = perm_length (choice_perm l) in omega arith

  -- not too many lists
  pub found_few : length found.lists ≤ rules.bounds.entries
  unfolding search_from entry_limits
  found_few = search_few (table_for p) (entry_limits rules p.extended) p.left found is_found_holds

  -- an entry is a list found, split
  pub entry_of_list : (e : Entry) → Mem e (entries_of p found.lists)
      → (l : List Facet) × Mem l found.lists × (e ≡ entry_of p l)
  unfolding entries_of
  entry_of_list e m = of_map (entry_of p) e found.lists (of_sorted compare_entries e (map (entry_of p) found.lists) m)

  pub entries_number : length (entries_of p found.lists) ≡ length found.lists
  unfolding entries_of
  entries_number =
      perm_length (sort_perm compare_entries (map (entry_of p) found.lists)) ∙ length-map found.lists (entry_of p)
