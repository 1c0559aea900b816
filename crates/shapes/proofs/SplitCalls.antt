-- Theorems on the definitions of specs/SplitCalls.
use Rattle.std.specs.Prelude.{◌≡◌, ◌⊎◌, ℕ, zero, suc, ◌<◌}
use Rattle.std.proofs.Common.{sym, ◌∙◌, inl, inr}
use Rattle.std.proofs.Math.Path.{ap, subst}
use Rattle.std.specs.Prelude.{None}
use mathlib.Core.List.{List, [], ◌∷◌, map, Memᴰ}
use native.Mathlib.Omega.{arith}
use Rattle.std.proofs.Math.ListN.{length, get_or, length-map}
use Rattle.definitions.specs.Lists.{Pair, count_from}
use Rattle.definitions.specs.Outcome.{answered}
use Rattle.definitions.specs.Vectors.{Vec}
use Rattle.definitions.specs.Subspace.{Subspace}
use Rattle.definitions.specs.Orbits.{Row}
use Rattle.definitions.specs.Figures.{Compound, components_of, parts_of}
use Rattle.definitions.specs.Search.{Facet, Found}
use Rattle.definitions.specs.Recursion.{Rules, Entry, Answer, Inner}
use Rattle.definitions.specs.Faceting.{Prepared, split_in, at_orbit, split, entry_of, entries_of, search_from, finish}
use Rattle.definitions.specs.Faceting.{faceting}
use Rattle.laws.specs.Lists.{Mem, of_map, of_flat_map, member_at, map_at_holds, count_length}
use Rattle.laws.specs.Pairs.{Pairs, pairs_map, pairs_flat_map, count_ascends}
use Rattle.laws.specs.Ascending.{Differ, Distinct}
use Rattle.completeness.specs.Taken.{OtherOrbit}
use Rattle.shapes.specs.Answered.{facet_number, answered_call}
use Rattle.shapes.specs.Emitted.{found_facet, found_apart, found_some, entry_of_list}
use Rattle.shapes.specs.LowRanks.{RankTwo, rank_two, inner_at, facet_orbit}
use Rattle.shapes.specs.Compounds.{composed}
use Rattle.shapes.proofs.Splitting.{parts_range, parts_distinct, parts_done}
use Rattle.shapes.specs.SplitCalls.{InCall, SplitAnswer, in_lists, lists_of, own_split, parts_at_holds, split_some}

-- ---- rank 2

two_split : (budget : ℕ) (a : Answer) → RankTwo budget a → SplitAnswer a
two_split budget a r = record {
  compounds = λ c m. elim (subst (λ (cs : List Compound). Mem c cs) r.compounds m) [ ];
  some_items =
      λ l m. let e = is l (from l m) in let n = ap length e in
      let k = length-map {B = Pair} (count_from 0 r.ends) (λ (v : ℕ). (v, 0)) in let c = count_length 0 r.ends in
      let o = some_end r.ends r.one_or_two_holds in omega arith;
  distinct =
      λ l m. subst Distinct (sym (is l (from l m))) (pairs_map (λ x y. x < y) Differ (λ (v : ℕ). (v, 0))
      (count_from 0 r.ends) (λ x i y j h e. let q = ap (λ (p : Pair). p.0) e in absurd (omega arith))
      (count_ascends 0 r.ends));
}
  where
    only : List Pair
    only = map (λ (v : ℕ). (v, 0)) (count_from 0 r.ends)

    from : (l : List Pair) → Mem l (lists_of a) → Mem l (only ∷ [])
    from l m = subst (λ (es : List Entry). Mem l (map (λ (e : Entry). e.list) es)) r.entries m

    is : (l : List Pair) → Mem l (only ∷ []) → l ≡ only
    is l (Memᴰ.head e) = e
    is l (Memᴰ.tail m) = elim m [ ]

    some_end : (ends : ℕ) → (ends ≡ 1) ⊎ (ends ≡ 2) → 0 < ends
    some_end ends (inl e) = omega arith
    some_end ends (inr e) = omega arith

-- ---- one facet

module _ (i : Inner) (h : SplitAnswer i.answer) (f : Facet) (is-facet : f.1 < facet_number i) where
  abbrev lists : List (List Pair)
  lists = lists_of i.answer

  abbrev parts : List ℕ
  parts = parts_of i.answer.compounds (length (get_or lists f.1 [])) f.1

  -- the facet's parts are facets of its orbit
  pub split_in_range : (g : Facet) → Mem g (split_in i f) → (g.0 ≡ f.0) × (g.1 < facet_number i)
  unfolding split_in
  split_in_range g m =
      let r = of_map (λ (part : ℕ). (f.0, part)) g parts m in
      let k = parts_range lists i.answer.compounds h.compounds h.some_items f.1 (in_lists i h f is-facet) r.0 r.1 in
      let e = length-map i.answer.entries (λ (x : Entry). x.list) in
      let p = ap (λ (x : Facet). x.1) r.2 in
      (ap (λ (x : Facet). x.0) r.2, omega arith)

  -- none of them twice
  pub split_in_distinct : Distinct (split_in i f)
  unfolding split_in
  split_in_distinct =
      pairs_map Differ Differ (λ (part : ℕ). (f.0, part)) parts (λ x a y b d e. d (ap (λ (g : Facet). g.1) e))
      (parts_distinct lists i.answer.compounds h.compounds h.some_items f.1 (in_lists i h f is-facet)
      (h.distinct (get_or lists f.1 []) (member_at lists f.1 [] (in_lists i h f is-facet))))

  -- none of them is compound
  pub split_in_done : (g : Facet) → Mem g (split_in i f) → components_of i.answer.compounds g.1 ≡ None
  unfolding split_in
  split_in_done g m =
      let r = of_map (λ (part : ℕ). (f.0, part)) g parts m in
      ap (λ (x : Facet). components_of i.answer.compounds x.1) r.2
      ∙ parts_done lists i.answer.compounds h.compounds h.some_items f.1 (in_lists i h f is-facet) r.0 r.1

-- ---- a list of the call's facets

module _ (p : Prepared) (h : (i : Inner) → Mem i p.inner → SplitAnswer i.answer) where
  abbrev parts_at : Facet → List Facet
  parts_at f = at_orbit (λ (i : Inner). split_in i f) p.inner f.0

  module _ (f : Facet) (is-facet : InCall p f) where
    abbrev there_is : (f.0 < length p.inner) × (f.1 < facet_number (inner_at p.inner f.0))
    there_is = facet_orbit p.inner f is-facet

    abbrev own : Inner
    own = inner_at p.inner f.0

    part_in_call : (g : Facet) → Mem g (parts_at f) → (g.0 ≡ f.0) × InCall p g
    unfolding inner_at
    part_in_call g m =
        let r = split_in_range own (own_split p h f is-facet) f there_is.1 g
        (subst (λ (l : List Facet). Mem g l) (parts_at_holds p h f is-facet) m) in (
          r.0,
          subst (λ (o : ℕ). g.1 < get_or (map facet_number p.inner) o 0) (sym r.0)
              (subst (λ (n : ℕ). g.1 < n) (sym (map_at_holds facet_number p.inner f.0 0 _ there_is.0)) r.1),
        )

  -- a split list has the call's facets alone
  pub split_in_call : (l : List Facet) → ((f : Facet) → Mem f l → InCall p f) → (g : Facet) → Mem g (split p l)
      → InCall p g
  unfolding split
  split_in_call l k g m = let r = of_flat_map parts_at g l m in (part_in_call r.0 (k r.0 r.1) g r.2).1

  -- and no compound: each facet's orbit has no components for it
  pub split_final : (l : List Facet) → ((f : Facet) → Mem f l → InCall p f) → (g : Facet) → Mem g (split p l)
      → components_of (inner_at p.inner g.0).answer.compounds g.1 ≡ None
  unfolding split
  split_final l k g m =
      let r = of_flat_map parts_at g l m in
      let f = r.0 in
      let inside = k f r.1 in
      let same : g.0 ≡ f.0 = (part_in_call f inside g r.2).0 in
      ap (λ (o : ℕ). components_of (inner_at p.inner o).answer.compounds g.1) same
      ∙ split_in_done (own f inside) (own_split p h f inside) f (there_is f inside).1 g
      (subst (λ (x : List Facet). Mem g x) (parts_at_holds p h f inside) r.2)

  -- none of them twice
  pub split_distinct : (l : List Facet) → ((f : Facet) → Mem f l → InCall p f) → Pairs OtherOrbit l
      → Distinct (split p l)
  unfolding split
  split_distinct l k apart =
      pairs_flat_map OtherOrbit Differ parts_at l
      (λ f m. subst Distinct (sym (parts_at_holds p h f (k f m)))
      (split_in_distinct (own f (k f m)) (own_split p h f (k f m)) f (there_is f (k f m)).1))
      (λ f m g j other u a v b e.
      other (sym (part_in_call f (k f m) u a).0 ∙ ap (λ (x : Facet). x.0) e ∙ (part_in_call g (k g j) v b).0)) apart

-- ---- every call

module _ (rules : Rules) (p : Prepared) (found : Found) (is_found_holds : search_from rules p ≡ answered found)
    (h : (i : Inner) → Mem i p.inner → SplitAnswer i.answer) where
  -- an entry's list: that of a list found, split
  split_list_holds : (l : List Pair) → Mem l (lists_of (finish p found))
      → (k : List Facet) × Mem k found.lists × (l ≡ split p k)
  unfolding finish entry_of
  split_list_holds l m =
      let r = of_map (λ (e : Entry). e.list) l (entries_of p found.lists) m in
      let q = entry_of_list rules p found is_found_holds r.0 r.1 in
      (q.0, q.1, r.2 ∙ ap (λ (e : Entry). e.list) q.2)

  pub finish_split : SplitAnswer (finish p found)
  unfolding finish
  finish_split = record {
    compounds = λ c m. composed (lists_of (finish p found)) c m;
    some_items =
        λ l m. let r = split_list_holds l m in subst (λ (k : List Pair). 0 < length k) (sym r.2) (split_some p h r.0
        (found_facet rules p found is_found_holds r.0 r.1) (found_some rules p found is_found_holds r.0 r.1));
    distinct =
        λ l m. let r = split_list_holds l m in subst Distinct (sym r.2) (split_distinct p h r.0
        (found_facet rules p found is_found_holds r.0 r.1) (found_apart rules p found is_found_holds r.0 r.1));
  }

pub split_answer : (more : ℕ) (rules : Rules) (plane : Subspace) (points : List Vec) (rows : List Row) (budget : ℕ)
    (a : Answer) → faceting more rules plane points rows budget ≡ answered a → SplitAnswer a
split_answer zero rules plane points rows budget a e = two_split budget a (rank_two rules plane points rows budget a e)
split_answer (suc more) rules plane points rows budget a e =
    let c = answered_call more rules plane points rows budget a e in
    subst SplitAnswer (sym c.is)
    (finish_split rules c.before c.found c.is_found_holds
    (λ i m. let inner = c.prepared.inner.each i m in split_answer more rules _ _ _ inner.budget i.answer inner.is))
