-- Splitting numbered facets is splitting the facets of a call: where every orbit's compounds are composed of lists
-- that are not empty, of at most 190 items, 380 steps for each facet leave what `kept_parts` says, and every number
-- stays that of a facet. Where no orbit has compounds nothing is split. Leans on Facets, and on the laws of splitting
-- on numbers and on lists.
use Rattle.std.specs.Prelude.{◌≡◌, ◌⊎◌, ℕ, ◌+◌, ◌≤◌, ◌<◌, length}
use Rattle.std.proofs.Math.Path.{refl, ap, subst}
use Rattle.std.proofs.Common.{sym, ◌∙◌, inl, inr}
use mathlib.Core.List.{List, [], ◌∷◌, map, flat_map, Memᴰ}
use Rattle.std.specs.Prelude.{Option, Some, None}
use native.Mathlib.Omega.{arith}
use Rattle.std.proofs.Math.ListN.{get_or, get_or-eq_default}
use Rattle.std.proofs.lemmas.List.{length-map}
use Rattle.definitions.specs.Lists.{Pair}
use Rattle.definitions.specs.Figures.{Compound, components_of, parts_of}
use Rattle.definitions.specs.Search.{Facet}
use Rattle.definitions.specs.Recursion.{Entry, Inner}
use Rattle.laws.specs.Options.{some_equal, none_is_not_some}
use Rattle.laws.specs.Lists.{Mem, of_map, of_flat_map, flat_map_same, member_at, map_at_holds}
use Rattle.laws.specs.Segments.{le_or_lt}
use Rattle.laws.specs.Ascending.{Distinct}
use Rattle.laws.specs.Places.{flat_singles}
use Rattle.order.specs.Numbers.{ItemsBelow, AllBelow}
use Rattle.splitting.specs.Splitting.{split_nats, split_list}
use Rattle.splitting.specs.Parts.{Of, split_nats_below}
use Rattle.shapes.specs.Compounds.{Composed, components_of_holds}
use Rattle.shapes.specs.LowRanks.{nothing_to_split}
use Rattle.shapes.specs.SplitCalls.{SplitAnswer, lists_of}
use Rattle.shapes.specs.Kept.{Kept, kept_of, kept_parts}
use Rattle.layout.specs.Keeps.{facets_in, raised, labels_from}
use Rattle.layout.specs.Leaves.{facet_at}
use Rattle.entries.specs.Facets.{no_orbit, kept_in, start_of, facet_count, labels_length, located, numbered}

-- What splitting needs of an orbit: lists, as long as its facets' lists of places, that its compounds are composed
-- of. They are its inner call's entries' lists.
pub record Splittable (k : Kept) : Type 0 where
  pub lists : List (List Pair)
  pub lengths : map length lists ≡ map length k.places
  pub compounds : (c : Compound) → Mem c k.compounds → Composed lists c
  pub some_items : (l : List Pair) → Mem l lists → 0 < length l
  pub few_items_holds : (l : List Pair) → Mem l lists → length l ≤ 190
  pub distinct : (l : List Pair) → Mem l lists → Distinct l

-- so it is of every inner call whose entries' lists have at most 190 items
pub inner_splittable : (i : Inner) → SplitAnswer i.answer
    → ((l : List Pair) → Mem l (lists_of i.answer) → length l ≤ 190) → Splittable (kept_of i)
unfolding kept_of
inner_splittable i h few = record {
  lists = lists_of i.answer;
  lengths = same i.answer.entries;
  compounds = h.compounds;
  some_items = h.some_items;
  few_items_holds = few;
  distinct = h.distinct;
}
  where
    same : (es : List Entry) → map length (map (λ (e : Entry). e.list) es)
        ≡ map length (map (λ (e : Entry). map (λ (place : Pair). place.0) e.list) es)
    same [] = refl
    same (e ∷ es) = rw (length-map e.list (λ (place : Pair). place.0), same es) refl

module _ (k : Kept) (h : Splittable k) where
  pub lists_many : length h.lists ≡ facets_in k
  lists_many = sym (length-map h.lists length) ∙ (ap length h.lengths ∙ length-map k.places length)

  -- components are facets of the orbit
  pub components_below : (f : ℕ) (p : Pair) → components_of k.compounds f ≡ Some p
      → (p.0 < facets_in k) × (p.1 < facets_in k)
  components_below f p e =
      let c = h.compounds _ (components_of_holds k.compounds f p e) in
      let m = lists_many in
      (omega (arith, c.behind, c.second_below), omega (arith, c.second_below))

-- ---- the numbers of an orbit

module _ (kept : List Kept) (each : (k : Kept) → Mem k kept → Splittable k) where
  abbrev to : ℕ → Facet
  to = facet_at kept

  abbrev table : List (Option Pair)
  table = labels_from 0 kept

  abbrev bound : ℕ
  bound = facet_count kept

  pub own : (orbit : ℕ) → orbit < length kept → Splittable (kept_in kept orbit)
  own orbit h = each (kept_in kept orbit) (member_at kept orbit no_orbit h)

  -- the numbers of the components
  module _ (orbit : ℕ) (h : orbit < length kept) (f : ℕ) (o : Option Pair)
      (e : components_of (kept_in kept orbit).compounds f ≡ o) where
    pub raised_in : (p : Pair) → raised (0 + start_of kept orbit) o ≡ Some p
        → Of to bound orbit p.0 × Of to bound orbit p.1
    unfolding raised
    raised_in = go o e
      where
        one : (x : ℕ) → x < facets_in (kept_in kept orbit) → (y : ℕ) → 0 + start_of kept orbit + x ≡ y
            → Of to bound orbit y
        one x b y q =
            let n = numbered kept orbit x h b in
            let z : start_of kept orbit + x ≡ y = omega arith in
            subst (Of to bound orbit) z (n.0, ap (λ (g : Facet). g.0) n.1)

        go : (o : Option Pair) → components_of (kept_in kept orbit).compounds f ≡ o → (p : Pair)
            → raised (0 + start_of kept orbit) o ≡ Some p → Of to bound orbit p.0 × Of to bound orbit p.1
        go None q p r = absurd (none_is_not_some p r)
        go (Some parts) q p r =
            let b = components_below (kept_in kept orbit) (own orbit h) f parts q in
            let s = some_equal (0 + start_of kept orbit + parts.0, 0 + start_of kept orbit + parts.1) p r in
            (one parts.0 b.0 p.0 (ap (λ (x : Pair). x.0) s), one parts.1 b.1 p.1 (ap (λ (x : Pair). x.1) s))

  -- ---- what is left of a facet and of a list

  -- every number of the table is a facet's
  table_below : (a : ℕ) (p : Pair) → get_or table a None ≡ Some p → (p.0 < bound) × (p.1 < bound)
  table_below a p e = go (le_or_lt bound a)
    where
      go : (bound ≤ a) ⊎ (a < bound) → (p.0 < bound) × (p.1 < bound)
      go (inl h) =
          absurd (none_is_not_some p (sym (get_or-eq_default table None (omega (arith, labels_length kept))) ∙ e))
      go (inr h) =
          let r = located kept a h in
          let b = raised_in r.orbit r.inside r.facet (components_of (kept_in kept r.orbit).compounds r.facet) refl p
          (sym r.label ∙ e) in
          (b.0.0, b.1.0)

  pub parts_below : (ls : List (List ℕ)) → AllBelow bound ls → AllBelow bound (map (split_list 380 table) ls)
  unfolding split_list
  parts_below ls below l m x i =
      let r = of_map (split_list 380 table) l ls m in
      let q = of_flat_map (λ (a : ℕ). split_nats 380 table (a ∷ [])) x r.0 (subst (Mem x) r.2 i) in
      split_nats_below bound table table_below 380 (q.0 ∷ []) (alone q.0 (below r.0 r.1 q.0 q.1)) x q.2
    where
      alone : (a : ℕ) → a < bound → ItemsBelow bound (a ∷ [])
      alone a h b (mathlib.Core.List.Memᴰ.tail x5) = elim x5 [ ]
      alone a h b (Memᴰ.head e) = subst (λ (n : ℕ). n < bound) (sym e) h

-- ---- no compounds

-- where no orbit has compounds a facet is its own part
module _ (kept : List Kept) (plain : (k : Kept) → Mem k kept → k.compounds ≡ []) where
  no_compounds : (orbit : ℕ) → get_or (map (λ (k : Kept). k.compounds) kept) orbit [] ≡ []
  no_compounds orbit = go (le_or_lt (length kept) orbit)
    where
      go : (length kept ≤ orbit) ⊎ (orbit < length kept) → get_or (map (λ (k : Kept). k.compounds) kept) orbit [] ≡ []
      go (inl h) =
          let m = length-map kept (λ (k : Kept). k.compounds) in
          get_or-eq_default (map (λ (k : Kept). k.compounds) kept) [] (omega arith)
      go (inr h) =
          map_at_holds (λ (k : Kept). k.compounds) kept orbit [] no_orbit h
          ∙ plain (kept_in kept orbit) (member_at kept orbit no_orbit h)

  one_part : (f : Facet) → kept_parts kept f ≡ f ∷ []
  unfolding kept_parts parts_of
  one_part f = rw (no_compounds f.0, nothing_to_split) refl

  pub list_whole : (l : List Facet) → flat_map (kept_parts kept) l ≡ l
  list_whole l = flat_map_same (kept_parts kept) (λ (f : Facet). f ∷ []) l (λ f m. one_part f) ∙ flat_singles l
