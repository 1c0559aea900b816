-- Theorems on the definitions of specs/Parts.
use Rattle.std.specs.Prelude.{◌≡◌, ℕ, ◌+◌, ◌≤◌, ◌<◌, length}
use Rattle.std.proofs.Math.Path.{refl, ap, subst}
use Rattle.std.proofs.Common.{sym, ◌∙◌}
use mathlib.Core.List.{List, [], ◌∷◌, map, flat_map, Memᴰ}
use Rattle.std.specs.Prelude.{Option, Some, None}
use native.Mathlib.Omega.{arith}
use Rattle.std.proofs.Math.ListN.{get_or}
use Rattle.definitions.specs.Lists.{Pair}
use Rattle.definitions.specs.Figures.{Compound, components_of, split_queue, parts_of}
use Rattle.definitions.specs.Search.{Facet}
use Rattle.laws.specs.Lists.{Mem, here, of_map, in_map, member_at, map_at_holds}
use Rattle.laws.specs.Pairs.{Pairs, pairs_map, pairs_flat_map}
use Rattle.laws.specs.Ascending.{Differ, Distinct}
use Rattle.laws.specs.Ranges.{distinct_below}
use Rattle.completeness.specs.Taken.{OtherOrbit}
use Rattle.order.specs.Numbers.{ItemsBelow}
use Rattle.splitting.specs.Splitting.{split_nats, split_list}
use Rattle.splitting.specs.Parts.{Of, Matches, within, queue_numbered, lists_numbered}
use Rattle.shapes.proofs.Splitting.{parts_stable, parts_distinct}
use Rattle.shapes.specs.Kept.{Kept, kept_at, kept_parts}
use Rattle.layout.specs.Keeps.{facets_in, raised, labels_from}
use Rattle.layout.specs.Leaves.{facet_at}
use Rattle.entries.specs.Facets.{no_orbit, kept_in, start_of, Located, facet_count, located, numbered}
use Rattle.entries.specs.Parts.{Splittable, components_below, lists_many, own, parts_below, raised_in}

-- numbers whose facets differ differ
distinct_numbers : (to : ℕ → Facet) (l : List ℕ) → Distinct (map to l) → Distinct l
distinct_numbers to [] d = tt
distinct_numbers to (x ∷ l) d = ((λ y i e. d.0 (to y) (in_map to y l i) (ap to e)), distinct_numbers to l d.1)

module _ (k : Kept) (h : Splittable k) where
  list_size : (f : ℕ) → f < facets_in k → length (get_or h.lists f []) ≡ length (get_or k.places f [])
  list_size f g =
      let m = lists_many k h in
      sym (map_at_holds length h.lists f 0 [] (omega arith))
      ∙ (ap (λ (ns : List ℕ). get_or ns f 0) h.lengths ∙ map_at_holds length k.places f 0 [] g)

  steps_enough : (f : ℕ) → f < facets_in k
      → split_queue 380 k.compounds (f ∷ []) ≡ parts_of k.compounds (length (get_or k.places f [])) f
  steps_enough f g =
      let m = lists_many k h in
      let l = h.few_items_holds (get_or h.lists f []) (member_at h.lists f [] (omega arith)) in
      parts_stable h.lists k.compounds h.compounds h.some_items f (omega arith) 380 (omega arith)
      ∙ ap (λ (n : ℕ). parts_of k.compounds n f) (list_size f g)

  -- no part comes twice
  own_distinct : (f : ℕ) → f < facets_in k → Distinct (parts_of k.compounds (length (get_or k.places f [])) f)
  own_distinct f g =
      let m = lists_many k h in
      subst (λ (n : ℕ). Distinct (parts_of k.compounds n f)) (list_size f g)
      (parts_distinct h.lists k.compounds h.compounds h.some_items f (omega arith)
      (h.distinct (get_or h.lists f []) (member_at h.lists f [] (omega arith))))

-- ---- the numbers of an orbit

module _ (kept : List Kept) (each : (k : Kept) → Mem k kept → Splittable k) where
  abbrev to : ℕ → Facet
  to = facet_at kept

  abbrev table : List (Option Pair)
  table = labels_from 0 kept

  abbrev bound : ℕ
  bound = facet_count kept

  to_located : (a : ℕ) (r : Located 0 kept a) → to a ≡ (r.orbit, r.facet)
  to_located a r = ap to r.number ∙ (numbered kept r.orbit r.facet r.inside r.below).1

  -- the numbers of the components
  module _ (orbit : ℕ) (h : orbit < length kept) (f : ℕ) (o : Option Pair)
      (e : components_of (kept_in kept orbit).compounds f ≡ o) where
    within_raised : o ≡ within to (raised (0 + start_of kept orbit) o)
    unfolding raised
    within_raised = go o e
      where
        go : (o : Option Pair) → components_of (kept_in kept orbit).compounds f ≡ o
            → o ≡ within to (raised (0 + start_of kept orbit) o)
        go None q = refl
        go (Some p) q =
            let z : 0 + start_of kept orbit ≡ start_of kept orbit = omega arith in
            let b = components_below (kept_in kept orbit) (own kept each orbit h) f p q in
            let x = (numbered kept orbit p.0 h b.0).1 in
            let y = (numbered kept orbit p.1 h b.1).1 in
            rw (z, x, y) refl

  matches : (orbit : ℕ) → Matches to bound table orbit (kept_in kept orbit).compounds
  matches orbit = record { same = same; stays = stays }
    where
      its : (a : ℕ) (r : Located 0 kept a) → (to a).0 ≡ orbit → r.orbit ≡ orbit
      its a r e = sym (ap (λ (g : Facet). g.0) (to_located a r)) ∙ e

      same : (a : ℕ) → Of to bound orbit a
          → components_of (kept_in kept orbit).compounds (to a).1 ≡ within to (get_or table a None)
      same a h =
          let r = located kept a h.0 in
          let cs : ℕ → List Compound = λ o. (kept_in kept o).compounds in
          ap (λ (o : ℕ). components_of (cs o) (to a).1) (sym (its a r h.1))
          ∙ (ap (λ (g : Facet). components_of (cs r.orbit) g.1) (to_located a r)
          ∙ (within_raised r.orbit r.inside r.facet (components_of (cs r.orbit) r.facet) refl
          ∙ ap (within to) (sym r.label)))

      stays : (a : ℕ) → Of to bound orbit a → (p : Pair) → get_or table a None ≡ Some p
          → Of to bound orbit p.0 × Of to bound orbit p.1
      stays a h p e =
          let r = located kept a h.0 in
          subst (λ (o : ℕ). Of to bound o p.0 × Of to bound o p.1) (its a r h.1)
          (raised_in kept each r.orbit r.inside r.facet
          (components_of (kept_in kept r.orbit).compounds r.facet) refl p (sym r.label ∙ e))

  -- ---- what is left of a facet and of a list

  -- by the orbit's own compounds and places
  parts_at_holds : (a : ℕ) (r : Located 0 kept a)
      → kept_parts kept (to a) ≡ map (λ (part : ℕ). (r.orbit, part))
      (parts_of (kept_in kept r.orbit).compounds (length (get_or (kept_in kept r.orbit).places r.facet [])) r.facet)
  unfolding kept_parts kept_at
  parts_at_holds a r =
      let o = r.orbit in
      let k = kept_in kept o in
      let c : get_or (map (λ (k : Kept). k.compounds) kept) o []
      ≡ k.compounds = map_at_holds (λ (k : Kept). k.compounds) kept o [] no_orbit r.inside in
      let p : get_or (map (λ (k : Kept). k.places) kept) o []
      ≡ k.places = map_at_holds (λ (k : Kept). k.places) kept o [] no_orbit r.inside in
      ap (kept_parts kept) (to_located a r)
      ∙ (ap (λ (ps : List (List ℕ)). map (λ (part : ℕ). (o, part))
      (parts_of (get_or (map (λ (k : Kept). k.compounds) kept) o []) (length (get_or ps r.facet [])) r.facet)) p
      ∙ ap (λ (cs : List Compound).
      map (λ (part : ℕ). (o, part)) (parts_of cs (length (get_or k.places r.facet [])) r.facet)) c)

  facet_parts : (a : ℕ) → a < bound → map to (split_nats 380 table (a ∷ [])) ≡ kept_parts kept (to a)
  facet_parts a h =
      let r = located kept a h in
      let o = r.orbit in
      let k = kept_in kept o in
      let e = to_located a r in
      let is : Of to bound o a = (h, ap (λ (g : Facet). g.0) e) in
      queue_numbered to bound table o k.compounds (matches o) 380 (a ∷ []) (λ b i. only a b i o is)
      ∙ (ap (λ (g : Facet). map (λ (part : ℕ). (o, part)) (split_queue 380 k.compounds (g.1 ∷ []))) e
      ∙ (ap (map (λ (part : ℕ). (o, part))) (steps_enough k (own kept each o r.inside) r.facet r.below)
      ∙ sym (parts_at_holds a r)))
    where
      only : (a b : ℕ) → Mem b (a ∷ []) → (o : ℕ) → Of to bound o a → Of to bound o b
      only a b (mathlib.Core.List.Memᴰ.tail x5) o is = elim x5 [ ]
      only a b (Memᴰ.head q) o is = subst (Of to bound o) (sym q) is

  -- a list of numbered facets, split
  pub list_parts : (l : List ℕ) → ItemsBelow bound l
      → map to (split_list 380 table l) ≡ flat_map (kept_parts kept) (map to l)
  list_parts l below = lists_numbered to table 380 (kept_parts kept) l (λ a i. facet_parts a (below a i))

  -- ---- how many parts a list has

  part_orbit : (f g : Facet) → Mem g (kept_parts kept f) → g.0 ≡ f.0
  unfolding kept_parts
  part_orbit f g m =
      let parts = parts_of (get_or (map (λ (k : Kept). k.compounds) kept) f.0 [])
      (length (kept_at (λ (k : Kept). k.places) kept f)) f.1 in
      ap (λ (x : Facet). x.0) (of_map (λ (part : ℕ). (f.0, part)) g parts m).2

  parts_apart : (l : List ℕ) → ItemsBelow bound l → Pairs OtherOrbit (map to l)
      → Distinct (flat_map (kept_parts kept) (map to l))
  parts_apart l below apart =
      pairs_flat_map OtherOrbit Differ (kept_parts kept) (map to l) one
      (λ f m g j other u a v b e. other (sym (part_orbit f u a) ∙ (ap (λ (x : Facet). x.0) e ∙ part_orbit g v b))) apart
    where
      at : (a : ℕ) → a < bound → Distinct (kept_parts kept (to a))
      at a h =
          let r = located kept a h in
          let k = kept_in kept r.orbit in
          subst Distinct (sym (parts_at_holds a r))
          (pairs_map Differ Differ (λ (part : ℕ). (r.orbit, part))
          (parts_of k.compounds (length (get_or k.places r.facet [])) r.facet)
          (λ x i y j d e. d (ap (λ (g : Facet). g.1) e))
          (own_distinct k (own kept each r.orbit r.inside) r.facet r.below))

      one : (f : Facet) → Mem f (map to l) → Distinct (kept_parts kept f)
      one f m =
          let q = of_map to f l m in
          subst (λ (g : Facet). Distinct (kept_parts kept g)) (sym q.2) (at q.0 (below q.0 q.1))

  -- a list of facets of different orbits has no more parts than the call has facets
  pub parts_few : (l : List ℕ) → ItemsBelow bound l → Pairs OtherOrbit (map to l)
      → length (split_list 380 table l) ≤ bound
  parts_few l below apart =
      distinct_below bound (split_list 380 table l)
      (distinct_numbers to (split_list 380 table l)
      (subst Distinct (sym (list_parts l below)) (parts_apart l below apart)))
      (parts_below kept each (l ∷ []) (λ m i. alone m i) (split_list 380 table l) (here refl))
    where
      alone : (m : List ℕ) → Mem m (l ∷ []) → ItemsBelow bound m
      alone m (mathlib.Core.List.Memᴰ.tail x4) = elim x4 [ ]
      alone m (Memᴰ.head e) = subst (ItemsBelow bound) (sym e) below
