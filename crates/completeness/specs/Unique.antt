-- Under the proviso [13.7] no two lists that the search emits have the same facets. Over any table; a closed list may
-- be extended or not.
use Rattle.std.specs.Prelude.{◌≡◌, refl, ◌⊎◌, Bool, not, ℕ, ◌+◌, ◌<◌, T, replicate}
use Rattle.std.proofs.Common.{sym, ◌∙◌, subst, inl, inr, T_not}
use Rattle.std.proofs.Math.Path.{ap}
use Rattle.std.proofs.Math.Bool.{true, false}
use mathlib.Core.List.{List, [], ◌∷◌, ◌++◌, map, flat_map, reverse_aux, Memᴰ}
use native.Mathlib.Omega.{arith}
use Rattle.definitions.specs.Lists.{keep}
use Rattle.definitions.specs.Search.{Table, Facet, Item, Verdict, over, closed, open_at, adds, total, all_facets}
use Rattle.definitions.specs.Search.{starts, uses_orbit, may_join, joined, ones_at, open_next, closed_next}
use Rattle.definitions.specs.Demands.{choice_of, equal_shares}
use Rattle.laws.specs.Lists.{Mem, here, in_append, in_left, in_right, of_flat_map, of_reversed, in_replicate}
use Rattle.laws.specs.Lists.{replicate_some}
use Rattle.laws.specs.Pairs.{Pairs, pairs_append, pairs_reversed, pairs_keep, pairs_replicate, pairs_map}
use Rattle.laws.specs.Pairs.{pairs_flat_map}
use Rattle.completeness.specs.Tree.{yield_eq, induct}
use Rattle.completeness.specs.Verdicts.{Means, is_open, judge_means, total_append, total_joined, adds_within}
use Rattle.completeness.specs.Facets.{Different, facets_different, ones_add}
use Rattle.completeness.specs.Walk.{Joins, joins_of, children_by, children, verdict_of, own, own_by, unused, falls}
use Rattle.completeness.specs.Walk.{any_child, uses_member, closed_in, closed_among, closed_lists}
use Rattle.completeness.specs.Taken.{Extends, emitted_extends, start_at, in_choice, of_choice}

-- two lists that do not have the same facets
abbrev pub Other : List Facet → List Facet → Type 0
Other d e = ((f : Facet) → Mem f d → Mem f e) → ((f : Facet) → Mem f e → Mem f d) → ⊥

other_flip : (d e : List Facet) → Other d e → Other e d
other_flip d e o a b = o b a

-- ---- where a facet of a list below a child stands

-- the facet that joined is in the list
pub own_facet : (t : Table) (item : Item) (mark : ℕ) (f : Facet) (e : List Facet) → Extends t (joined item mark f) e
    → Mem f e
unfolding joined
own_facet t item mark f e x =
    subst (λ (l : List Facet). Mem f l) (sym x.whole)
    (in_left f (item.list ++ (f ∷ [])) x.rest (in_right f item.list (f ∷ []) (here refl)))

-- a facet that the item does not have, and that is not the one that joined, joined later
later_facet : (t : Table) (item : Item) (mark : ℕ) (f g : Facet) (e : List Facet)
    (x : Extends t (joined item mark f) e) → T (not (uses_orbit g.0 item.list)) → Different f g → Mem g e
    → Mem g x.rest
unfolding joined
later_facet t item mark f g e x new n h =
    go (in_append g (item.list ++ (f ∷ [])) x.rest (subst (λ (l : List Facet). Mem g l) x.whole h))
  where
    one : Mem g (f ∷ []) → ⊥
    one (Memᴰ.head q) = n (sym q)
    one (Memᴰ.tail k) = elim k [ ]

    before : Mem g item.list ⊎ Mem g (f ∷ []) → ⊥
    before (inl k) = T_not (uses_orbit g.0 item.list) new (uses_member g item.list k)
    before (inr k) = one k

    go : Mem g (item.list ++ (f ∷ [])) ⊎ Mem g x.rest → Mem g x.rest
    go (inl k) = absurd (before (in_append g item.list (f ∷ []) k))
    go (inr k) = k

-- ---- items below which no two lists have the same facets

abbrev pub Foreign : Bool → Table → Item → Item → Type 0
Foreign extended t j k =
    (d : List Facet) → Mem d (closed_in extended t j) → (e : List Facet) → Mem e (closed_in extended t k) → Other d e

foreign_flip : (extended : Bool) (t : Table) (j k : Item) → Foreign extended t j k → Foreign extended t k j
foreign_flip extended t j k f d m e n = other_flip e d (f e n d m)

module _ (extended : Bool) (t : Table) (equal : T (equal_shares t)) where
  -- what a list below a child has in a ridge orbit: what the item has, what the facet adds, and what those later add
  total_below : (item : Item) (mark : ℕ) (f : Facet) (e : List Facet) (x : Extends t (joined item mark f) e)
      (ridge : ℕ) → total t e ridge ≡ total t item.list ridge + adds t ridge f + total t x.rest ridge
  unfolding joined
  total_below item mark f e x ridge =
      let a = total_append t (item.list ++ (f ∷ [])) x.rest ridge in
      let b = total_joined t item.list f ridge in
      let c = ap (λ (l : List Facet). total t l ridge) x.whole in
      omega arith

  closed_below_three : (e : List Facet) (ridge : ℕ) → (total t e ridge ≡ 0) ⊎ (total t e ridge ≡ 2)
      → 2 < total t e ridge → ⊥
  closed_below_three e ridge (inl q) h = omega arith
  closed_below_three e ridge (inr q) h = omega arith

  -- ---- children of an open list

  -- two places of a share 1: one facet with two of them, or two facets
  abbrev TwoPlaces : ℕ → Facet → Facet → Type 0
  TwoPlaces ridge f g = ((f ≡ g) × (1 < ones_at t ridge f)) ⊎ Different f g

  -- such a facet adds as often as it has places
  at_least_one : (ridge : ℕ) (f : Facet) → Mem f (all_facets t) → 0 < ones_at t ridge f
      → adds t ridge f ≡ ones_at t ridge f
  at_least_one ridge f h k = ones_add t equal ridge f h k

  twice_over : (item : Item) (mark ridge : ℕ) (f : Facet) (e : List Facet) → ridge < t.ridges
      → total t item.list ridge ≡ 1 → Mem f (all_facets t) → 1 < ones_at t ridge f → Extends t (joined item mark f) e
      → ⊥
  twice_over item mark ridge f e h one possible two x =
      let a = total_below item mark f e x ridge in
      let b = at_least_one ridge f possible (omega arith) in
      closed_below_three e ridge (x.is_closed ridge h) (omega arith)

  both_over : (item : Item) (mark ridge : ℕ) (f g : Facet) (e : List Facet) → ridge < t.ridges
      → total t item.list ridge ≡ 1 → Joins t item f → Joins t item g
      → 0 < ones_at t ridge f → 0 < ones_at t ridge g → Different f g → Extends t (joined item mark f) e → Mem g e → ⊥
  both_over item mark ridge f g e h one j k p q n x m =
      let a = total_below item mark f e x ridge in
      let b = at_least_one ridge f j.0 p in
      let c = at_least_one ridge g k.0 q in
      let d = adds_within t ridge g x.rest (later_facet t item mark f g e x k.2 n m) in
      closed_below_three e ridge (x.is_closed ridge h) (omega arith)

  abbrev places : Item → ℕ → List Facet
  places item ridge = flat_map (λ (f : Facet). replicate (ones_at t ridge f) f) (keep (may_join item) (all_facets t))

  -- a facet among the places joins, and has a share 1
  of_places : (item : Item) (ridge : ℕ) (f : Facet) → Mem f (places item ridge)
      → Joins t item f × (0 < ones_at t ridge f)
  of_places item ridge f h =
      let r = of_flat_map (λ (g : Facet). replicate (ones_at t ridge g) g) f (keep (may_join item) (all_facets t)) h in
      let e = in_replicate (ones_at t ridge r.0) f r.0 r.2 in
      subst (λ (g : Facet). Joins t item g × (0 < ones_at t ridge g)) (sym e)
      (joins_of t item r.0 r.1, replicate_some (ones_at t ridge r.0) f r.0 r.2)

  places_differ : (item : Item) (ridge : ℕ) → Pairs (TwoPlaces ridge) (places item ridge)
  places_differ item ridge =
      pairs_flat_map Different (TwoPlaces ridge) (λ (f : Facet). replicate (ones_at t ridge f) f)
      (keep (may_join item) (all_facets t))
      (λ f h. pairs_replicate (TwoPlaces ridge) (ones_at t ridge f) f (λ two. inl (refl, two)))
      (λ f h g k n u i v j.
      inr (λ q. n (sym (in_replicate (ones_at t ridge f) u f i) ∙ q ∙ in_replicate (ones_at t ridge g) v g j)))
      (pairs_keep Different (may_join item) (all_facets t) (facets_different t))

  open_foreign : (item : Item) (ridge : ℕ) → ridge < t.ridges → total t item.list ridge ≡ 1
      → Pairs (Foreign extended t) (open_next t item ridge)
  unfolding open_next
  open_foreign item ridge h one =
      pairs_map (TwoPlaces ridge) (Foreign extended t) (joined item item.mark) (places item ridge)
      (λ f i g j two d m e n. apart f g (of_places item ridge f i) (of_places item ridge g j) two d
      (emitted_extends extended t (joined item item.mark f) d m) e
      (emitted_extends extended t (joined item item.mark g) e n))
      (places_differ item ridge)
    where
      apart : (f g : Facet) → Joins t item f × (0 < ones_at t ridge f) → Joins t item g × (0 < ones_at t ridge g)
          → TwoPlaces ridge f g
          → (d : List Facet) → Extends t (joined item item.mark f) d → (e : List Facet)
          → Extends t (joined item item.mark g) e → Other d e
      apart f g p q (inl two) d x e y a b = twice_over item item.mark ridge f d h one p.0.0 two.1 x
      apart f g p q (inr n) d x e y a b =
          both_over item item.mark ridge f g d h one p.0 q.0 p.1 q.1 n x (b g (own_facet t item item.mark g e y))

  -- ---- children of a closed list: the facet that joined has the lowest orbit of all that are new

  pub closed_apart : (item : Item) (f g : Facet) → Joins t item f → Joins t item g → Different f g
      → (d : List Facet) → Extends t (joined item f.0 f) d → (e : List Facet) → Extends t (joined item g.0 g) e
      → Other d e
  unfolding joined
  closed_apart item f g j k n d x e y a b =
      let p = (x.joins g (later_facet t item f.0 f g d x k.2 n (b g (own_facet t item g.0 g e y)))).1 in
      let q = (y.joins f (later_facet t item g.0 g f e y j.2 (λ z. n (sym z)) (a f (own_facet t item f.0 f d x)))).1 in
      omega arith

  closed_foreign : (item : Item) → Pairs (Foreign extended t) (closed_next t item)
  unfolding closed_next
  closed_foreign item =
      pairs_map Different (Foreign extended t) (λ (f : Facet). joined item f.0 f) (keep (may_join item) (all_facets t))
      (λ f i g j n d m e k. closed_apart item f g (joins_of t item f i) (joins_of t item g j) n d
      (emitted_extends extended t (joined item f.0 f) d m) e (emitted_extends extended t (joined item g.0 g) e k))
      (pairs_keep Different (may_join item) (all_facets t) (facets_different t))

  children_foreign : (item : Item) (v : Verdict) → Means t item.list v
      → Pairs (Foreign extended t) (children_by extended t item v)
  unfolding children_by
  children_foreign item over m = tt
  children_foreign item (open_at r) (is_open ridge h one c low) = open_foreign item ridge h one
  children_foreign item closed m = by extended
    where
      by : (b : Bool) → Pairs (Foreign extended t) (children_by b t item closed)
      by true = closed_foreign item
      by false = tt

  -- ---- one tree

  -- the item's own list, and one below a child, which has a facet more
  own_other : (item j : Item) (v : Verdict) → Mem j (children_by extended t item v) → (e : List Facet)
      → Mem e (closed_in extended t j) → Other item.list e
  own_other item j v h e m a b =
      let r = any_child extended t item v j h in
      let x = subst (λ (y : Item). Extends t y e) r.4 (emitted_extends extended t j e m) in
      T_not (uses_orbit r.0.0 item.list) r.2.2 (uses_member r.0 item.list (b r.0 (own_facet t item r.1 r.0 e x)))

  pub tree_differs : (item : Item) → Pairs Other (closed_in extended t item)
  unfolding children own own_by verdict_of
  tree_differs =
      induct (children extended t) (own t) (unused t) (falls extended t)
      (λ (item : Item). Pairs Other (closed_in extended t item)) at_item
    where
      own_alone : (item : Item) (v : Verdict) → Pairs Other (own_by item.list v)
      own_alone item over = tt
      own_alone item (open_at r) = tt
      own_alone item closed = ((λ e h. elim h [ ]), tt)

      own_is : (item : Item) (v : Verdict) (d : List Facet) → Mem d (own_by item.list v) → d ≡ item.list
      own_is item over d h = elim h [ ]
      own_is item (open_at r) d h = elim h [ ]
      own_is item closed d (Memᴰ.head q) = q
      own_is item closed d (Memᴰ.tail h) = elim h [ ]

      at_item : (item : Item) → ((j : Item) → Mem j (children extended t item) → Pairs Other (closed_in extended t j))
          → Pairs Other (closed_in extended t item)
      at_item item ih =
          subst (Pairs Other) (sym (yield_eq (children extended t) (own t) (unused t) (falls extended t) item))
          (pairs_append Other (own t item) (closed_among extended t (reverse_aux (children extended t item) []))
          (own_alone item (verdict_of t item)) among across)
        where
          child : (j : Item) → Mem j (reverse_aux (children extended t item) []) → Mem j (children extended t item)
          child j h = go (of_reversed j (children extended t item) [] h)
            where
              go : Mem j (children extended t item) ⊎ Mem j [] → Mem j (children extended t item)
              go (inl k) = k
              go (inr k) = elim k [ ]

          among : Pairs Other (closed_among extended t (reverse_aux (children extended t item) []))
          among =
              pairs_flat_map (Foreign extended t) Other (closed_in extended t)
              (reverse_aux (children extended t item) [])
              (λ j h. ih j (child j h)) (λ j h k i foreign d m e n. foreign d m e n)
              (pairs_reversed (Foreign extended t) (foreign_flip extended t) (children extended t item) []
              (children_foreign item (verdict_of t item) (judge_means t item.list)) tt (λ j h k i. elim i [ ]))

          across : (d : List Facet) → Mem d (own t item) → (e : List Facet)
              → Mem e (closed_among extended t (reverse_aux (children extended t item) [])) → Other d e
          across d h e k =
              let r = of_flat_map (closed_in extended t) e (reverse_aux (children extended t item) []) k in
              subst (λ (l : List Facet). Other l e) (sym (own_is item (verdict_of t item) d h))
              (own_other item r.0 (verdict_of t item) (child r.0 r.1) e r.2)

  -- ---- all trees

  starts_apart : (f g : Facet) → Different f g → (d : List Facet) → Extends t (start_at f) d → (e : List Facet)
      → Extends t (start_at g) e → Other d e
  starts_apart f g n d x e y a b =
      let p = joined_later f g n d x (b g (first_in g e y)) in
      let q = joined_later g f (λ z. n (sym z)) e y (a f (first_in f d x)) in
      omega arith
    where
      first_in : (h : Facet) (l : List Facet) → Extends t (start_at h) l → Mem h l
      first_in h l z = subst (λ (m : List Facet). Mem h m) (sym z.whole) (here refl)

      joined_later : (h k : Facet) → Different h k → (l : List Facet) (z : Extends t (start_at h) l) → Mem k l
          → h.0 < k.0
      joined_later h k d l z m = go (subst (λ (s : List Facet). Mem k s) z.whole m)
        where
          go : Mem k (h ∷ z.rest) → h.0 < k.0
          go (Memᴰ.head q) = absurd (d (sym q))
          go (Memᴰ.tail i) = (z.joins k i).1

  pub lists_differ : Pairs Other (closed_lists extended t)
  unfolding starts
  lists_differ =
      pairs_flat_map (Foreign extended t) Other (closed_in extended t) (reverse_aux (starts t) [])
      (λ j h. tree_differs j) (λ j h k i foreign d m e n. foreign d m e n)
      (pairs_reversed (Foreign extended t) (foreign_flip extended t) (starts t) []
      (pairs_map Different (Foreign extended t) start_at (all_facets t)
      (λ f i g j n d m e k. starts_apart f g n d (emitted_extends extended t (start_at f) d m) e
      (emitted_extends extended t (start_at g) e k)) (facets_different t)) tt (λ j h k i. elim i [ ]))

-- lists with different facets have different choices
pub choices_differ : (lists : List (List Facet)) → Pairs Other lists
    → Pairs (λ (c d : List Facet). c ≡ d → ⊥) (map choice_of lists)
choices_differ lists p =
    pairs_map Other (λ (c d : List Facet). c ≡ d → ⊥) choice_of lists
    (λ d i e j other q. other (into d e q) (into e d (sym q))) p
  where
    into : (d e : List Facet) → choice_of d ≡ choice_of e → (f : Facet) → Mem f d → Mem f e
    into d e q f h = of_choice f e (subst (λ (l : List Facet). Mem f l) q (in_choice f d h))
