-- Elements in levels: an item of the next level is an ascending list of items of this one, at every level from the
-- lowest up. The ranks that a figure has are read off such items: the lowest items as they are written, then each
-- level's items in order, each as the places of its subs in the level below, and one body. Nested sets of edges are
-- one instance (Nested); numbers that order as the sets do may be another. Here the reading, and what it does when
-- the lowest level is taken off. Leans on the laws.
use Rattle.std.specs.Prelude.{◌≡◌, refl, length}
use Rattle.std.proofs.Common.{sym, ap, ◌∙◌, subst}
use mathlib.Core.List.{List, [], ◌∷◌, map, flat_map, Memᴰ, map-map}
use Prim.Native.Nat.{ℕ, zero, suc, Ordering}
use Rattle.definitions.specs.Lists.{compare_list, sort_nats, count_from}
use Rattle.definitions.specs.Figures.{Elements, renumber}
use Rattle.laws.specs.Lists.{Mem, here, in_flat_map, of_flat_map}
use Rattle.laws.specs.Orders.{Linear}
use Rattle.laws.specs.Ascending.{Ascends, in_order, in_order_ascends, in_in_order, of_in_order}
use Rattle.laws.specs.Places.{place_in, map_same}
use Rattle.laws.specs.Ranges.{own_places}
use Rattle.shapes.specs.Assemble.{lowest_by}

-- ---- levels

-- items of each level with a linear order, and their subs
pub record Levels : Type 1 where
  pub Item : ℕ → Type 0
  pub order : (k : ℕ) → Item k → Item k → Ordering
  pub linear : (k : ℕ) → Linear (order k)
  pub subs : (k : ℕ) → Item (suc k) → List (Item k)

-- of good items the subs ascend and are good, and they compare as their lists of subs do
pub record Sets (T : Levels) : Type 1 where
  pub Good : (k : ℕ) → T.Item k → Type 0
  pub ascends : (k : ℕ) (x : T.Item (suc k)) → Good (suc k) x → Ascends (T.order k) (T.subs k x)
  pub good : (k : ℕ) (x : T.Item (suc k)) → Good (suc k) x → (y : T.Item k) → Mem y (T.subs k x) → Good k y
  pub by_subs : (k : ℕ) (x y : T.Item (suc k)) → Good (suc k) x → Good (suc k) y
      → T.order (suc k) x y ≡ compare_list (T.order k) (T.subs k x) (T.subs k y)

-- the levels without the lowest
abbrev pub over : Levels → Levels
over T = record {
  Item = λ k. T.Item (suc k);
  order = λ k. T.order (suc k);
  linear = λ k. T.linear (suc k);
  subs = λ k. T.subs (suc k);
}

abbrev pub over_sets : (T : Levels) → Sets T → Sets (over T)
over_sets T G = record {
  Good = λ k. G.Good (suc k);
  ascends = λ k. G.ascends (suc k);
  good = λ k. G.good (suc k);
  by_subs = λ k. G.by_subs (suc k);
}

-- ascending, each once
abbrev pub items_in_order : (T : Levels) (k : ℕ) → List (T.Item k) → List (T.Item k)
items_in_order T k l = in_order (T.order k) (T.linear k) l

abbrev pub AllGood : (T : Levels) → Sets T → (k : ℕ) → List (T.Item k) → Type 0
AllGood T G k xs = (x : T.Item k) → Mem x xs → G.Good k x

-- all subs of items
unfoldable pub under : (T : Levels) (k : ℕ) → List (T.Item (suc k)) → List (T.Item k)
under T k xs = items_in_order T k (flat_map (T.subs k) xs)

-- the lowest items under items, and under one
unfoldable pub lowest : (T : Levels) (k : ℕ) → List (T.Item k) → List (T.Item zero)
lowest T zero xs = xs
lowest T (suc k) xs = lowest T k (under T k xs)

unfoldable pub lowest_in : (T : Levels) (k : ℕ) → T.Item k → List (T.Item zero)
lowest_in T zero x = x ∷ []
lowest_in T (suc k) x = lowest T k (T.subs k x)

-- an item as the places of its subs
abbrev pub places_in : (T : Levels) (k : ℕ) → List (T.Item k) → T.Item (suc k) → List ℕ
places_in T k all x = map (place_in (T.order k) (T.linear k) all) (T.subs k x)

-- ---- the ranks of a figure

-- the ranks above the lowest, the last ones given
unfoldable pub upper_ranks : (T : Levels) (k : ℕ) → List (T.Item k) → List Elements → List Elements
upper_ranks T zero xs last = last
upper_ranks T (suc k) xs last = let all = under T k xs in upper_ranks T k all (map (places_in T k all) xs ∷ last)

-- the body names all facets
unfoldable pub body_of : ℕ → List Elements
body_of many = (count_from 0 many ∷ []) ∷ []

-- the ranks of the figure with these facets, ascending
unfoldable pub ranks_on : (T : Levels) → (T.Item zero → List ℕ) → (k : ℕ) → List (T.Item k) → List Elements
ranks_on T write k xs = map write (lowest T k xs) ∷ upper_ranks T k xs (body_of (length xs))

-- the ranks of the figure that an item is
unfoldable pub ranks_of : (T : Levels) → (T.Item zero → List ℕ) → (k : ℕ) → T.Item k → List Elements
ranks_of T write zero x = (write x ∷ []) ∷ []
ranks_of T write (suc k) x = ranks_on T write k (T.subs k x)

-- ---- the lowest items

-- what is lowest under items is lowest under one of them
pub record LowestItems (T : Levels) (k : ℕ) (xs : List (T.Item k)) : Type 0 where
  pub into : (x : T.Item k) → Mem x xs → (z : T.Item zero) → Mem z (lowest_in T k x) → Mem z (lowest T k xs)
  pub back : (z : T.Item zero) → Mem z (lowest T k xs) → (x : T.Item k) × Mem x xs × Mem z (lowest_in T k x)

pub lowest_items : (T : Levels) (k : ℕ) (xs : List (T.Item k)) → LowestItems T k xs
unfolding lowest lowest_in under
lowest_items T zero xs = record { into = λ x m z i. alone x m z i; back = λ z m. (z, m, here refl) }
  where
    alone : (x : T.Item zero) → Mem x xs → (z : T.Item zero) → Mem z (x ∷ []) → Mem z xs
    alone x m z (Memᴰ.head e) = subst (λ (y : T.Item zero). Mem y xs) (sym e) m
    alone x m z (Memᴰ.tail i) = elim i [ ]
lowest_items T (suc k) xs =
    let all = flat_map (T.subs k) xs in
    let below = lowest_items T k (items_in_order T k all) in
    record {
      into = λ x m z i.
          let r = (lowest_items T k (T.subs k x)).back z i in
          below.into r.0 (in_in_order (T.order k) (T.linear k) r.0 all (in_flat_map (T.subs k) r.0 x xs m r.1)) z r.2;
      back = λ z m.
          let r = below.back z m in
          let q = of_flat_map (T.subs k) r.0 xs (of_in_order (T.order k) (T.linear k) r.0 all r.1) in
          (q.0, q.1, (lowest_items T k (T.subs k q.0)).into r.0 q.2 z r.2);
    }

pub under_ascends : (T : Levels) (k : ℕ) (xs : List (T.Item (suc k))) → Ascends (T.order k) (under T k xs)
unfolding under
under_ascends T k xs = in_order_ascends (T.order k) (T.linear k) (flat_map (T.subs k) xs)

pub under_good : (T : Levels) (G : Sets T) (k : ℕ) (xs : List (T.Item (suc k))) → AllGood T G (suc k) xs
    → AllGood T G k (under T k xs)
unfolding under
under_good T G k xs h y m =
    let r = of_flat_map (T.subs k) y xs (of_in_order (T.order k) (T.linear k) y (flat_map (T.subs k) xs) m) in
    G.good k r.0 (h r.0 r.1) y r.2

pub lowest_ascends : (T : Levels) (k : ℕ) (xs : List (T.Item k)) → Ascends (T.order k) xs
    → Ascends (T.order zero) (lowest T k xs)
unfolding lowest
lowest_ascends T zero xs h = h
lowest_ascends T (suc k) xs h = lowest_ascends T k (under T k xs) (under_ascends T k xs)

pub lowest_good : (T : Levels) (G : Sets T) (k : ℕ) (xs : List (T.Item k)) → AllGood T G k xs
    → AllGood T G zero (lowest T k xs)
unfolding lowest
lowest_good T G zero xs h = h
lowest_good T G (suc k) xs h = lowest_good T G k (under T k xs) (under_good T G k xs h)

pub lowest_in_ascends : (T : Levels) (G : Sets T) (k : ℕ) (x : T.Item k) → G.Good k x
    → Ascends (T.order zero) (lowest_in T k x)
unfolding lowest_in
lowest_in_ascends T G zero x h = ((λ y i. elim i [ ]), tt)
lowest_in_ascends T G (suc k) x h = lowest_ascends T k (T.subs k x) (G.ascends k x h)

pub lowest_in_good : (T : Levels) (G : Sets T) (k : ℕ) (x : T.Item k) → G.Good k x → AllGood T G zero (lowest_in T k x)
unfolding lowest_in
lowest_in_good T G zero x h y (Memᴰ.head e) = subst (G.Good zero) (sym e) h
lowest_in_good T G zero x h y (Memᴰ.tail i) = elim i [ ]
lowest_in_good T G (suc k) x h y m = lowest_good T G k (T.subs k x) (G.good k x h) y m

-- ---- the lowest level taken off

-- the subs of what is lowest above are lowest
lowest_over : (T : Levels) (k : ℕ) (xs : List (T.Item (suc k))) (y : T.Item (suc zero)) → Mem y (lowest (over T) k xs)
    → (z : T.Item zero) → Mem z (T.subs zero y) → Mem z (lowest T (suc k) xs)
unfolding lowest under
lowest_over T zero xs y m z i =
    in_in_order (T.order zero) (T.linear zero) z (flat_map (T.subs zero) xs) (in_flat_map (T.subs zero) z y xs m i)
lowest_over T (suc k) xs y m z i = lowest_over T k (items_in_order T (suc k) (flat_map (T.subs (suc k)) xs)) y m z i

pub lowest_in_over : (T : Levels) (k : ℕ) (x : T.Item (suc k)) (y : T.Item (suc zero))
    → Mem y (lowest_in (over T) k x) → (z : T.Item zero) → Mem z (T.subs zero y) → Mem z (lowest_in T (suc k) x)
unfolding lowest_in lowest
lowest_in_over T zero x y (Memᴰ.head e) z i = subst (λ (w : T.Item (suc zero)). Mem z (T.subs zero w)) e i
lowest_in_over T zero x y (Memᴰ.tail m) z i = elim m [ ]
lowest_in_over T (suc k) x y m z i = lowest_over T k (T.subs (suc k) x) y m z i

upper_over : (T : Levels) (k : ℕ) (xs : List (T.Item (suc k))) (last : List Elements)
    → upper_ranks T (suc k) xs last
    ≡ map (places_in T zero (lowest T (suc k) xs)) (lowest (over T) k xs) ∷ upper_ranks (over T) k xs last
unfolding upper_ranks lowest under
upper_over T zero xs last = refl
upper_over T (suc k) xs last =
    let all = items_in_order T (suc k) (flat_map (T.subs (suc k)) xs) in
    upper_over T k all (map (places_in T (suc k) all) xs ∷ last)

-- the ranks of a figure above its lowest are those of the levels above, items written as the places of their subs
pub ranks_over : (T : Levels) (write : T.Item zero → List ℕ) (k : ℕ) (xs : List (T.Item (suc k)))
    → ranks_on T write (suc k) xs
    ≡ map write (lowest T (suc k) xs) ∷ ranks_on (over T) (places_in T zero (lowest T (suc k) xs)) k xs
unfolding ranks_on
ranks_over T write k xs =
    ap (λ (r : List Elements). map write (lowest T (suc k) xs) ∷ r) (upper_over T k xs (body_of (length xs)))

pub ranks_of_over : (T : Levels) (G : Sets T) (write : T.Item zero → List ℕ) (k : ℕ) (x : T.Item (suc k))
    → G.Good (suc k) x
    → ranks_of T write (suc k) x
    ≡ map write (lowest_in T (suc k) x) ∷ ranks_of (over T) (places_in T zero (lowest_in T (suc k) x)) k x
unfolding ranks_of ranks_on lowest_in lowest upper_ranks body_of
ranks_of_over T G write zero x h =
    ap (λ (body : List ℕ). map write (T.subs zero x) ∷ (body ∷ []) ∷ [])
    (sym (own_places (T.order zero) (T.linear zero) (T.subs zero x) (G.ascends zero x h)))
ranks_of_over T G write (suc k) x h = ranks_over T write k (T.subs (suc k) x)

-- ---- the lowest items written otherwise

pub ranks_of_sent : (T : Levels) (write other : T.Item zero → List ℕ) (f : ℕ → ℕ) (k : ℕ) (x : T.Item k)
    → ((z : T.Item zero) → Mem z (lowest_in T k x) → sort_nats (map f (write z)) ≡ other z)
    → lowest_by f (ranks_of T write k x) ≡ ranks_of T other k x
unfolding ranks_of ranks_on lowest_in lowest_by renumber
ranks_of_sent T write other f zero x same = ap (λ (e : List ℕ). (e ∷ []) ∷ []) (same x (here refl))
ranks_of_sent T write other f (suc k) x same =
    let all = lowest T k (T.subs k x) in
    ap (λ (es : Elements). es ∷ upper_ranks T k (T.subs k x) (body_of (length (T.subs k x))))
    (map-map (λ (e : List ℕ). sort_nats (map f e)) write all
    ∙ map_same (λ (z : T.Item zero). sort_nats (map f (write z))) other all same)
