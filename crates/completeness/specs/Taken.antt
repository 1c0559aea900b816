-- Every list that the search emits is an order of a closed choice: each facet was one that may be taken next. Over
-- any table; a closed list may be extended or not.
use Rattle.std.specs.Prelude.{◌≡◌, refl, ◌⊎◌, Bool, not, ◌&&◌, ◌||◌, T, leb, ltb, eqb, length}
use Rattle.std.proofs.Common.{sym, ◌∙◌, inl, inr, lt→ltb, le→leb}
use Rattle.std.proofs.Math.Path.{ap, subst}
use Rattle.std.proofs.Math.Bool.{true, false}
use mathlib.Core.List.Permᴰ
use mathlib.Core.List.{List, [], ◌∷◌, ◌++◌, map, reverse_aux, append_assoc, append-nil, Memᴰ, Permᴰ, Pairwise}
use Rattle.std.specs.Prelude.{Option, Some, None}
use Prim.Native.Nat.{ℕ, ◌≤◌, ◌<◌, compare, Ordering}
use native.Mathlib.Omega.{arith}
use Rattle.std.proofs.Math.Dec.{eqb_refl, compare_is_eq}
use Rattle.definitions.specs.Lists.{is_gt, then_by, compare_pair, sort_by, member_pair, all_of, count_from}
use Rattle.definitions.specs.Search.{Table, Facet, Item, Verdict, over, closed, open_at, total, totals, judge}
use Rattle.definitions.specs.Search.{all_facets, starts, joined, ones_at}
use Rattle.definitions.specs.Demands.{is_possible, orbits_ascend, is_choice, choice_of, is_closed_choice, lowest_open}
use Rattle.definitions.specs.Demands.{is_next, without, is_order_of}
use Rattle.laws.specs.Bools.{true→holds, fails→false, both, left_of, right_of, not_not}
use Rattle.laws.specs.Lists.{Mem, here, in_append, of_map, of_reversed, of_flat_map, any_of_holds, all_by, keep_all}
use Rattle.laws.specs.Lists.{of_count}
use Rattle.laws.specs.Orders.{nats, pairs, is_eq, compare_lt}
use Rattle.laws.specs.Pairs.{Pairs}
use Rattle.laws.specs.Sorting.{perm_member, perm_length, pairs_perm, sort_perm, of_sorted, keep_insert, sort_ascends}
use Rattle.completeness.specs.Tree.{yield_eq, induct}
use Rattle.completeness.specs.Verdicts.{Means, is_open, is_closed, judge_means, ZeroOrTwo, total_perm, closed_judged}
use Rattle.completeness.specs.Facets.{facet_possible}
use Rattle.completeness.specs.Walk.{Joins, children_by, children, verdict_of, own, own_by, unused, falls, open_child}
use Rattle.completeness.specs.Walk.{closed_child, unused_before, closed_in, closed_among, closed_lists}

-- ---- the choice of a list

pub choice_perm : (l : List Facet) → Permᴰ (choice_of l) l
unfolding choice_of
choice_perm l = sort_perm compare_pair l

pub in_choice : (f : Facet) (l : List Facet) → Mem f l → Mem f (choice_of l)
in_choice f l = perm_member (Permᴰ.symm (choice_perm l)) f

pub of_choice : (f : Facet) (l : List Facet) → Mem f (choice_of l) → Mem f l
of_choice f l = perm_member (choice_perm l) f

same_pair : (f : Facet) → T (compare_is_eq (compare_pair f f))
same_pair f = subst (λ (o : Ordering). T (compare_is_eq o)) (sym (pairs.self f)) tt

-- what is left when a facet is taken out of the choice of a list that begins with it
pub choice_without : (f : Facet) (rest : List Facet) → (Mem f rest → ⊥)
    → without f (choice_of (f ∷ rest)) ≡ choice_of rest
unfolding without choice_of sort_by
choice_without f rest n =
    keep_insert compare_pair other f (sort_by compare_pair rest)
    (fails→false (other f) (not_not (compare_is_eq (compare_pair f f)) (same_pair f)))
    ∙ keep_all other (sort_by compare_pair rest) (λ g h. differs g (of_sorted compare_pair g rest h))
  where
    other : Facet → Bool
    other g = not (compare_is_eq (compare_pair f g))

    differs : (g : Facet) → Mem g rest → T (not (compare_is_eq (compare_pair f g)))
    differs g h = go (compare_is_eq (compare_pair f g)) refl
      where
        go : (b : Bool) → compare_is_eq (compare_pair f g) ≡ b → T (not b)
        go true e =
            absurd (n
            (subst (λ (x : Facet). Mem x rest) (sym (pairs.equal f g (is_eq (compare_pair f g) (true→holds e)))) h))
        go false e = tt

-- one facet more in front of an order
pub order_step : (t : Table) (taken rest : List Facet) (f : Facet) → (Mem f rest → ⊥)
    → T (is_next t (lowest_open t taken) (choice_of (f ∷ rest)) f)
    → T (is_order_of t (taken ++ (f ∷ [])) (choice_of rest) rest)
    → T (is_order_of t taken (choice_of (f ∷ rest)) (f ∷ rest))
unfolding is_order_of member_pair
order_step t taken rest f n next order =
    both (member_pair f (choice_of (f ∷ rest)) && is_next t (lowest_open t taken) (choice_of (f ∷ rest)) f)
    (is_order_of t (taken ++ (f ∷ [])) (without f (choice_of (f ∷ rest))) rest)
    (both (member_pair f (choice_of (f ∷ rest))) (is_next t (lowest_open t taken) (choice_of (f ∷ rest)) f) member next)
    (subst (λ (l : List Facet). T (is_order_of t (taken ++ (f ∷ [])) l rest)) (sym (choice_without f rest n)) order)
  where
    member : T (member_pair f (choice_of (f ∷ rest)))
    member =
        any_of_holds (λ (g : Facet). compare_is_eq (compare_pair f g)) f (choice_of (f ∷ rest))
        (in_choice f (f ∷ rest) (here refl)) (same_pair f)

-- ---- a list below an item of the tree: the item's list, and behind it an order of what is left of the choice

abbrev pub OtherOrbit : Facet → Facet → Type 0
OtherOrbit f g = f.0 ≡ g.0 → ⊥

pub record Extends (t : Table) (item : Item) (e : List Facet) : Type 0 where
  pub rest : List Facet
  pub whole : e ≡ item.list ++ rest
  pub joins : (f : Facet) → Mem f rest → Joins t item f
  pub apart : Pairs OtherOrbit rest
  pub order : T (is_order_of t item.list (choice_of rest) rest)
  pub is_closed : ZeroOrTwo t e

-- the item's own list
pub extends_self : (t : Table) (item : Item) → ZeroOrTwo t item.list → Extends t item item.list
unfolding is_order_of choice_of sort_by
extends_self t item z = record {
  rest = [];
  whole = sym (append-nil item.list);
  joins = λ f h. elim h [ ];
  apart = tt;
  order = eqb_refl 0;
  is_closed = z;
}

-- a list below a child: `next` is what makes the joined facet the one that may be taken next
module _ (t : Table) (item : Item) (f : Facet) (mark : ℕ) (j : Joins t item f) (higher : item.mark ≤ mark)
    (e : List Facet) (x : Extends t (joined item mark f) e) where
  -- an item of the rest joins the item too, and has another orbit than f
  later : (g : Facet) → Mem g x.rest → Joins t item g × (g.0 ≡ f.0 → ⊥)
  unfolding joined
  later g h =
      let k = x.joins g h in
      let less = k.1 in
      let u = unused_before g.0 item.list f k.2 in
      ((k.0, omega arith, u.0), u.1)

  pub not_again : Mem f x.rest → ⊥
  not_again h = (later f h).1 refl

  pub extends_child : T (is_next t (lowest_open t item.list) (choice_of (f ∷ x.rest)) f) → Extends t item e
  unfolding joined
  extends_child next = record {
    rest = f ∷ x.rest;
    whole = x.whole ∙ append_assoc item.list (f ∷ []) x.rest;
    joins = all_join;
    apart = ((λ g h q. (later g h).1 (sym q)), x.apart);
    order = order_step t item.list x.rest f not_again next x.order;
    is_closed = x.is_closed;
  }
    where
      all_join : (g : Facet) → Mem g (f ∷ x.rest) → Joins t item g
      all_join g (Memᴰ.head q) = subst (Joins t item) (sym q) j
      all_join g (Memᴰ.tail h) = (later g h).0

-- taken where a ridge orbit is open
pub next_open : (t : Table) (taken remaining : List Facet) (f : Facet) (ridge : ℕ) → lowest_open t taken ≡ Some ridge
    → 0 < ones_at t ridge f → T (is_next t (lowest_open t taken) remaining f)
unfolding is_next
next_open t taken remaining f ridge e h =
    subst (λ (o : Option ℕ). T (is_next t o remaining f)) (sym e) (lt→ltb 0 (ones_at t ridge f) h)

-- taken where none is open: the lowest orbit left
pub next_lowest : (t : Table) (taken remaining : List Facet) (f : Facet) → lowest_open t taken ≡ None
    → ((g : Facet) → Mem g remaining → f.0 ≤ g.0) → T (is_next t (lowest_open t taken) remaining f)
unfolding is_next
next_lowest t taken remaining f e h =
    subst (λ (o : Option ℕ). T (is_next t o remaining f)) (sym e)
    (all_by (λ (g : Facet). leb f.0 g.0) remaining (λ g m. le→leb f.0 g.0 (h g m)))

module _ (extended : Bool) (t : Table) where
  below_closed : (item : Item) (f : Facet) → Joins t item f → lowest_open t item.list ≡ None → (e : List Facet)
      → Extends t (joined item f.0 f) e → Extends t item e
  unfolding joined
  below_closed item f j low e x =
      let k = j.1 in
      extends_child t item f f.0 j (omega arith) e x
      (next_lowest t item.list (choice_of (f ∷ x.rest)) f low (λ g h. lowest g (of_choice g (f ∷ x.rest) h)))
    where
      lowest : (g : Facet) → Mem g (f ∷ x.rest) → f.0 ≤ g.0
      lowest g (Memᴰ.head q) = let z = ap (λ (y : Facet). y.0) q in omega arith
      lowest g (Memᴰ.tail h) = let z = (x.joins g h).1 in omega arith

  -- below a child of an open list, and below one of a closed list
  by_verdict : (item j : Item) (v : Verdict) → Means t item.list v → Mem j (children_by extended t item v)
      → (e : List Facet) → Extends t j e → Extends t item e
  unfolding children_by
  by_verdict item j over m h e x = elim h [ ]
  by_verdict item j (open_at r) (is_open ridge a b c low) h e x =
      let q = open_child t item ridge j h in
      extends_child t item q.0 item.mark q.1 (omega arith) e (subst (λ (y : Item). Extends t y e) q.3 x)
      (next_open t item.list (choice_of (q.0 ∷ (subst (λ (y : Item). Extends t y e) q.3 x).rest)) q.0 ridge low q.2)
  by_verdict item j closed (is_closed z low) h e x = by_closed extended h
    where
      by_closed : (b : Bool) → Mem j (children_by b t item closed) → Extends t item e
      by_closed true k =
          let q = closed_child t item j k in
          below_closed item q.0 q.1 low e (subst (λ (y : Item). Extends t y e) q.2 x)
      by_closed false k = elim k [ ]

  pub emitted_extends : (item : Item) (e : List Facet) → Mem e (closed_in extended t item) → Extends t item e
  unfolding children own own_by verdict_of
  emitted_extends =
      induct (children extended t) (own t) (unused t) (falls extended t)
      (λ (item : Item). (e : List Facet) → Mem e (closed_in extended t item) → Extends t item e) at_item
    where
      own_list : (item : Item) (v : Verdict) → Means t item.list v → (e : List Facet) → Mem e (own_by item.list v)
          → Extends t item e
      own_list item over m e h = elim h [ ]
      own_list item (open_at r) m e h = elim h [ ]
      own_list item closed (is_closed z low) e (Memᴰ.head q) = subst (Extends t item) (sym q) (extends_self t item z)
      own_list item closed (is_closed z low) e (Memᴰ.tail h) = elim h [ ]

      at_item : (item : Item) → ((j : Item) → Mem j (children extended t item) → (e : List Facet)
          → Mem e (closed_in extended t j) → Extends t j e) → (e : List Facet) → Mem e (closed_in extended t item)
          → Extends t item e
      at_item item ih e h =
          go (in_append e (own t item) (closed_among extended t (reverse_aux (children extended t item) []))
          (subst (λ (l : List (List Facet)). Mem e l)
          (yield_eq (children extended t) (own t) (unused t) (falls extended t) item) h))
        where
          from : (j : Item) → Mem j (children extended t item) ⊎ Mem j [] → Mem e (closed_in extended t j)
              → Extends t item e
          from j (inl k) m = by_verdict item j (verdict_of t item) (judge_means t item.list) k e (ih j k e m)
          from j (inr k) m = elim k [ ]

          go : Mem e (own t item) ⊎ Mem e (closed_among extended t (reverse_aux (children extended t item) []))
              → Extends t item e
          go (inl k) = own_list item (verdict_of t item) (judge_means t item.list) e k
          go (inr k) =
              let r = of_flat_map (closed_in extended t) e (reverse_aux (children extended t item) []) k in
              from r.0 (of_reversed r.0 (children extended t item) [] r.1) r.2

-- ---- the choice of such a list is a closed choice

other_orbit_flip : (f g : Facet) → OtherOrbit f g → OtherOrbit g f
other_orbit_flip f g n e = n (sym e)

-- a facet that is not above another of another orbit has a lower orbit
lower_orbit : (f g : Facet) → T (not (is_gt (compare_pair f g))) → OtherOrbit f g → f.0 < g.0
unfolding compare_pair then_by is_gt
lower_orbit f g h n = go (compare f.0 g.0) refl h
  where
    go : (o : Ordering) → compare f.0 g.0 ≡ o → T (not (is_gt (then_by o (compare f.1 g.1)))) → f.0 < g.0
    go Ordering.lt e k = compare_lt f.0 g.0 e
    go Ordering.eq e k = absurd (n (nats.equal f.0 g.0 e))
    go Ordering.gt e k = absurd k

abbrev NotAbovePair : Facet → Facet → Type 0
NotAbovePair f g = T (not (is_gt (compare_pair f g)))

ascends : (l : List Facet) → Pairwise NotAbovePair l → Pairs OtherOrbit l → T (orbits_ascend l)
unfolding orbits_ascend
ascends [] p d = tt
ascends (f ∷ []) p d = tt
ascends (f ∷ g ∷ l) (Pairwise.cons low p) d =
    both (ltb f.0 g.0) (orbits_ascend (g ∷ l))
    (lt→ltb f.0 g.0 (lower_orbit f g (low g ∣ here refl ∣₁) (d.0 g (here refl)))) (ascends (g ∷ l) p d.1)

choice_ascends : (l : List Facet) → Pairs OtherOrbit l → T (orbits_ascend (choice_of l))
unfolding choice_of
choice_ascends l d =
    ascends (sort_by compare_pair l) (sort_ascends compare_pair pairs (λ (f : Facet). f) l)
    (pairs_perm OtherOrbit other_orbit_flip (Permᴰ.symm (choice_perm l)) d)

zero_or_two : (n : ℕ) → (n ≡ 0) ⊎ (n ≡ 2) → T (eqb 0 n || eqb 2 n)
zero_or_two n (inl e) = left_of (eqb 0 n) (eqb 2 n) (subst (λ (x : ℕ). T (eqb 0 x)) (sym e) (eqb_refl 0))
zero_or_two n (inr e) = right_of (eqb 0 n) (eqb 2 n) (subst (λ (x : ℕ). T (eqb 2 x)) (sym e) (eqb_refl 2))

pub closed_totals : (t : Table) (c : List Facet) → ZeroOrTwo t c
    → T (all_of (λ (n : ℕ). eqb 0 n || eqb 2 n) (totals t c))
unfolding totals
closed_totals t c z =
    all_by (λ (n : ℕ). eqb 0 n || eqb 2 n) (map (total t c) (count_from 0 t.ridges))
    (λ n h. let r = of_map (total t c) n (count_from 0 t.ridges) h in
    let k = (of_count 0 t.ridges r.0 r.1).1 in
    subst (λ (x : ℕ). T (eqb 0 x || eqb 2 x)) (sym r.2) (zero_or_two (total t c r.0) (z r.0 (omega arith))))

pub closed_choice : (t : Table) (e : List Facet) → 0 < length e → ((f : Facet) → Mem f e → Mem f (all_facets t))
    → Pairs OtherOrbit e → ZeroOrTwo t e → T (is_closed_choice t (choice_of e))
unfolding is_closed_choice is_choice
closed_choice t e n possible d z =
    both (ltb 0 (length (choice_of e)) && all_of (is_possible t) (choice_of e) && orbits_ascend (choice_of e))
    (all_of (λ (x : ℕ). eqb 0 x || eqb 2 x) (totals t (choice_of e)))
    (both (ltb 0 (length (choice_of e)) && all_of (is_possible t) (choice_of e)) (orbits_ascend (choice_of e))
    (both (ltb 0 (length (choice_of e))) (all_of (is_possible t) (choice_of e))
    (let k = perm_length (choice_perm e) in lt→ltb 0 (length (choice_of e)) (omega arith))
    (all_by (is_possible t) (choice_of e) (λ f h. facet_possible t f (possible f (of_choice f e h)))))
    (choice_ascends e d))
    (closed_totals t (choice_of e) (λ ridge h.
    subst (λ (x : ℕ). (x ≡ 0) ⊎ (x ≡ 2)) (sym (total_perm t ridge (choice_perm e))) (z ridge h)))

-- ---- from the starts

abbrev pub start_at : Facet → Item
start_at f = record { list = f ∷ []; mark = f.0 }

pub start_of : (t : Table) (item : Item) → Mem item (starts t)
    → (f : Facet) × Mem f (all_facets t) × (item ≡ start_at f)
unfolding starts
start_of t item h = of_map start_at item (all_facets t) h

-- nothing taken: no ridge orbit is open
pub nothing_open : (t : Table) → lowest_open t [] ≡ None
unfolding total
nothing_open t = go (judge (totals t [])) (closed_judged t [] (λ ridge h. inl (no_total ridge))) (judge_means t [])
  where
    no_total : (ridge : ℕ) → total t [] ridge ≡ 0
    no_total ridge = refl

    go : (v : Verdict) → v ≡ closed → Means t [] v → lowest_open t [] ≡ None
    go v e m = by (subst (Means t []) e m)
      where
        by : Means t [] closed → lowest_open t [] ≡ None
        by (is_closed z low) = low

-- what a list below a start says: it is an order of a closed choice
pub start_extends : (t : Table) (f : Facet) → Mem f (all_facets t) → (e : List Facet) → Extends t (start_at f) e
    → T (is_order_of t [] (choice_of e) e) × T (is_closed_choice t (choice_of e)) × Pairs OtherOrbit e
start_extends t f possible e x = (
  subst (λ (l : List Facet). T (is_order_of t [] (choice_of l) l)) (sym x.whole) order,
  closed_choice t e long all_possible others x.is_closed,
  others,
)
  where
    less : (g : Facet) → Mem g x.rest → f.0 < g.0
    less g h = (x.joins g h).1

    lowest : (g : Facet) → Mem g (choice_of (f ∷ x.rest)) → f.0 ≤ g.0
    lowest g h = go (of_choice g (f ∷ x.rest) h)
      where
        go : Mem g (f ∷ x.rest) → f.0 ≤ g.0
        go (Memᴰ.head q) = let z = ap (λ (y : Facet). y.0) q in omega arith
        go (Memᴰ.tail k) = let z = less g k in omega arith

    not_in : Mem f x.rest → ⊥
    not_in h = let z = less f h in omega arith

    order : T (is_order_of t [] (choice_of (f ∷ x.rest)) (f ∷ x.rest))
    order =
        order_step t [] x.rest f not_in (next_lowest t [] (choice_of (f ∷ x.rest)) f (nothing_open t) lowest) x.order

    others : Pairs OtherOrbit e
    others = subst (Pairs OtherOrbit) (sym x.whole) ((λ g h q. let z = less g h in omega arith), x.apart)

    long : 0 < length e
    long = let q = ap length x.whole in omega arith

    all_possible : (g : Facet) → Mem g e → Mem g (all_facets t)
    all_possible g h = go (subst (λ (l : List Facet). Mem g l) x.whole h)
      where
        go : Mem g (f ∷ x.rest) → Mem g (all_facets t)
        go (Memᴰ.head q) = subst (λ (y : Facet). Mem y (all_facets t)) (sym q) possible
        go (Memᴰ.tail k) = (x.joins g k).0

-- every emitted list is an order of its choice, which is closed
pub emitted_order : (extended : Bool) (t : Table) (e : List Facet) → Mem e (closed_lists extended t)
    → T (is_order_of t [] (choice_of e) e) × T (is_closed_choice t (choice_of e)) × Pairs OtherOrbit e
emitted_order extended t e h =
    let r = of_flat_map (closed_in extended t) e (reverse_aux (starts t) []) h in
    from r.0 (of_reversed r.0 (starts t) [] r.1) r.2
  where
    from : (item : Item) → Mem item (starts t) ⊎ Mem item [] → Mem e (closed_in extended t item)
        → T (is_order_of t [] (choice_of e) e) × T (is_closed_choice t (choice_of e)) × Pairs OtherOrbit e
    from item (inl k) m =
        let s = start_of t item k in
        start_extends t s.0 s.1 e (subst (λ (y : Item). Extends t y e) s.2 (emitted_extends extended t item e m))
    from item (inr k) m = elim k [ ]
