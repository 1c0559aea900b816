-- Every closed choice has an order that the search emits, whatever the shares: where a ridge orbit is open, what is
-- left of the choice has a facet with just one place there, with share 1. Over any table, where closed lists are
-- extended.
use Rattle.std.specs.Prelude.{◌≡◌, refl, ◌⊎◌, Bool, true, false, not, ◌&&◌, T, eqb, length, replicate}
use Rattle.std.proofs.Common.{sym, ap, subst, inl, inr, arith, eqb→eq}
use mathlib.Core.List.{List, [], ◌∷◌, ◌++◌, flat_map, reverse_aux, append_assoc, append-nil, Memᴰ}
use Prim.Native.Nat.{ℕ, zero, suc, ◌+◌, ◌≤◌, ◌<◌, Ordering}
use Rattle.std.proofs.Math.Dec.{eqb_refl, compare_is_eq}
use Rattle.definitions.specs.Lists.{compare_pair, member_pair, any_of, keep}
use Rattle.definitions.specs.Search.{Table, Facet, Item, Verdict, over, closed, open_at, adds, total, totals, judge}
use Rattle.definitions.specs.Search.{all_facets, starts, uses_orbit, may_join, joined, ones_at, open_next, closed_next}
use Rattle.definitions.specs.Demands.{is_closed_choice, lowest_open, is_next, without, is_order_of}
use Rattle.laws.specs.Bools.{true→holds, both, neither}
use Rattle.laws.specs.Lists.{Mem, here, there, in_left, in_right, in_map, in_flat_map, in_reversed, replicate_in}
use Rattle.laws.specs.Lists.{any_of_holds}
use Rattle.laws.specs.Orders.{pairs}
use Rattle.laws.specs.Pairs.{Pairs}
use Rattle.laws.specs.Sorting.{perm_length}
use Rattle.completeness.specs.Tree.{yield_eq}
use Rattle.completeness.specs.Verdicts.{Means, is_over, is_open, is_closed, judge_means, ZeroOrTwo, total_joined}
use Rattle.completeness.specs.Verdicts.{total_perm, closed_judged}
use Rattle.completeness.specs.Facets.{Different, adds_one}
use Rattle.completeness.specs.Walk.{Joins, joins_in, children_by, children, verdict_of, own, own_by, unused, falls}
use Rattle.completeness.specs.Walk.{unused_after, closed_in, closed_among, closed_lists}
use Rattle.completeness.specs.Taken.{start_at, next_lowest, next_open, nothing_open}
use Rattle.completeness.specs.Choices.{Lower, one_each, of_without, without_ascends, without_first, without_perm}
use Rattle.completeness.specs.Choices.{ClosedChoice, closed_choice_of}

-- ---- children

pub into_open : (t : Table) (item : Item) (ridge : ℕ) (f : Facet) → Joins t item f → 0 < ones_at t ridge f
    → Mem (joined item item.mark f) (open_next t item ridge)
unfolding open_next
into_open t item ridge f j h =
    in_map (joined item item.mark) f
    (flat_map (λ (g : Facet). replicate (ones_at t ridge g) g) (keep (may_join item) (all_facets t)))
    (in_flat_map (λ (g : Facet). replicate (ones_at t ridge g) g) f f (keep (may_join item) (all_facets t))
    (joins_in t item f j) (replicate_in (ones_at t ridge f) f h))

pub into_closed : (t : Table) (item : Item) (f : Facet) → Joins t item f → Mem (joined item f.0 f) (closed_next t item)
unfolding closed_next
into_closed t item f j =
    in_map (λ (g : Facet). joined item g.0 g) f (keep (may_join item) (all_facets t)) (joins_in t item f j)

-- what is emitted below a child is emitted below the item
pub below_child : (extended : Bool) (t : Table) (item j : Item) (e : List Facet) → Mem j (children extended t item)
    → Mem e (closed_in extended t j) → Mem e (closed_in extended t item)
below_child extended t item j e h k =
    subst (λ (l : List (List Facet)). Mem e l)
    (sym (yield_eq (children extended t) (own t) (unused t) (falls extended t) item))
    (in_right e (own t item) (closed_among extended t (reverse_aux (children extended t item) []))
    (in_flat_map (closed_in extended t) e j (reverse_aux (children extended t item) [])
    (in_reversed j (children extended t item) [] (inl h)) k))

-- ---- a facet that adds 1, where all that is left adds 1

pub adding_one : (t : Table) (ridge : ℕ) (l : List Facet) → total t l ridge ≡ 1
    → (f : Facet) × Mem f l × (adds t ridge f ≡ 1)
unfolding total
adding_one t ridge [] e = absurd (omega arith)
adding_one t ridge (g ∷ l) e = go (adds t ridge g) refl (λ q. adding_one t ridge l q)
  where
    go : (n : ℕ) → adds t ridge g ≡ n → (total t l ridge ≡ 1 → (f : Facet) × Mem f l × (adds t ridge f ≡ 1))
        → (f : Facet) × Mem f (g ∷ l) × (adds t ridge f ≡ 1)
    go zero a ih = let r = ih (omega arith) in (r.0, there r.1, r.2)
    go (suc n) a ih = (g, here refl, omega arith)

-- ---- what is taken of a choice, and what is left

-- the two together have a total of 0 or 2 in every ridge orbit
abbrev pub Closing : Table → List Facet → List Facet → Type 0
Closing t taken left =
    (ridge : ℕ) → ridge < t.ridges
    → (total t taken ridge + total t left ridge ≡ 0) ⊎ (total t taken ridge + total t left ridge ≡ 2)

-- and so they have when one facet more is taken
pub closing_after : (t : Table) (taken left : List Facet) (f : Facet) → Pairs Lower left → Mem f left
    → Closing t taken left → Closing t (taken ++ (f ∷ [])) (without f left)
unfolding total
closing_after t taken left f up h closing ridge k =
    let a = total_perm t ridge (without_perm f left up h) in
    let b = total_joined t taken f ridge in
    subst (λ (n : ℕ). (n ≡ 0) ⊎ (n ≡ 2)) (same a b) (closing ridge k)
  where
    same : total t left ridge ≡ adds t ridge f + total t (without f left) ridge
        → total t (taken ++ (f ∷ [])) ridge ≡ total t taken ridge + adds t ridge f
        → total t taken ridge + total t left ridge ≡ total t (taken ++ (f ∷ [])) ridge + total t (without f left) ridge
    same a b = omega arith

-- What is left may join an item, ascends by orbit, and closes its list.
pub record Remaining (t : Table) (item : Item) (left : List Facet) : Type 0 where
  pub joins : (f : Facet) → Mem f left → Joins t item f
  pub ascending : Pairs Lower left
  pub closing : Closing t item.list left

-- one facet taken, at a mark below all others that are left
take_one : (t : Table) (item : Item) (left : List Facet) (f : Facet) (mark : ℕ) → Remaining t item left → Mem f left
    → ((g : Facet) → Mem g (without f left) → mark < g.0)
    → Remaining t (joined item mark f) (without f left)
unfolding joined
take_one t item left f mark r h above = record {
  joins = still_joins;
  ascending = without_ascends f left r.ascending;
  closing = closing_after t item.list left f r.ascending h r.closing;
}
  where
    still_joins : (g : Facet) → Mem g (without f left) → Joins t (joined item mark f) g
    still_joins g k =
        let w = of_without f g left k in
        let j = r.joins g w.0 in
        (j.0, above g k, unused_after g.0 item.list f j.2 (λ e. w.1 (one_each left r.ascending f g h w.0 (sym e))))

-- ---- the induction on what is left

-- an emitted list that goes on from the item's list in an order of what is left
pub record Reached (t : Table) (item : Item) (left : List Facet) : Type 0 where
  pub order : List Facet
  pub emitted : Mem (item.list ++ order) (closed_in true t item)
  pub is_order : T (is_order_of t item.list left order)

own_closed : (t : Table) (item : Item) → judge (totals t item.list) ≡ closed → Mem item.list (closed_in true t item)
unfolding own own_by verdict_of
own_closed t item e =
    subst (λ (l : List (List Facet)). Mem item.list l)
    (sym (yield_eq (children true t) (own t) (unused t) (falls true t) item))
    (in_left item.list (own t item) (closed_among true t (reverse_aux (children true t item) []))
    (subst (λ (v : Verdict). Mem item.list (own_by item.list v)) (sym e) (here refl)))

-- nothing left: the list is closed, and is emitted itself
at_end : (t : Table) (item : Item) → Remaining t item [] → Reached t item []
unfolding is_order_of total
at_end t item r = record {
  order = [];
  emitted =
      subst (λ (l : List Facet). Mem l (closed_in true t item)) (sym (append-nil item.list))
      (own_closed t item (closed_judged t item.list zero_two));
  is_order = eqb_refl 0;
}
  where
    zero_two : ZeroOrTwo t item.list
    zero_two ridge h = go (r.closing ridge h)
      where
        go : (total t item.list ridge + 0 ≡ 0) ⊎ (total t item.list ridge + 0 ≡ 2)
            → (total t item.list ridge ≡ 0) ⊎ (total t item.list ridge ≡ 2)
        go (inl e) = inl (omega arith)
        go (inr e) = inr (omega arith)

-- a child that takes f of what is left, f being one that may be taken next
by_child : (t : Table) (item : Item) (left : List Facet) (f : Facet) (mark : ℕ) → Mem f left
    → T (is_next t (lowest_open t item.list) left f)
    → Mem (joined item mark f) (children true t item) → Reached t (joined item mark f) (without f left)
    → Reached t item left
unfolding is_order_of member_pair joined
by_child t item left f mark h next child x = record {
  order = f ∷ x.order;
  emitted = below_child true t item (joined item mark f) (item.list ++ (f ∷ x.order)) child
      (subst (λ (l : List Facet). Mem l (closed_in true t (joined item mark f)))
      (append_assoc item.list (f ∷ []) x.order) x.emitted);
  is_order =
      both (member_pair f left && is_next t (lowest_open t item.list) left f)
      (is_order_of t (item.list ++ (f ∷ [])) (without f left) x.order)
      (both (member_pair f left) (is_next t (lowest_open t item.list) left f)
      (any_of_holds (λ (g : Facet). compare_is_eq (compare_pair f g)) f left h
      (subst (λ (o : Ordering). T (compare_is_eq o)) (sym (pairs.self f)) tt)) next)
      x.is_order;
}

-- a total that what is left must bring to 2
pub rest_one : (n m : ℕ) → n ≡ 1 → (n + m ≡ 0) ⊎ (n + m ≡ 2) → m ≡ 1
rest_one n m e (inl k) = absurd (omega arith)
rest_one n m e (inr k) = omega arith

pub never_over : (n m : ℕ) → 2 < n → (n + m ≡ 0) ⊎ (n + m ≡ 2) → ⊥
never_over n m h (inl k) = omega arith
never_over n m h (inr k) = omega arith

abbrev Goes : Table → ℕ → Type 0
Goes t n = (item : Item) (left : List Facet) → length left ≤ n → Remaining t item left → Reached t item left

by_verdict : (t : Table) (n : ℕ) → Goes t n → (item : Item) (f : Facet) (left : List Facet) → length left ≤ n
    → Remaining t item (f ∷ left)
    → (v : Verdict) → verdict_of t item ≡ v → Means t item.list v → Reached t item (f ∷ left)
unfolding children children_by
by_verdict t n ih item f left k r over e (is_over ridge a b) =
    absurd (never_over (total t item.list ridge) (total t (f ∷ left) ridge) b (r.closing ridge a))
by_verdict t n ih item f left k r (open_at x) e (is_open ridge a b c low) =
    let q = adding_one t ridge (f ∷ left)
    (rest_one (total t item.list ridge) (total t (f ∷ left) ridge) b (r.closing ridge a)) in
    let g = q.0 in
    let ones = adds_one t ridge g q.2 in
    let shorter = perm_length (without_perm g (f ∷ left) r.ascending q.1) in
    by_child t item (f ∷ left) g item.mark q.1 (next_open t item.list (f ∷ left) g ridge low ones)
    (subst (λ (v : Verdict). Mem (joined item item.mark g) (children_by true t item v)) (sym e)
    (into_open t item ridge g (r.joins g q.1) ones))
    (ih (joined item item.mark g) (without g (f ∷ left)) (omega arith)
    (take_one t item (f ∷ left) g item.mark r q.1 (λ h m. (r.joins h (of_without g h (f ∷ left) m).0).1)))
by_verdict t n ih item f left k r closed e (is_closed z low) =
    let shorter = perm_length (without_perm f (f ∷ left) r.ascending (here refl)) in
    by_child t item (f ∷ left) f f.0 (here refl) (next_lowest t item.list (f ∷ left) f low lowest)
    (subst (λ (v : Verdict). Mem (joined item f.0 f) (children_by true t item v)) (sym e)
    (into_closed t item f (r.joins f (here refl))))
    (ih (joined item f.0 f) (without f (f ∷ left)) (omega arith) (take_one t item (f ∷ left) f f.0 r (here refl) above))
  where
    lowest : (g : Facet) → Mem g (f ∷ left) → f.0 ≤ g.0
    lowest g (Memᴰ.head q) = let w = ap (λ (y : Facet). y.0) q in omega arith
    lowest g (Memᴰ.tail h) = let w = r.ascending.0 g h in omega arith

    above : (g : Facet) → Mem g (without f (f ∷ left)) → f.0 < g.0
    above g m = go (of_without f g (f ∷ left) m)
      where
        go : Mem g (f ∷ left) × Different f g → f.0 < g.0
        go (Memᴰ.head q, d) = absurd (d (sym q))
        go (Memᴰ.tail h, d) = r.ascending.0 g h

pub reach : (t : Table) (n : ℕ) → Goes t n
unfolding verdict_of
reach t zero item [] k r = at_end t item r
reach t zero item (f ∷ left) k r = absurd (omega arith)
reach t (suc n) item [] k r = at_end t item r
reach t (suc n) item (f ∷ left) k r =
    by_verdict t n (λ i l a b. reach t n i l a b) item f left (omega arith) r (verdict_of t item) refl
    (judge_means t item.list)

-- ---- from the starts

-- the facet of the lowest orbit is a start, and what is left remains
after_first : (t : Table) (f : Facet) (left : List Facet) → ClosedChoice t (f ∷ left) → Remaining t (start_at f) left
unfolding total uses_orbit any_of
after_first t f left k = record {
  joins =
      λ g h. let z = k.ascending.0 g h in
      (k.possible g (there h), z, neither (eqb g.0 f.0) false (other g (λ e. omega arith)) tt);
  ascending = k.ascending.1;
  closing = λ ridge h. subst (λ (n : ℕ). (n ≡ 0) ⊎ (n ≡ 2)) (same ridge) (k.totals_closed ridge h);
}
  where
    same : (ridge : ℕ) → total t (f ∷ left) ridge ≡ total t (f ∷ []) ridge + total t left ridge
    same ridge = omega arith

    other : (g : Facet) → (g.0 ≡ f.0 → ⊥) → T (not (eqb g.0 f.0))
    other g n = go (eqb g.0 f.0) refl
      where
        go : (b : Bool) → eqb g.0 f.0 ≡ b → T (not b)
        go true e = absurd (n (eqb→eq g.0 f.0 (true→holds e)))
        go false e = tt

-- the first facet in front of an order of the others
first_facet : (t : Table) (f : Facet) (left : List Facet) → ClosedChoice t (f ∷ left) → Reached t (start_at f) left
    → (e : List Facet) × Mem e (closed_lists true t) × T (is_order_of t [] (f ∷ left) e)
unfolding is_order_of member_pair starts
first_facet t f left k x = (f ∷ x.order, among, order)
  where
    among : Mem (f ∷ x.order) (closed_lists true t)
    among =
        in_flat_map (closed_in true t) (f ∷ x.order) (start_at f) (reverse_aux (starts t) []) (in_reversed
        (start_at f) (starts t) [] (inl (in_map start_at f (all_facets t) (k.possible f (here refl))))) x.emitted

    lowest : (g : Facet) → Mem g (f ∷ left) → f.0 ≤ g.0
    lowest g (Memᴰ.head q) = let w = ap (λ (y : Facet). y.0) q in omega arith
    lowest g (Memᴰ.tail h) = let w = k.ascending.0 g h in omega arith

    rest : without f (f ∷ left) ≡ left
    rest = without_first f left (λ h. let w = k.ascending.0 f h in omega arith)

    order : T (is_order_of t [] (f ∷ left) (f ∷ x.order))
    order =
        both (member_pair f (f ∷ left) && is_next t (lowest_open t []) (f ∷ left) f)
        (is_order_of t (f ∷ []) (without f (f ∷ left)) x.order)
        (both (member_pair f (f ∷ left)) (is_next t (lowest_open t []) (f ∷ left) f)
        (any_of_holds (λ (g : Facet). compare_is_eq (compare_pair f g)) f (f ∷ left) (here refl)
        (subst (λ (o : Ordering). T (compare_is_eq o)) (sym (pairs.self f)) tt))
        (next_lowest t [] (f ∷ left) f (nothing_open t) lowest))
        (subst (λ (l : List Facet). T (is_order_of t (f ∷ []) l x.order)) (sym rest) x.is_order)

-- every closed choice has an order that is emitted
pub every_choice : (t : Table) (c : List Facet) → T (is_closed_choice t c)
    → (e : List Facet) × Mem e (closed_lists true t) × T (is_order_of t [] c e)
every_choice t c h = from c (closed_choice_of t c h)
  where
    from : (c : List Facet) → ClosedChoice t c
        → (e : List Facet) × Mem e (closed_lists true t) × T (is_order_of t [] c e)
    from [] k = let z = k.some_facet in absurd (omega arith)
    from (f ∷ left) k =
        first_facet t f left k (reach t (length left) (start_at f) left (omega arith) (after_first t f left k))
