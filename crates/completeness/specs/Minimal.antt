-- A search that does not extend closed lists emits, under the proviso [13.7], just the closed choices with no closed
-- choice properly inside [17.7], each once. Over any table, and so for every rank from 3.
-- None inside: of a closed choice C, a part D that is closed leaves a closed rest. An emitted list of C begins in one
-- of the two and never leaves it: it is open until its end, and where it is open the part has its total of 2 already.
-- None missing: a search that extends closed lists comes to every closed choice, and on the way there to the first
-- closed list, whose choice lies inside. Leans on Complete and Unique.
use Rattle.std.specs.Prelude.{◌≡◌, ◌⊎◌, Bool, cond, not, length}
use Rattle.std.proofs.Math.Path.{refl, ap, subst}
use Rattle.std.proofs.Common.{sym, ◌∙◌, inl, inr, arith, T_not}
use Rattle.std.proofs.Math.Bool.{true, false}
use mathlib.Core.List.Permᴰ
use mathlib.Core.List.{List, [], ◌∷◌, map, reverse_aux, Memᴰ, Permᴰ}
use Prim.Native.Nat.{ℕ, ◌+◌, ◌≤◌, ◌<◌, Ordering}
use Rattle.std.proofs.Math.Dec.{T, compare_is_eq}
use Rattle.definitions.specs.Lists.{compare_pair, member_pair, keep}
use Rattle.definitions.specs.Search.{Table, Facet, Item, Verdict, over, closed, open_at, adds, total, all_facets}
use Rattle.definitions.specs.Search.{starts, joined, ones_at}
use Rattle.definitions.specs.Demands.{choice_of, is_closed_choice, equal_shares}
use Rattle.definitions.specs.Noble.{NoneInside, AllMinimalChoices}
use Rattle.laws.specs.Bools.{true→holds}
use Rattle.laws.specs.Lists.{Mem, here, in_append, in_left, in_map, of_map, in_flat_map, of_flat_map, of_reversed}
use Rattle.laws.specs.Lists.{any_of_holds, kept, in_keep}
use Rattle.laws.specs.Orders.{pairs}
use Rattle.laws.specs.Pairs.{pairs_keep, pairs→nodup}
use Rattle.laws.specs.Sorting.{perm_member, pairs_perm}
use Rattle.completeness.specs.Tree.{yield_eq, induct}
use Rattle.completeness.specs.Verdicts.{Means, is_open, judge_means, ZeroOrTwo, total_perm, adds_within}
use Rattle.completeness.specs.Facets.{ones_add}
use Rattle.completeness.specs.Walk.{children_by, children, verdict_of, own, own_by, unused, falls, open_child}
use Rattle.completeness.specs.Walk.{closed_in, closed_among, closed_lists}
use Rattle.completeness.specs.Taken.{Extends, emitted_extends, emitted_order, start_at, start_of, choice_perm}
use Rattle.completeness.specs.Taken.{in_choice, of_choice}
use Rattle.completeness.specs.Choices.{Lower, same_choice, member_pair_holds, order_members, ClosedChoice}
use Rattle.completeness.specs.Choices.{closed_choice_of}
use Rattle.completeness.specs.Complete.{adding_one, below_child, every_choice}
use Rattle.completeness.specs.Unique.{own_facet, lists_differ, choices_differ}

-- ---- a facet is in a list or not

pub in_or_not : (f : Facet) (l : List Facet) → Mem f l ⊎ T (not (member_pair f l))
in_or_not f l = go (member_pair f l) refl
  where
    go : (b : Bool) → member_pair f l ≡ b → Mem f l ⊎ T (not b)
    go true e = inl (member_pair_holds f l (true→holds e))
    go false e = inr tt

in_list : (f : Facet) (l : List Facet) → Mem f l → T (member_pair f l)
unfolding member_pair
in_list f l h =
    any_of_holds (λ (g : Facet). compare_is_eq (compare_pair f g)) f l h
    (subst (λ (o : Ordering). T (compare_is_eq o)) (sym (pairs.self f)) tt)

-- ---- a part of a choice, and the rest

-- what is kept and what is not add up to the whole
keep_total : (t : Table) (p : Facet → Bool) (l : List Facet) (ridge : ℕ)
    → total t l ridge ≡ total t (keep p l) ridge + total t (keep (λ (g : Facet). not (p g)) l) ridge
unfolding total keep
keep_total t p [] ridge = refl
keep_total t p (f ∷ l) ridge = go (p f) (keep_total t p l ridge)
  where
    rest : List Facet
    rest = keep (λ (g : Facet). not (p g)) l

    go : (b : Bool) → total t l ridge ≡ total t (keep p l) ridge + total t rest ridge
        → total t (f ∷ l) ridge
        ≡ total t (cond b (f ∷ keep p l) (keep p l)) ridge + total t (cond (not b) (f ∷ rest) rest) ridge
    go true e = omega arith
    go false e = omega arith

-- of two totals of 0 or 2, one within the other, the difference is 0 or 2
zero_two_rest : (n m k : ℕ) → n ≡ m + k → (n ≡ 0) ⊎ (n ≡ 2) → (m ≡ 0) ⊎ (m ≡ 2) → (k ≡ 0) ⊎ (k ≡ 2)
zero_two_rest n m k e (inl a) b = inl (omega arith)
zero_two_rest n m k e (inr a) (inl b) = inr (omega arith)
zero_two_rest n m k e (inr a) (inr b) = inl (omega arith)

-- the facets of c that are not in d
unfoldable pub rest_of : List Facet → List Facet → List Facet
rest_of c d = keep (λ (g : Facet). not (member_pair g d)) c

module _ (t : Table) (c d : List Facet) (whole : ClosedChoice t c) (part : ClosedChoice t d)
    (inside : (f : Facet) → Mem f d → Mem f c) where
  part_kept : d ≡ keep (λ (g : Facet). member_pair g d) c
  part_kept =
      same_choice d (keep within c) part.ascending (pairs_keep Lower within c whole.ascending)
      (λ f h. in_keep within f c (inside f h) (in_list f d h)) (λ f h. member_pair_holds f d (kept within f c h).1)
    where
      within : Facet → Bool
      within g = member_pair g d

  pub part_total : (ridge : ℕ) → total t c ridge ≡ total t d ridge + total t (rest_of c d) ridge
  unfolding rest_of
  part_total ridge =
      keep_total t (λ (g : Facet). member_pair g d) c ridge
      ∙ ap (λ (l : List Facet). total t l ridge + total t (rest_of c d) ridge) (sym part_kept)

  pub rest_closed : ZeroOrTwo t (rest_of c d)
  rest_closed ridge h =
      zero_two_rest (total t c ridge) (total t d ridge) (total t (rest_of c d) ridge) (part_total ridge)
      (whole.totals_closed ridge h) (part.totals_closed ridge h)

-- ---- a list that begins in a closed part stays in it

module _ (t : Table) (equal : T (equal_shares t)) (d e : List Facet) (part : ZeroOrTwo t d) (whole : ZeroOrTwo t e)
    (within : (f : Facet) → Mem f e → T (not (member_pair f d)) → (ridge : ℕ)
    → total t d ridge + adds t ridge f ≤ total t e ridge) where
  -- a total of 2 in the part leaves nothing to add for a facet outside
  no_more : (n m a : ℕ) → 0 < n → 0 < a → n + a ≤ m → (n ≡ 0) ⊎ (n ≡ 2) → (m ≡ 0) ⊎ (m ≡ 2) → ⊥
  no_more n m a p q h (inl x) y = omega arith
  no_more n m a p q h (inr x) (inl y) = omega arith
  no_more n m a p q h (inr x) (inr y) = omega arith

  -- where an item's facets are in the part and it is open, the facet that joins is in the part
  joins_part : (item : Item) (ridge : ℕ) (f : Facet) → ridge < t.ridges → total t item.list ridge ≡ 1
      → ((g : Facet) → Mem g item.list → Mem g d) → Mem f (all_facets t) → 0 < ones_at t ridge f → Mem f e → Mem f d
  joins_part item ridge f h one sub possible ones m = go (in_or_not f d)
    where
      some_there : 0 < total t d ridge
      some_there =
          let q = adding_one t ridge item.list one in
          let k = adds_within t ridge q.0 d (sub q.0 q.1) in
          omega (arith, q.2)

      go : Mem f d ⊎ T (not (member_pair f d)) → Mem f d
      go (inl k) = k
      go (inr k) =
          let a = ones_add t equal ridge f possible ones in
          absurd (no_more (total t d ridge) (total t e ridge) (adds t ridge f) some_there (omega arith)
          (within f m k ridge) (part ridge h) (whole ridge h))

  abbrev Stays : Item → Type 0
  Stays item =
      Mem e (closed_in false t item) → ((g : Facet) → Mem g item.list → Mem g d) → (g : Facet) → Mem g e → Mem g d

  own_stays : (item : Item) (v : Verdict) → Mem e (own_by item.list v) → ((g : Facet) → Mem g item.list → Mem g d)
      → (g : Facet) → Mem g e → Mem g d
  unfolding own_by
  own_stays item over h sub g m = elim h [ ]
  own_stays item (open_at r) h sub g m = elim h [ ]
  own_stays item closed (Memᴰ.head q) sub g m = sub g (subst (λ (l : List Facet). Mem g l) q m)
  own_stays item closed (Memᴰ.tail h) sub g m = elim h [ ]

  child_stays : (item j : Item) (v : Verdict) → Means t item.list v → Mem j (children_by false t item v)
      → Mem e (closed_in false t j)
      → ((g : Facet) → Mem g item.list → Mem g d) → (g : Facet) → Mem g j.list → Mem g d
  unfolding children_by joined
  child_stays item j over m h k sub g i = elim h [ ]
  child_stays item j closed m h k sub g i = elim h [ ]
  child_stays item j (open_at r) (is_open ridge a one c low) h k sub g i =
      let q = open_child t item ridge j h in
      let x = subst (λ (y : Item). Extends t y e) q.3 (emitted_extends false t j e k) in
      let f-in = joins_part item ridge q.0 a one sub q.1.0 q.2 (own_facet t item item.mark q.0 e x) in
      go f-in (in_append g item.list (q.0 ∷ []) (subst (λ (y : Item). Mem g y.list) q.3 i))
    where
      go : {f : Facet} → Mem f d → Mem g item.list ⊎ Mem g (f ∷ []) → Mem g d
      go f-in (inl u) = sub g u
      go f-in (inr (Memᴰ.head q)) = subst (λ (y : Facet). Mem y d) (sym q) f-in
      go f-in (inr (Memᴰ.tail u)) = elim u [ ]

  pub stays : (item : Item) → Stays item
  unfolding children own verdict_of
  stays = induct (children false t) (own t) (unused t) (falls false t) Stays at_item
    where
      at_item : (item : Item) → ((j : Item) → Mem j (children false t item) → Stays j) → Stays item
      at_item item ih m sub =
          go (in_append e (own t item) (closed_among false t (reverse_aux (children false t item) []))
          (subst (λ (l : List (List Facet)). Mem e l)
          (yield_eq (children false t) (own t) (unused t) (falls false t) item) m))
        where
          from : (j : Item) → Mem j (children false t item) ⊎ Mem j [] → Mem e (closed_in false t j) → (g : Facet)
              → Mem g e → Mem g d
          from j (inl k) i = ih j k i (child_stays item j (verdict_of t item) (judge_means t item.list) k i sub)
          from j (inr k) i = elim k [ ]

          go : Mem e (own t item) ⊎ Mem e (closed_among false t (reverse_aux (children false t item) []))
              → (g : Facet) → Mem g e → Mem g d
          go (inl k) = own_stays item (verdict_of t item) k sub
          go (inr k) =
              let r = of_flat_map (closed_in false t) e (reverse_aux (children false t item) []) k in
              from r.0 (of_reversed r.0 (children false t item) [] r.1) r.2

-- ---- nothing closed is properly inside an emitted list

module _ (t : Table) (equal : T (equal_shares t)) (e : List Facet) (emitted : Mem e (closed_lists false t)) where
  abbrev choice : List Facet
  choice = choice_of e

  whole_closed : ClosedChoice t choice
  whole_closed = closed_choice_of t choice (emitted_order false t e emitted).1

  same_total : (ridge : ℕ) → total t choice ridge ≡ total t e ridge
  same_total ridge = total_perm t ridge (choice_perm e)

  list_closed : ZeroOrTwo t e
  list_closed ridge h = subst (λ (n : ℕ). (n ≡ 0) ⊎ (n ≡ 2)) (same_total ridge) (whole_closed.totals_closed ridge h)

  module _ (d : List Facet) (closed-d : T (is_closed_choice t d)) (inside : (f : Facet) → Mem f d → Mem f choice) where
    part : ClosedChoice t d
    part = closed_choice_of t d closed-d

    split : (ridge : ℕ) → total t e ridge ≡ total t d ridge + total t (rest_of choice d) ridge
    split ridge = sym (same_total ridge) ∙ part_total t choice d whole_closed part inside ridge

    -- begun in the part, all of it is there, and the part is the whole
    begun_inside : (f : Facet) → Mem e (closed_in false t (start_at f)) → Mem f d → d ≡ choice
    unfolding rest_of
    begun_inside f m h =
        same_choice d choice part.ascending whole_closed.ascending inside
        (λ g k. stays t equal d e part.totals_closed list_closed within (start_at f) m first g (of_choice g e k))
      where
        first : (g : Facet) → Mem g (f ∷ []) → Mem g d
        first g (Memᴰ.head q) = subst (λ (y : Facet). Mem y d) (sym q) h
        first g (Memᴰ.tail k) = elim k [ ]

        within : (g : Facet) → Mem g e → T (not (member_pair g d)) → (ridge : ℕ)
            → total t d ridge + adds t ridge g ≤ total t e ridge
        within g k n ridge =
            let a = split ridge in
            let b = adds_within t ridge g (rest_of choice d)
            (in_keep (λ (x : Facet). not (member_pair x d)) g choice (in_choice g e k) n) in
            omega arith

    -- begun in the rest, all of it is there, and nothing is in the part
    begun_outside : (f : Facet) → Mem e (closed_in false t (start_at f)) → Mem f (rest_of choice d) → ⊥
    unfolding rest_of
    begun_outside f m h = nothing d part.some_facet inside (λ g k. k)
      where
        first : (g : Facet) → Mem g (f ∷ []) → Mem g (rest_of choice d)
        first g (Memᴰ.head q) = subst (λ (y : Facet). Mem y (rest_of choice d)) (sym q) h
        first g (Memᴰ.tail k) = elim k [ ]

        in_part : (g : Facet) → Mem g e → T (not (member_pair g (rest_of choice d))) → Mem g d
        in_part g k n = go (in_or_not g d)
          where
            go : Mem g d ⊎ T (not (member_pair g d)) → Mem g d
            go (inl i) = i
            go (inr i) =
                absurd (T_not (member_pair g (rest_of choice d)) n (in_list g (rest_of choice d)
                (in_keep (λ (x : Facet). not (member_pair x d)) g choice (in_choice g e k) i)))

        within : (g : Facet) → Mem g e → T (not (member_pair g (rest_of choice d))) → (ridge : ℕ)
            → total t (rest_of choice d) ridge + adds t ridge g ≤ total t e ridge
        within g k n ridge =
            let a = split ridge in
            let b = adds_within t ridge g d (in_part g k n) in
            omega arith

        all_rest : (g : Facet) → Mem g e → Mem g (rest_of choice d)
        all_rest =
            stays t equal (rest_of choice d) e (rest_closed t choice d whole_closed part inside) list_closed within
            (start_at f) m first

        nothing : (l : List Facet) → 0 < length l → ((g : Facet) → Mem g l → Mem g choice)
            → ((g : Facet) → Mem g l → Mem g d) → ⊥
        nothing [] n sub back = omega arith
        nothing (g ∷ l) n sub back =
            let r = kept (λ (x : Facet). not (member_pair x d)) g choice
            (all_rest g (of_choice g e (sub g (here refl)))) in
            T_not (member_pair g d) r.1 (in_list g d (back g (here refl)))

    the_whole : d ≡ choice
    unfolding rest_of
    the_whole =
        let r = of_flat_map (closed_in false t) e (reverse_aux (starts t) []) emitted in
        from r.0 (of_reversed r.0 (starts t) [] r.1) r.2
      where
        first_in : (f : Facet) → Extends t (start_at f) e → Mem f e
        first_in f x = subst (λ (m : List Facet). Mem f m) (sym x.whole) (here refl)

        by : (f : Facet) → Mem e (closed_in false t (start_at f)) → Mem f d ⊎ T (not (member_pair f d)) → d ≡ choice
        by f m (inl h) = begun_inside f m h
        by f m (inr n) =
            absurd (begun_outside f m (in_keep (λ (x : Facet). not (member_pair x d)) f choice
            (in_choice f e (first_in f (emitted_extends false t (start_at f) e m))) n))

        from : (item : Item) → Mem item (starts t) ⊎ Mem item [] → Mem e (closed_in false t item) → d ≡ choice
        from item (inl k) m =
            let s = start_of t item k in
            by s.0 (subst (λ (y : Item). Mem e (closed_in false t y)) s.2 m) (in_or_not s.0 d)
        from item (inr k) m = elim k [ ]

  pub none_inside : NoneInside t choice
  unfolding NoneInside
  none_inside d closed-d inside = the_whole d closed-d inside

-- ---- on the way to any closed list, a closed list that is not extended

-- an emitted list of the shorter tree, all of whose facets are in another
pub record Under (t : Table) (item : Item) (e : List Facet) : Type 0 where
  pub list : List Facet
  pub emitted : Mem list (closed_in false t item)
  pub inside : (f : Facet) → Mem f list → Mem f e

own_emitted : (t : Table) (item : Item) → verdict_of t item ≡ closed → Mem item.list (closed_in false t item)
unfolding own own_by
own_emitted t item e =
    subst (λ (l : List (List Facet)). Mem item.list l)
    (sym (yield_eq (children false t) (own t) (unused t) (falls false t) item))
    (in_left item.list (own t item) (closed_among false t (reverse_aux (children false t item) []))
    (subst (λ (v : Verdict). Mem item.list (own_by item.list v)) (sym e) (here refl)))

-- whether a list so judged is emitted
is_emitted : Verdict → Bool
is_emitted over = false
is_emitted (open_at ridge) = false
is_emitted closed = true

module _ (t : Table) where
  abbrev Leads : Item → Type 0
  Leads item = (e : List Facet) → Mem e (closed_in true t item) → Under t item e

  -- a closed item leads to itself
  at_closed : (item : Item) → verdict_of t item ≡ closed → Leads item
  at_closed item v e m =
      let x = emitted_extends true t item e m in
      record {
        list = item.list;
        emitted = own_emitted t item v;
        inside = λ f h. subst (λ (l : List Facet). Mem f l) (sym x.whole) (in_left f item.list x.rest h);
      }

  -- any other puts in the same items in both trees
  same_children : (item j : Item) (v : Verdict) → T (not (is_emitted v)) → Mem j (children_by true t item v)
      → Mem j (children_by false t item v)
  unfolding children_by is_emitted
  same_children item j over n h = h
  same_children item j (open_at r) n h = h
  same_children item j closed n h = absurd n

  no_own : (item : Item) (v : Verdict) (e : List Facet) → T (not (is_emitted v)) → Mem e (own_by item.list v) → ⊥
  unfolding own_by is_emitted
  no_own item over e n h = elim h [ ]
  no_own item (open_at r) e n h = elim h [ ]
  no_own item closed e n h = absurd n

  pub leads : (item : Item) → Leads item
  unfolding children own is_emitted
  leads = induct (children true t) (own t) (unused t) (falls true t) Leads at_item
    where
      at_item : (item : Item) → ((j : Item) → Mem j (children true t item) → Leads j) → Leads item
      at_item item ih e m = by (verdict_of t item) refl
        where
          open_item : T (not (is_emitted (verdict_of t item))) → Under t item e
          open_item n =
              go (in_append e (own t item) (closed_among true t (reverse_aux (children true t item) []))
              (subst (λ (l : List (List Facet)). Mem e l)
              (yield_eq (children true t) (own t) (unused t) (falls true t) item) m))
            where
              from : (j : Item) → Mem j (children true t item) ⊎ Mem j [] → Mem e (closed_in true t j) → Under t item e
              from j (inl k) i =
                  let u = ih j k e i in
                  record {
                    list = u.list;
                    emitted =
                        below_child false t item j u.list (same_children item j (verdict_of t item) n k) u.emitted;
                    inside = u.inside;
                  }
              from j (inr k) i = elim k [ ]

              go : Mem e (own t item) ⊎ Mem e (closed_among true t (reverse_aux (children true t item) []))
                  → Under t item e
              go (inl k) = absurd (no_own item (verdict_of t item) e n k)
              go (inr k) =
                  let r = of_flat_map (closed_in true t) e (reverse_aux (children true t item) []) k in
                  from r.0 (of_reversed r.0 (children true t item) [] r.1) r.2

          by : (v : Verdict) → verdict_of t item ≡ v → Under t item e
          by over q = open_item (subst (λ (v : Verdict). T (not (is_emitted v))) (sym q) tt)
          by (open_at ridge) q = open_item (subst (λ (v : Verdict). T (not (is_emitted v))) (sym q) tt)
          by closed q = at_closed item q e m

  -- a closed choice with none inside is that of an emitted list
  pub minimal_emitted : (c : List Facet) → T (is_closed_choice t c) → NoneInside t c
      → (e : List Facet) × Mem e (closed_lists false t) × (choice_of e ≡ c)
  unfolding NoneInside
  minimal_emitted c h none =
      let r = every_choice t c h in
      let w = of_flat_map (closed_in true t) r.0 (reverse_aux (starts t) []) r.1 in
      let u = leads w.0 r.0 w.2 in
      let m = in_flat_map (closed_in false t) u.list w.0 (reverse_aux (starts t) []) w.1 u.emitted in
      let members = order_members t [] c r.0 r.2 in (
        u.list,
        m,
        none (choice_of u.list) (emitted_order false t u.list m).1
            (λ f k. members.0 f (u.inside f (of_choice f u.list k))),
      )

-- ---- the emitted lists, in any order, have every such choice just once

abbrev NotSame : List Facet → List Facet → Type 0
NotSame c d = c ≡ d → ⊥

pub minimal_choices : (t : Table) → T (equal_shares t) → (lists : List (List Facet))
    → Permᴰ (closed_lists false t) lists → AllMinimalChoices t (map choice_of lists)
minimal_choices t equal lists perm = record {
  once =
      pairs→nodup (map choice_of lists) (pairs_perm NotSame (λ c d n e. n (sym e)) (Permᴰ.map choice_of perm)
      (choices_differ (closed_lists false t) (lists_differ false t equal)));
  these = λ c. (into c, out c);
}
  where
    into : (c : List Facet) → T (is_closed_choice t c) × NoneInside t c → Mem c (map choice_of lists)
    into c h =
        let r = minimal_emitted t c h.0 h.1 in
        subst (λ (d : List Facet). Mem d (map choice_of lists)) r.2
        (in_map choice_of r.0 lists (perm_member perm r.0 r.1))

    out : (c : List Facet) → Mem c (map choice_of lists) → T (is_closed_choice t c) × NoneInside t c
    out c h =
        let r = of_map choice_of c lists h in
        let m = perm_member (Permᴰ.symm perm) r.0 r.1 in
        subst (λ (d : List Facet). T (is_closed_choice t d) × NoneInside t d) (sym r.2)
        ((emitted_order false t r.0 m).1, none_inside t equal r.0 m)
