-- Under the proviso [13.7] a closed choice is taken in one order only [13.4]: where a ridge orbit is open, what is
-- left of the choice adds 1 there, a facet with a share 1 adds 1 at least, and so there is one such facet; elsewhere
-- the facet of the lowest orbit is one. Over any table, and so for every rank from 3. Leans on Choices, Facets and
-- Complete.
use Rattle.std.specs.Prelude.{◌≡◌, refl, ◌⊎◌, ◌&&◌, List, [], ◌∷◌, ◌++◌, ℕ, suc, ◌+◌, ◌≤◌, ◌<◌, T, leb, ltb, length}
use Rattle.std.proofs.Common.{sym, subst, inl, inr, arith, eqb→eq, leb→le, ltb→lt}
use Rattle.std.specs.Prelude.{Option, Some, None}
use Rattle.definitions.specs.Lists.{member_pair, all_of}
use Rattle.definitions.specs.Search.{Table, Facet, Verdict, adds, total, totals, judge, all_facets, ones_at}
use Rattle.definitions.specs.Demands.{is_closed_choice, lowest_open, is_next, without, is_order_of, equal_shares}
use Rattle.laws.specs.Bools.{first, second}
use Rattle.laws.specs.Lists.{Mem, all_of_holds}
use Rattle.laws.specs.Pairs.{Pairs}
use Rattle.completeness.specs.Verdicts.{Means, is_over, is_open, is_closed, judge_means, total_perm, adds_within}
use Rattle.completeness.specs.Facets.{Different, ones_add}
use Rattle.completeness.specs.Choices.{Lower, one_each, of_without, in_without, same_or_not, without_ascends}
use Rattle.completeness.specs.Choices.{without_perm, member_pair_holds, closed_choice_of}
use Rattle.completeness.specs.Complete.{Closing, closing_after, rest_one, never_over}

-- what is left of a closed choice of which some is taken
record Left (t : Table) (taken left : List Facet) : Type 0 where
  possible : (f : Facet) → Mem f left → Mem f (all_facets t)
  ascending : Pairs Lower left
  closing : Closing t taken left

left_after : (t : Table) (taken left : List Facet) (f : Facet) → Left t taken left → Mem f left
    → Left t (taken ++ (f ∷ [])) (without f left)
left_after t taken left f r h = record {
  possible = λ g k. r.possible g (of_without f g left k).0;
  ascending = without_ascends f left r.ascending;
  closing = closing_after t taken left f r.ascending h r.closing;
}

-- an order that is not at its end: its first facet is left, may be taken next, and the others follow in an order
record Step (t : Table) (taken left : List Facet) (f : Facet) (order : List Facet) : Type 0 where
  member : Mem f left
  next : T (is_next t (lowest_open t taken) left f)
  rest : T (is_order_of t (taken ++ (f ∷ [])) (without f left) order)

step_of : (t : Table) (taken left : List Facet) (f : Facet) (order : List Facet)
    → T (is_order_of t taken left (f ∷ order)) → Step t taken left f order
unfolding is_order_of
step_of t taken left f order h =
    let member = member_pair f left in
    let next = is_next t (lowest_open t taken) left f in
    let rest = is_order_of t (taken ++ (f ∷ [])) (without f left) order in
    let two = first (member && next) rest h in
    record {
      member = member_pair_holds f left (first member next two);
      next = second member next two;
      rest = second (member && next) rest h;
    }

-- an order at its end leaves nothing
nothing_left : (t : Table) (taken left : List Facet) → T (is_order_of t taken left []) → (f : Facet) → Mem f left → ⊥
unfolding is_order_of
nothing_left t taken [] h f m = elim m [ ]
nothing_left t taken (g ∷ left) h f m = let z = eqb→eq 0 (suc (length left)) h in omega arith

-- ---- one facet may be taken next

-- two facets that both add something add 2 at least
two_add : (t : Table) (ridge : ℕ) (l : List Facet) (f g : Facet) → Pairs Lower l → Mem f l → Mem g l → Different f g
    → 0 < adds t ridge f → 0 < adds t ridge g → 2 ≤ total t l ridge
unfolding total
two_add t ridge l f g up h k d a b =
    let e = total_perm t ridge (without_perm f l up h) in
    let c = adds_within t ridge g (without f l) (in_without f g l k d) in
    omega arith

next_one : (t : Table) → T (equal_shares t) → (taken left : List Facet) → Left t taken left → (f g : Facet)
    → Mem f left → Mem g left
    → T (is_next t (lowest_open t taken) left f) → T (is_next t (lowest_open t taken) left g) → f ≡ g
unfolding is_next
next_one t equal taken left r f g h k a b = by (judge (totals t taken)) (judge_means t taken)
  where
    -- both may be taken, the lowest open ridge orbit being known
    at : (o : Option ℕ) → lowest_open t taken ≡ o → T (is_next t o left f) × T (is_next t o left g)
    at o e =
        (subst (λ (x : Option ℕ). T (is_next t x left f)) e a, subst (λ (x : Option ℕ). T (is_next t x left g)) e b)

    some_open : (ridge : ℕ) → ridge < t.ridges → total t taken ridge ≡ 1
        → T (ltb 0 (ones_at t ridge f)) × T (ltb 0 (ones_at t ridge g)) → (f ≡ g) ⊎ Different f g → f ≡ g
    some_open ridge x one n (inl e) = e
    some_open ridge x one n (inr d) =
        let m = rest_one (total t taken ridge) (total t left ridge) one (r.closing ridge x) in
        let u = ltb→lt 0 (ones_at t ridge f) n.0 in
        let v = ltb→lt 0 (ones_at t ridge g) n.1 in
        let p = ones_add t equal ridge f (r.possible f h) u in
        let q = ones_add t equal ridge g (r.possible g k) v in
        let z = two_add t ridge left f g r.ascending h k d (omega arith) (omega arith) in
        absurd (omega arith)

    none_open : T (all_of (λ (x : Facet). leb f.0 x.0) left) × T (all_of (λ (x : Facet). leb g.0 x.0) left) → f ≡ g
    none_open n =
        let u = leb→le f.0 g.0 (all_of_holds (λ (x : Facet). leb f.0 x.0) left n.0 g k) in
        let v = leb→le g.0 f.0 (all_of_holds (λ (x : Facet). leb g.0 x.0) left n.1 f h) in
        one_each left r.ascending f g h k (omega arith)

    by : (v : Verdict) → Means t taken v → f ≡ g
    by v (is_over ridge x y) = absurd (never_over (total t taken ridge) (total t left ridge) y (r.closing ridge x))
    by v (is_open ridge x one z low) = some_open ridge x one (at (Some ridge) low) (same_or_not f g)
    by v (is_closed z low) = none_open (at None low)

-- ---- one order

orders_same : (t : Table) → T (equal_shares t) → (taken left d e : List Facet) → Left t taken left
    → T (is_order_of t taken left d) → T (is_order_of t taken left e) → d ≡ e
orders_same t equal taken left [] [] r x y = refl
orders_same t equal taken left [] (g ∷ e) r x y =
    absurd (nothing_left t taken left x g (step_of t taken left g e y).member)
orders_same t equal taken left (f ∷ d) [] r x y =
    absurd (nothing_left t taken left y f (step_of t taken left f d x).member)
orders_same t equal taken left (f ∷ d) (g ∷ e) r x y =
    let m = step_of t taken left f d x in
    let n = step_of t taken left g e y in
    let same : f ≡ g = next_one t equal taken left r f g m.member n.member m.next n.next in
    let other = subst (λ (z : Facet). T (is_order_of t (taken ++ (z ∷ [])) (without z left) e)) (sym same) n.rest in
    let rest = orders_same t equal (taken ++ (f ∷ [])) (without f left) d e
    (left_after t taken left f r m.member) m.rest other in
    λ i. same i ∷ rest i

-- under the proviso any two orders of a closed choice are one
pub one_order : (t : Table) → T (equal_shares t) → (c : List Facet) → T (is_closed_choice t c) → (d e : List Facet)
    → T (is_order_of t [] c d) → T (is_order_of t [] c e) → d ≡ e
unfolding total
one_order t equal c closed d e x y =
    let k = closed_choice_of t c closed in
    orders_same t equal [] c d e (record {
      possible = k.possible;
      ascending = k.ascending;
      closing = λ ridge h. start ridge (k.totals_closed ridge h);
    }) x y
  where
    start : (ridge : ℕ) → (total t c ridge ≡ 0) ⊎ (total t c ridge ≡ 2)
        → (0 + total t c ridge ≡ 0) ⊎ (0 + total t c ridge ≡ 2)
    start ridge (inl q) = inl (omega arith)
    start ridge (inr q) = inr (omega arith)
