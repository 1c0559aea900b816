-- Choices as lists that ascend by orbit: each set is one list, and taking a facet out of one. Leans on the laws of
-- lists; over any table.
use Rattle.std.specs.Prelude.{◌≡◌, refl, ◌⊎◌, Bool, true, false, cond, not, ◌&&◌, ◌||◌, T, ltb, eqb, length}
use Rattle.std.proofs.Common.{sym, ap, ◌∙◌, subst, inl, inr, arith, T_not, eqb→eq, ltb→lt}
use mathlib.Core.List.{List, [], ◌∷◌, ◌++◌, Memᴰ, Permᴰ}
use Prim.Native.Nat.{ℕ, suc, ◌<◌, Ordering}
use Rattle.std.proofs.Math.Dec.{compare_is_eq}
use Rattle.definitions.specs.Lists.{compare_pair, member_pair, all_of, keep, count_from}
use Rattle.definitions.specs.Search.{Table, Facet, all_facets, total, totals}
use Rattle.definitions.specs.Demands.{is_possible, orbits_ascend, is_choice, is_closed_choice, lowest_open, is_next}
use Rattle.definitions.specs.Demands.{without, is_order_of}
use Rattle.laws.specs.Bools.{true→holds, holds→true, false→fails, first, second, either}
use Rattle.laws.specs.Lists.{Mem, here, there, any_witness, all_of_holds, kept, in_keep, keep_all, in_map, in_count}
use Rattle.laws.specs.Orders.{pairs, is_eq}
use Rattle.laws.specs.Pairs.{Pairs, pairs_keep}
use Rattle.completeness.specs.Facets.{Different, possible_facet}
use Rattle.completeness.specs.Verdicts.{ZeroOrTwo}

abbrev pub Lower : Facet → Facet → Type 0
Lower f g = f.0 < g.0

-- ---- lists that ascend by orbit

pub ascend_pairs : (l : List Facet) → T (orbits_ascend l) → Pairs Lower l
unfolding orbits_ascend
ascend_pairs [] h = tt
ascend_pairs (f ∷ []) h = ((λ g k. elim k [ ]), tt)
ascend_pairs (f ∷ g ∷ l) h = go (ascend_pairs (g ∷ l) (second (ltb f.0 g.0) (orbits_ascend (g ∷ l)) h))
  where
    less : f.0 < g.0
    less = ltb→lt f.0 g.0 (first (ltb f.0 g.0) (orbits_ascend (g ∷ l)) h)

    go : Pairs Lower (g ∷ l) → Pairs Lower (f ∷ g ∷ l)
    go p = (lower, p)
      where
        lower : (x : Facet) → Mem x (g ∷ l) → Lower f x
        lower x (Memᴰ.head e) = let z = ap (λ (y : Facet). y.0) e in let q = less in omega arith
        lower x (Memᴰ.tail k) = let z = p.0 x k in let q = less in omega arith

-- two facets of such a list with one orbit are one facet
pub one_each : (l : List Facet) → Pairs Lower l → (f g : Facet) → Mem f l → Mem g l → f.0 ≡ g.0 → f ≡ g
one_each [] p f g x4 _ e = elim x4 [ ]
one_each (x ∷ l) p f g (Memᴰ.head a) (Memᴰ.head b) e = a ∙ sym b
one_each (x ∷ l) p f g (Memᴰ.head a) (Memᴰ.tail k) e =
    let z = p.0 g k in
    let q = ap (λ (y : Facet). y.0) a in
    absurd (omega arith)
one_each (x ∷ l) p f g (Memᴰ.tail h) (Memᴰ.head b) e =
    let z = p.0 f h in
    let q = ap (λ (y : Facet). y.0) b in
    absurd (omega arith)
one_each (x ∷ l) p f g (Memᴰ.tail h) (Memᴰ.tail k) e = one_each l p.1 f g h k e

-- two such lists with the same facets are one list
pub same_choice : (l m : List Facet) → Pairs Lower l → Pairs Lower m → ((f : Facet) → Mem f l → Mem f m)
    → ((f : Facet) → Mem f m → Mem f l) → l ≡ m
same_choice [] [] p q a b = refl
same_choice [] (g ∷ m) p q a b = absurd (empty (b g (here refl)))
  where
    empty : Mem g [] → ⊥
    empty h = elim h [ ]
same_choice (f ∷ l) [] p q a b = absurd (empty (a f (here refl)))
  where
    empty : Mem f [] → ⊥
    empty h = elim h [ ]
same_choice (f ∷ l) (g ∷ m) p q a b =
    λ i. head i ∷ same_choice l m p.1 q.1 (tail_of l m p.0 heads a) (tail_of m l q.0 (sym heads) b) i
  where
    -- neither head is lower than the other
    heads : f.0 ≡ g.0
    heads = go (a f (here refl)) (b g (here refl))
      where
        go : Mem f (g ∷ m) → Mem g (f ∷ l) → f.0 ≡ g.0
        go (Memᴰ.head e) k = ap (λ (y : Facet). y.0) e
        go (Memᴰ.tail h) (Memᴰ.head e) = ap (λ (y : Facet). y.0) (sym e)
        go (Memᴰ.tail h) (Memᴰ.tail k) = let x = q.0 f h in let y = p.0 g k in absurd (omega arith)

    head : f ≡ g
    head = one_each (g ∷ m) q f g (a f (here refl)) (here refl) heads

    tail_of : (r s : List Facet) {x y : Facet} → ((z : Facet) → Mem z r → Lower x z) → x.0 ≡ y.0
        → ((z : Facet) → Mem z (x ∷ r) → Mem z (y ∷ s)) → (z : Facet) → Mem z r → Mem z s
    tail_of r s {x} {y} low e sub z h = go (sub z (there h))
      where
        go : Mem z (y ∷ s) → Mem z s
        go (Memᴰ.head d) = let u = low z h in let v = ap (λ (w : Facet). w.0) d in absurd (omega arith)
        go (Memᴰ.tail k) = k

-- ---- a facet taken out

pub of_without : (f g : Facet) (l : List Facet) → Mem g (without f l) → Mem g l × Different f g
unfolding without
of_without f g l h =
    let r = kept (λ (x : Facet). not (compare_is_eq (compare_pair f x))) g l h in (
      r.0,
      λ e. T_not (compare_is_eq (compare_pair f g)) r.1
          (subst (λ (o : Ordering). T (compare_is_eq o)) (sym (ap (compare_pair f) (sym e) ∙ pairs.self f)) tt),
    )

pub in_without : (f g : Facet) (l : List Facet) → Mem g l → Different f g → Mem g (without f l)
unfolding without
in_without f g l h n =
    in_keep (λ (x : Facet). not (compare_is_eq (compare_pair f x))) g l h (go (compare_is_eq (compare_pair f g)) refl)
  where
    go : (b : Bool) → compare_is_eq (compare_pair f g) ≡ b → T (not b)
    go true e = absurd (n (pairs.equal f g (is_eq (compare_pair f g) (true→holds e))))
    go false e = tt

-- the same facet or not
pub same_or_not : (f g : Facet) → (f ≡ g) ⊎ Different f g
same_or_not f g = go (compare_is_eq (compare_pair f g)) refl
  where
    go : (b : Bool) → compare_is_eq (compare_pair f g) ≡ b → (f ≡ g) ⊎ Different f g
    go true e = inl (pairs.equal f g (is_eq (compare_pair f g) (true→holds e)))
    go false e =
        inr (λ q. T_not (compare_is_eq (compare_pair f g)) (false→fails e)
        (subst (λ (o : Ordering). T (compare_is_eq o)) (sym (ap (compare_pair f) (sym q) ∙ pairs.self f)) tt))

pub without_ascends : (f : Facet) (l : List Facet) → Pairs Lower l → Pairs Lower (without f l)
unfolding without
without_ascends f l p = pairs_keep Lower (λ (x : Facet). not (compare_is_eq (compare_pair f x))) l p

pub without_all : (f : Facet) (l : List Facet) → (Mem f l → ⊥) → without f l ≡ l
unfolding without
without_all f l n =
    keep_all (λ (x : Facet). not (compare_is_eq (compare_pair f x))) l
    (λ g h. go g h (compare_is_eq (compare_pair f g)) refl)
  where
    go : (g : Facet) → Mem g l → (b : Bool) → compare_is_eq (compare_pair f g) ≡ b → T (not b)
    go g h true e =
        absurd
        (n (subst (λ (x : Facet). Mem x l) (sym (pairs.equal f g (is_eq (compare_pair f g) (true→holds e)))) h))
    go g h false e = tt

pub without_first : (f : Facet) (l : List Facet) → (Mem f l → ⊥) → without f (f ∷ l) ≡ l
unfolding without keep
without_first f l n =
    ap (λ (b : Bool). cond (not b) (f ∷ without f l) (without f l)) (holds→true (compare_is_eq (compare_pair f f))
    (subst (λ (o : Ordering). T (compare_is_eq o)) (sym (pairs.self f)) tt)) ∙ without_all f l n

-- the facet and what is left are the list again
pub without_perm : (f : Facet) (l : List Facet) → Pairs Lower l → Mem f l → Permᴰ l (f ∷ without f l)
unfolding without keep
without_perm f [] p h = elim h [ ]
without_perm f (x ∷ l) p h = go (compare_is_eq (compare_pair f x)) refl h (λ k. without_perm f l p.1 k)
  where
    at_head : f ≡ x → Permᴰ (x ∷ l) (f ∷ keep (λ (y : Facet). not (compare_is_eq (compare_pair f y))) l)
    at_head e =
        subst (λ (r : List Facet). Permᴰ (x ∷ l) (f ∷ r))
        (sym (without_all f l (λ k. let z = p.0 f k in let q = ap (λ (y : Facet). y.0) e in omega arith)))
        (Permᴰ.cons (sym e) (mathlib.Core.List.Permᴰ.refl l))

    in_tail : compare_is_eq (compare_pair f x) ≡ false → Mem f (x ∷ l) → Mem f l
    in_tail e (Memᴰ.head q) =
        absurd (T_not (compare_is_eq (compare_pair f x)) (false→fails e)
        (subst (λ (o : Ordering). T (compare_is_eq o)) (sym (ap (compare_pair f) (sym q) ∙ pairs.self f)) tt))
    in_tail e (Memᴰ.tail k) = k

    go : (b : Bool) → compare_is_eq (compare_pair f x) ≡ b → Mem f (x ∷ l)
        → (Mem f l → Permᴰ l (f ∷ keep (λ (y : Facet). not (compare_is_eq (compare_pair f y))) l))
        → Permᴰ (x ∷ l) (f ∷ cond (not b) (x ∷ keep (λ (y : Facet). not (compare_is_eq (compare_pair f y))) l)
        (keep (λ (y : Facet). not (compare_is_eq (compare_pair f y))) l))
    go true e k ih = at_head (pairs.equal f x (is_eq (compare_pair f x) (true→holds e)))
    go false e k ih = Permᴰ.trans (Permᴰ.cons refl (ih (in_tail e k))) (Permᴰ.swap refl refl)

-- ---- an order has the facets of its choice

pub member_pair_holds : (f : Facet) (l : List Facet) → T (member_pair f l) → Mem f l
unfolding member_pair
member_pair_holds f l h =
    let r = any_witness (λ (q : Facet). compare_is_eq (compare_pair f q)) l h in
    subst (λ (x : Facet). Mem x l) (sym (pairs.equal f r.0 (is_eq (compare_pair f r.0) r.2))) r.1

empty_list : (l : List Facet) → T (eqb 0 (length l)) → l ≡ []
empty_list [] h = refl
empty_list (f ∷ l) h = let z = eqb→eq 0 (suc (length l)) h in absurd (omega arith)

pub order_members : (t : Table) (taken remaining order : List Facet) → T (is_order_of t taken remaining order)
    → ((f : Facet) → Mem f order → Mem f remaining) × ((f : Facet) → Mem f remaining → Mem f order)
unfolding is_order_of
order_members t taken remaining [] h =
    ((λ f k. elim k [ ]), λ f k. subst (λ (l : List Facet). Mem f l) (empty_list remaining h) k)
order_members t taken remaining (g ∷ order) h =
    go (order_members t (taken ++ (g ∷ [])) (without g remaining) order (second (member_pair g remaining && is_next t
    (lowest_open t taken) remaining g) (is_order_of t (taken ++ (g ∷ [])) (without g remaining) order) h))
  where
    g_in : Mem g remaining
    g_in =
        member_pair_holds g remaining (first (member_pair g remaining) (is_next t (lowest_open t taken) remaining g)
        (first (member_pair g remaining && is_next t (lowest_open t taken) remaining g)
        (is_order_of t (taken ++ (g ∷ [])) (without g remaining) order) h))

    go : ((f : Facet) → Mem f order → Mem f (without g remaining))
        × ((f : Facet) → Mem f (without g remaining) → Mem f order)
        → ((f : Facet) → Mem f (g ∷ order) → Mem f remaining) × ((f : Facet) → Mem f remaining → Mem f (g ∷ order))
    go ih = (into, out)
      where
        into : (f : Facet) → Mem f (g ∷ order) → Mem f remaining
        into f (Memᴰ.head e) = subst (λ (x : Facet). Mem x remaining) (sym e) g_in
        into f (Memᴰ.tail k) = (of_without g f remaining (ih.0 f k)).0

        out : (f : Facet) → Mem f remaining → Mem f (g ∷ order)
        out f k = by (same_or_not g f)
          where
            by : (g ≡ f) ⊎ Different g f → Mem f (g ∷ order)
            by (inl e) = here (sym e)
            by (inr n) = there (ih.1 f (in_without g f remaining k n))

-- ---- what a closed choice is

pub record ClosedChoice (t : Table) (c : List Facet) : Type 0 where
  pub some_facet : 0 < length c
  pub possible : (f : Facet) → Mem f c → Mem f (all_facets t)
  pub ascending : Pairs Lower c
  pub totals_closed : ZeroOrTwo t c

pub closed_choice_of : (t : Table) (c : List Facet) → T (is_closed_choice t c) → ClosedChoice t c
unfolding is_closed_choice is_choice totals
closed_choice_of t c h = record {
  some_facet = ltb→lt 0 (length c) (first (ltb 0 (length c)) (all_of (is_possible t) c) two);
  possible =
      λ f k. possible_facet t f
      (all_of_holds (is_possible t) c (second (ltb 0 (length c)) (all_of (is_possible t) c) two) f k);
  ascending = ascend_pairs c (second (ltb 0 (length c) && all_of (is_possible t) c) (orbits_ascend c) three);
  totals_closed =
      λ ridge k.
      zero_two (total t c ridge) (all_of_holds (λ (n : ℕ). eqb 0 n || eqb 2 n) (totals t c) four (total t c ridge)
      (in_map (total t c) ridge (count_from 0 t.ridges) (in_count 0 t.ridges ridge (omega arith) (omega arith))));
}
  where
    three : T (ltb 0 (length c) && all_of (is_possible t) c && orbits_ascend c)
    three =
        first (ltb 0 (length c) && all_of (is_possible t) c && orbits_ascend c)
        (all_of (λ (n : ℕ). eqb 0 n || eqb 2 n) (totals t c)) h

    four : T (all_of (λ (n : ℕ). eqb 0 n || eqb 2 n) (totals t c))
    four =
        second (ltb 0 (length c) && all_of (is_possible t) c && orbits_ascend c)
        (all_of (λ (n : ℕ). eqb 0 n || eqb 2 n) (totals t c)) h

    two : T (ltb 0 (length c) && all_of (is_possible t) c)
    two = first (ltb 0 (length c) && all_of (is_possible t) c) (orbits_ascend c) three

    zero_two : (n : ℕ) → T (eqb 0 n || eqb 2 n) → (n ≡ 0) ⊎ (n ≡ 2)
    zero_two n k = go (either (eqb 0 n) (eqb 2 n) k)
      where
        go : T (eqb 0 n) ⊎ T (eqb 2 n) → (n ≡ 0) ⊎ (n ≡ 2)
        go (inl u) = inl (sym (eqb→eq 0 n u))
        go (inr u) = inr (sym (eqb→eq 2 n u))
