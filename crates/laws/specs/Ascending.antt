-- Strictly ascending lists, and lists without repeats: sorting them, the first place of an item, the items not yet
-- seen, and what a map does to them. The order is any linear one. Leans on Orders, Pairs and Sorting.
use Rattle.std.specs.Prelude.{◌≡◌, ◌⊎◌, Bool, length}
use Rattle.std.proofs.Math.Path.{refl, ap, subst}
use Rattle.std.proofs.Common.{sym, ◌∙◌, inl, inr}
use Rattle.std.proofs.Math.Bool.{true, false, cond}
use mathlib.Core.List.{List, [], ◌∷◌, Memᴰ}
use Prim.Native.Nat.{Ordering}
use Rattle.std.proofs.Math.Dec.{T, compare_is_eq}
use Rattle.definitions.specs.Lists.{is_gt, insert_by, sort_by, any_of, fresh}
use Rattle.laws.specs.Bools.{true→holds}
use Rattle.laws.specs.Lists.{Mem, here, there, any_of_holds, any_witness}
use Rattle.laws.specs.Pairs.{Pairs}
use Rattle.laws.specs.Orders.{Linear, turned, lt≢eq, lt≢gt, is_eq}
use Rattle.laws.specs.Sorting.{insert_perm, sort_perm, perm_member, perm_length, in_sorted, of_sorted}

-- ---- the two kinds of lists

abbrev pub Differ : {A : Type 0} → A → A → Type 0
Differ x y = x ≡ y → ⊥

-- no item twice
abbrev pub Distinct : {A : Type 0} → List A → Type 0
Distinct l = Pairs Differ l

-- each item below every later one
abbrev pub Ascends : {A : Type 0} → (A → A → Ordering) → List A → Type 0
Ascends c l = Pairs (λ x y. c x y ≡ Ordering.lt) l

-- the same items, in whatever order and however often
pub record SameItems {A : Type 0} (l m : List A) : Type 0 where
  pub into : (x : A) → Mem x l → Mem x m
  pub back : (x : A) → Mem x m → Mem x l

module _ {A : Type 0} (c : A → A → Ordering) (order : Linear c) where
  -- ---- the test of equality

  pub equal_tested : (x y : A) → x ≡ y → T (compare_is_eq (c x y))
  equal_tested x y e =
      subst (λ (z : A). T (compare_is_eq (c x z))) e
      (subst (λ (o : Ordering). T (compare_is_eq o)) (sym (order.self x)) tt)

  pub tested_equal : (x y : A) → T (compare_is_eq (c x y)) → x ≡ y
  tested_equal x y t = order.equal x y (is_eq (c x y) t)

  pub below_differ : (x y : A) → c x y ≡ Ordering.lt → Differ x y
  below_differ x y e q = lt≢eq (sym e ∙ ap (c x) (sym q) ∙ order.self x)

  pub not_both : (x y : A) → c x y ≡ Ordering.lt → c y x ≡ Ordering.lt → ⊥
  not_both x y e f = lt≢gt (sym f ∙ order.mirror x y ∙ ap turned e)

  -- two items are equal, or one is below the other
  pub below_or : (x y : A) → (x ≡ y) ⊎ ((c x y ≡ Ordering.lt) ⊎ (c y x ≡ Ordering.lt))
  below_or x y = go (c x y) refl
    where
      go : (o : Ordering) → c x y ≡ o → (x ≡ y) ⊎ ((c x y ≡ Ordering.lt) ⊎ (c y x ≡ Ordering.lt))
      go Ordering.lt e = inr (inl e)
      go Ordering.eq e = inl (order.equal x y e)
      go Ordering.gt e = inr (inr (order.mirror x y ∙ ap turned e))

  pub ascends_distinct : (l : List A) → Ascends c l → Distinct l
  ascends_distinct [] h = tt
  ascends_distinct (x ∷ l) h = ((λ y i. below_differ x y (h.0 y i)), ascends_distinct l h.1)

  -- ---- sorting

  pub insert_first : (x : A) (l : List A) → ((y : A) → Mem y l → c x y ≡ Ordering.lt) → insert_by c x l ≡ x ∷ l
  unfolding insert_by is_gt
  insert_first x [] h = refl
  insert_first x (y ∷ l) h = ap (λ (o : Ordering). cond (is_gt o) (y ∷ insert_by c x l) (x ∷ y ∷ l)) (h y (here refl))

  insert_distinct : (x : A) (l : List A) → Ascends c l → ((y : A) → Mem y l → Differ x y) → Ascends c (insert_by c x l)
  unfolding insert_by is_gt
  insert_distinct x [] h d = ((λ y i. elim i [ ]), tt)
  insert_distinct x (y ∷ l) h d = go (c x y) refl (insert_distinct x l h.1 (λ z i. d z (there i)))
    where
      above : c x y ≡ Ordering.gt → (z : A) → Mem z (insert_by c x l) → c y z ≡ Ordering.lt
      above e z i = from (perm_member (insert_perm c x l) z i)
        where
          from : Mem z (x ∷ l) → c y z ≡ Ordering.lt
          from (Memᴰ.head q) = ap (c y) q ∙ order.mirror x y ∙ ap turned e
          from (Memᴰ.tail j) = h.0 z j

      under : c x y ≡ Ordering.lt → (z : A) → Mem z (y ∷ l) → c x z ≡ Ordering.lt
      under e z (Memᴰ.head q) = ap (c x) q ∙ e
      under e z (Memᴰ.tail j) = order.less x y z e (h.0 z j)

      go : (o : Ordering) → c x y ≡ o → Ascends c (insert_by c x l)
          → Ascends c (cond (is_gt o) (y ∷ insert_by c x l) (x ∷ y ∷ l))
      go Ordering.lt e ih = (under e, h)
      go Ordering.eq e ih = absurd (d y (here refl) (order.equal x y e))
      go Ordering.gt e ih = (above e, ih)

  -- a list without repeats ascends once it is sorted
  pub sorted_ascends : (l : List A) → Distinct l → Ascends c (sort_by c l)
  unfolding sort_by
  sorted_ascends [] h = tt
  sorted_ascends (x ∷ l) h = insert_distinct x (sort_by c l) (sorted_ascends l h.1) (λ y i. h.0 y (of_sorted c y l i))

  pub sorted_length : (l : List A) → length (sort_by c l) ≡ length l
  sorted_length l = perm_length (sort_perm c l)

  -- ---- an ascending list is known by its items

  pub same_ascending : (l m : List A) → Ascends c l → Ascends c m → SameItems l m → l ≡ m
  same_ascending [] [] h k s = refl
  same_ascending [] (y ∷ m) h k s = elim (s.back y (here refl)) [ ]
  same_ascending (x ∷ l) [] h k s = elim (s.into x (here refl)) [ ]
  same_ascending (x ∷ l) (y ∷ m) h k s = let tails = same_ascending l m h.1 k.1 shorter in λ i. heads i ∷ tails i
    where
      first_two : Mem x (y ∷ m) → Mem y (x ∷ l) → x ≡ y
      first_two (Memᴰ.head e) i = e
      first_two (Memᴰ.tail j) (Memᴰ.head e) = sym e
      first_two (Memᴰ.tail j) (Memᴰ.tail i) = absurd (not_both x y (h.0 y i) (k.0 x j))

      heads : x ≡ y
      heads = first_two (s.into x (here refl)) (s.back y (here refl))

      behind : (z : A) → Mem z l → Mem z (y ∷ m) → Mem z m
      behind z i (Memᴰ.head e) = absurd (below_differ x z (h.0 z i) (heads ∙ sym e))
      behind z i (Memᴰ.tail j) = j

      before : (z : A) → Mem z m → Mem z (x ∷ l) → Mem z l
      before z i (Memᴰ.head e) = absurd (below_differ y z (k.0 z i) (sym heads ∙ sym e))
      before z i (Memᴰ.tail j) = j

      shorter : SameItems l m
      shorter = record { into = λ z i. behind z i (s.into z (there i)); back = λ z i. before z i (s.back z (there i)) }

  -- ---- the items not seen

  abbrev pub seen_among : A → List A → Bool
  seen_among x = any_of (λ (s : A). compare_is_eq (c x s))

  pub seen_member : (x : A) (seen : List A) → T (seen_among x seen) → Mem x seen
  seen_member x seen t =
      let r = any_witness (λ (s : A). compare_is_eq (c x s)) seen t in
      subst (λ (z : A). Mem z seen) (sym (tested_equal x r.0 r.2)) r.1

  pub member_seen : (x : A) (seen : List A) → Mem x seen → T (seen_among x seen)
  member_seen x seen i = any_of_holds (λ (s : A). compare_is_eq (c x s)) x seen i (equal_tested x x refl)

  pub of_fresh : (seen l : List A) (x : A) → Mem x (fresh c seen l) → Mem x l × (Mem x seen → ⊥)
  unfolding fresh
  of_fresh seen [] x i = elim i [ ]
  of_fresh seen (y ∷ l) x i = go (seen_among y seen) refl i (λ j. of_fresh seen l x j) (λ j. of_fresh (y ∷ seen) l x j)
    where
      go : (b : Bool) → seen_among y seen ≡ b → Mem x (cond b (fresh c seen l) (y ∷ fresh c (y ∷ seen) l))
          → (Mem x (fresh c seen l) → Mem x l × (Mem x seen → ⊥))
          → (Mem x (fresh c (y ∷ seen) l) → Mem x l × (Mem x (y ∷ seen) → ⊥)) → Mem x (y ∷ l) × (Mem x seen → ⊥)
      go true e j old new = let r = old j in (there r.0, r.1)
      go false e (Memᴰ.head q) old new =
          (here q, λ j. subst T e (member_seen y seen (subst (λ (z : A). Mem z seen) q j)))
      go false e (Memᴰ.tail j) old new = let r = new j in (there r.0, λ k. r.1 (there k))

  pub in_fresh : (seen l : List A) (x : A) → Mem x l → (Mem x seen → ⊥) → Mem x (fresh c seen l)
  unfolding fresh
  in_fresh seen [] x i n = elim i [ ]
  in_fresh seen (y ∷ l) x i n =
      go (seen_among y seen) refl i (λ j. in_fresh seen l x j n) (λ j u. in_fresh (y ∷ seen) l x j u)
    where
      unseen : Differ x y → Mem x (y ∷ seen) → ⊥
      unseen d (Memᴰ.head e) = d e
      unseen d (Memᴰ.tail k) = n k

      first : (x ≡ y) ⊎ (Differ x y) → Mem x (y ∷ l)
          → (Mem x l → (Mem x (y ∷ seen) → ⊥) → Mem x (fresh c (y ∷ seen) l)) → Mem x (y ∷ fresh c (y ∷ seen) l)
      first (inl e) j new = here e
      first (inr d) (Memᴰ.head e) new = here e
      first (inr d) (Memᴰ.tail j) new = there (new j (unseen d))

      same_or : (x ≡ y) ⊎ (Differ x y)
      same_or = from (below_or x y)
        where
          from : (x ≡ y) ⊎ ((c x y ≡ Ordering.lt) ⊎ (c y x ≡ Ordering.lt)) → (x ≡ y) ⊎ (Differ x y)
          from (inl e) = inl e
          from (inr (inl e)) = inr (below_differ x y e)
          from (inr (inr e)) = inr (λ q. below_differ y x e (sym q))

      go : (b : Bool) → seen_among y seen ≡ b → Mem x (y ∷ l) → (Mem x l → Mem x (fresh c seen l))
          → (Mem x l → (Mem x (y ∷ seen) → ⊥) → Mem x (fresh c (y ∷ seen) l))
          → Mem x (cond b (fresh c seen l) (y ∷ fresh c (y ∷ seen) l))
      go true e (Memᴰ.head q) old new =
          absurd (n (subst (λ (z : A). Mem z seen) (sym q) (seen_member y seen (true→holds e))))
      go true e (Memᴰ.tail j) old new = old j
      go false e j old new = first same_or j new

  pub fresh_distinct : (seen l : List A) → Distinct (fresh c seen l)
  unfolding fresh
  fresh_distinct seen [] = tt
  fresh_distinct seen (y ∷ l) = go (seen_among y seen) (fresh_distinct seen l) (fresh_distinct (y ∷ seen) l)
    where
      go : (b : Bool) → Distinct (fresh c seen l) → Distinct (fresh c (y ∷ seen) l)
          → Distinct (cond b (fresh c seen l) (y ∷ fresh c (y ∷ seen) l))
      go true h k = h
      go false h k = ((λ z i e. (of_fresh (y ∷ seen) l z i).1 (here (sym e))), k)

  -- ---- the ascending list of a list's items

  abbrev pub in_order : List A → List A
  in_order l = sort_by c (fresh c [] l)

  pub in_order_ascends : (l : List A) → Ascends c (in_order l)
  in_order_ascends l = sorted_ascends (fresh c [] l) (fresh_distinct [] l)

  pub in_in_order : (x : A) (l : List A) → Mem x l → Mem x (in_order l)
  in_in_order x l i = in_sorted c x (fresh c [] l) (in_fresh [] l x i (λ j. elim j [ ]))

  pub of_in_order : (x : A) (l : List A) → Mem x (in_order l) → Mem x l
  of_in_order x l i = (of_fresh [] l x (of_sorted c x (fresh c [] l) i)).0

  -- one item is in order
  pub alone_in_order : (x : A) → in_order (x ∷ []) ≡ x ∷ []
  unfolding fresh any_of sort_by insert_by
  alone_in_order x = refl

  -- lists with the same items have the same ascending list
  pub in_order_same : (l m : List A) → SameItems l m → in_order l ≡ in_order m
  in_order_same l m s = same_ascending (in_order l) (in_order m) (in_order_ascends l) (in_order_ascends m) (record {
    into = λ x i. in_in_order x m (s.into x (of_in_order x l i));
    back = λ x i. in_in_order x l (s.back x (of_in_order x m i));
  })
