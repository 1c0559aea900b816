-- The place of an item in a list, by a comparison; and maps that keep items apart, or keep their order: what they do
-- to places, to the items not yet seen, to comparisons and to sorting. Leans on Ascending.
use Rattle.std.specs.Prelude.{◌≡◌, ◌⊎◌, Bool, ◌||◌, get_or, drop}
use Rattle.std.proofs.Math.Path.{refl, ap, subst}
use Rattle.std.proofs.Common.{sym, ◌∙◌, inl, inr}
use Rattle.std.proofs.Math.Bool.{true, false, cond}
use mathlib.Core.List.{List, [], ◌∷◌, ◌++◌, map, flat_map, map-append, Memᴰ}
use Prim.Native.Nat.{ℕ, zero, suc, ◌≤◌, ◌<◌, Ordering}
use native.Mathlib.Omega.{arith}
use Rattle.std.proofs.Math.Dec.{T, compare_is_eq}
use Rattle.std.proofs.Math.ListN.{length}
use Rattle.definitions.specs.Lists.{compare_list, sort_by, any_of, place_of, fresh, then_by}
use Rattle.laws.specs.Bools.{true→holds, same_test}
use Rattle.laws.specs.Lists.{Mem, here, there, in_map, of_map, member_at, place_hit}
use Rattle.laws.specs.Pairs.{pairs_map}
use Rattle.laws.specs.Orders.{Linear, turned}
use Rattle.laws.specs.Sorting.{in_sorted, of_sorted}
use Rattle.laws.specs.Segments.{le_or_lt}
use Rattle.laws.specs.Ascending.{Differ, Distinct, Ascends, equal_tested, tested_equal, below_differ, not_both}
use Rattle.laws.specs.Ascending.{same_ascending, sorted_ascends, in_order, in_order_ascends, in_in_order, of_in_order}

module _ {A : Type 0} (c : A → A → Ordering) (order : Linear c) where
  -- the place of the first item that compares equal
  abbrev pub place_in : List A → A → ℕ
  place_in l x = place_of (λ (y : A). compare_is_eq (c x y)) l

  pub place_below : (x : A) (l : List A) → Mem x l → place_in l x < length l
  unfolding place_of
  place_below x [] x'' = elim x'' [ ]
  place_below x (y ∷ l) (Memᴰ.head e) = go (compare_is_eq (c x y)) (equal_tested c order x y e)
    where
      go : (b : Bool) → T b → cond b 0 (suc (place_in l x)) < suc (length l)
      go true t = omega arith
      go false t = absurd t
  place_below x (y ∷ l) (Memᴰ.tail i) = go (compare_is_eq (c x y)) (place_below x l i)
    where
      go : (b : Bool) → place_in l x < length l → cond b 0 (suc (place_in l x)) < suc (length l)
      go true h = omega arith
      go false h = omega arith

  -- the item at its place
  pub at_place : (d x : A) (l : List A) → Mem x l → get_or l (place_in l x) d ≡ x
  at_place d x l i =
      sym (tested_equal c order x (get_or l (place_in l x) d)
      (place_hit (λ (y : A). compare_is_eq (c x y)) d l (place_below x l i)))

  -- where no item comes twice, the place of the item at i is i
  pub place_at_holds : (d : A) (l : List A) → Distinct l → (i : ℕ) → i < length l → place_in l (get_or l i d) ≡ i
  unfolding place_of
  place_at_holds d [] h i k = absurd (omega arith)
  place_at_holds d (x ∷ l) h zero k = go (compare_is_eq (c x x)) (equal_tested c order x x refl)
    where
      go : (b : Bool) → T b → cond b 0 (suc (place_in l x)) ≡ 0
      go true t = refl
      go false t = absurd t
  place_at_holds d (x ∷ l) h (suc i) k =
      go (compare_is_eq (c (get_or l i d) x)) refl (place_at_holds d l h.1 i (omega arith))
    where
      go : (b : Bool) → compare_is_eq (c (get_or l i d) x) ≡ b → place_in l (get_or l i d) ≡ i
          → cond b 0 (suc (place_in l (get_or l i d))) ≡ suc i
      go true e ih =
          absurd (h.0 (get_or l i d) (member_at l i d (omega arith))
          (sym (tested_equal c order (get_or l i d) x (true→holds e))))
      go false e ih = ap suc ih

  -- different items have different places
  pub place_apart : (d x y : A) (l : List A) → Mem x l → Mem y l → place_in l x ≡ place_in l y → x ≡ y
  place_apart d x y l i j e = sym (at_place d x l i) ∙ ap (λ (n : ℕ). get_or l n d) e ∙ at_place d y l j

  -- in an ascending list items ascend with their places
  pub ascending_at : (d : A) (l : List A) → Ascends c l → (i j : ℕ) → i < j → j < length l
      → c (get_or l i d) (get_or l j d) ≡ Ordering.lt
  ascending_at d [] h i j a b = absurd (omega arith)
  ascending_at d (x ∷ l) h zero zero a b = absurd (omega arith)
  ascending_at d (x ∷ l) h zero (suc j) a b = h.0 (get_or l j d) (member_at l j d (omega arith))
  ascending_at d (x ∷ l) h (suc i) zero a b = absurd (omega arith)
  ascending_at d (x ∷ l) h (suc i) (suc j) a b = ascending_at d l h.1 i j (omega arith) (omega arith)

  -- and places with their items
  pub place_ascends : (d x y : A) (l : List A) → Ascends c l → Mem x l → Mem y l → c x y ≡ Ordering.lt
      → place_in l x < place_in l y
  place_ascends d x y l h i j e = go (le_or_lt (place_in l y) (place_in l x))
    where
      back : place_in l y < place_in l x → c y x ≡ Ordering.lt
      back k =
          let r = ascending_at d l h (place_in l y) (place_in l x) k (place_below x l i) in
          sym (ap (λ (z : A). c z (get_or l (place_in l x) d)) (at_place d y l j) ∙ ap (c y) (at_place d x l i)) ∙ r

      split : (place_in l x ≤ place_in l y) ⊎ (place_in l y < place_in l x) → place_in l y ≤ place_in l x
          → place_in l x < place_in l y
      split (inl a) b = absurd (below_differ c order x y e (place_apart d x y l i j (omega arith)))
      split (inr a) b = absurd (not_both c order x y e (back a))

      go : (place_in l y ≤ place_in l x) ⊎ (place_in l x < place_in l y) → place_in l x < place_in l y
      go (inl k) = split (le_or_lt (place_in l x) (place_in l y)) k
      go (inr k) = k

-- ---- maps alike on a list's items

module _ {A B : Type 0} where
  pub map_same : (f g : A → B) (l : List A) → ((x : A) → Mem x l → f x ≡ g x) → map f l ≡ map g l
  map_same f g [] h = refl
  map_same f g (x ∷ l) h =
      let head = h x (here refl) in
      let tail = map_same f g l (λ y i. h y (there i)) in
      λ t. head t ∷ tail t

pub map_self : {A : Type 0} (f : A → A) (l : List A) → ((x : A) → Mem x l → f x ≡ x) → map f l ≡ l
map_self f [] h = refl
map_self f (x ∷ l) h =
    let head = h x (here refl) in
    let tail = map_self f l (λ y i. h y (there i)) in
    λ t. head t ∷ tail t

pub flat_singles : {A : Type 0} (l : List A) → flat_map (λ (x : A). x ∷ []) l ≡ l
unfolding flat_map
flat_singles [] = refl
flat_singles (x ∷ l) = ap (λ (r : List _). x ∷ r) (flat_singles l)

module _ {A B C : Type 0} where
  pub map_flat_map : (g : B → C) (f : A → List B) (l : List A)
      → map g (flat_map f l) ≡ flat_map (λ (x : A). map g (f x)) l
  unfolding flat_map
  map_flat_map g f [] = refl
  map_flat_map g f (x ∷ l) =
      map-append g (f x) (flat_map f l) ∙ ap (λ (r : List C). map g (f x) ++ r) (map_flat_map g f l)

  pub flat_map_map : (g : B → List C) (f : A → B) (l : List A) → flat_map g (map f l) ≡ flat_map (λ (x : A). g (f x)) l
  unfolding flat_map
  flat_map_map g f [] = refl
  flat_map_map g f (x ∷ l) = ap (λ (r : List C). g (f x) ++ r) (flat_map_map g f l)

-- ---- maps that keep items apart

-- lists with the same image are the same
pub map_apart : {A B : Type 0} (f : A → B) (P : A → Type 0) → ((x y : A) → P x → P y → f x ≡ f y → x ≡ y)
    → (l m : List A) → ((x : A) → Mem x l → P x) → ((x : A) → Mem x m → P x) → map f l ≡ map f m → l ≡ m
map_apart f P apart [] [] h k e = refl
map_apart f P apart [] (y ∷ m) h k e = let z : 0 ≡ suc (length (map f m)) = ap length e in absurd (omega arith)
map_apart f P apart (x ∷ l) [] h k e = let z : suc (length (map f l)) ≡ 0 = ap length e in absurd (omega arith)
map_apart {A} {B} f P apart (x ∷ l) (y ∷ m) h k e =
    let first = apart x y (h x (here refl)) (k y (here refl)) (ap (λ (s : List B). get_or s 0 (f x)) e) in
    let rest = map_apart f P apart l m (λ z i. h z (there i)) (λ z i. k z (there i)) (ap (drop 1) e) in
    λ t. first t ∷ rest t

module _ {A B : Type 0} (c : A → A → Ordering) (order : Linear c) (c' : B → B → Ordering) (order' : Linear c')
    (f : A → B) where
  pub same_equal_test : (x y : A) → (f x ≡ f y → x ≡ y) → compare_is_eq (c' (f x) (f y)) ≡ compare_is_eq (c x y)
  same_equal_test x y apart =
      same_test (compare_is_eq (c' (f x) (f y))) (compare_is_eq (c x y))
      (λ t. equal_tested c order x y (apart (tested_equal c' order' (f x) (f y) t)))
      (λ t. equal_tested c' order' (f x) (f y) (ap f (tested_equal c order x y t)))

  pub place_map : (x : A) (l : List A) → ((y : A) → Mem y l → f x ≡ f y → x ≡ y)
      → place_in c' order' (map f l) (f x) ≡ place_in c order l x
  unfolding place_of
  place_map x [] apart = refl
  place_map x (y ∷ l) apart =
      ap (λ (b : Bool). cond b 0 (suc (place_in c' order' (map f l) (f x)))) (same_equal_test x y (apart y (here refl)))
      ∙ ap (λ (n : ℕ). cond (compare_is_eq (c x y)) 0 (suc n)) (place_map x l (λ z i. apart z (there i)))

  seen_map : (x : A) (seen : List A) → ((y : A) → Mem y seen → f x ≡ f y → x ≡ y)
      → any_of (λ (s : B). compare_is_eq (c' (f x) s)) (map f seen) ≡ any_of (λ (s : A). compare_is_eq (c x s)) seen
  unfolding any_of
  seen_map x [] apart = refl
  seen_map x (y ∷ l) apart =
      ap (λ (b : Bool). b
      || any_of (λ (s : B). compare_is_eq (c' (f x) s)) (map f l)) (same_equal_test x y (apart y (here refl)))
      ∙ ap (λ (b : Bool). compare_is_eq (c x y) || b) (seen_map x l (λ z i. apart z (there i)))

  pub fresh_map : (P : A → Type 0) → ((x y : A) → P x → P y → f x ≡ f y → x ≡ y)
      → (seen l : List A) → ((x : A) → Mem x seen → P x) → ((x : A) → Mem x l → P x)
      → fresh c' (map f seen) (map f l) ≡ map f (fresh c seen l)
  unfolding fresh
  fresh_map P apart seen [] s h = refl
  fresh_map P apart seen (x ∷ l) s h =
      ap (λ (b : Bool). cond b (fresh c' (map f seen) (map f l)) (f x ∷ fresh c' (f x ∷ map f seen) (map f l)))
      (seen_map x seen (λ y i. apart x y (h x (here refl)) (s y i)))
      ∙ go (any_of (λ (z : A). compare_is_eq (c x z)) seen) (fresh_map P apart seen l s (λ y i. h y (there i)))
      (fresh_map P apart (x ∷ seen) l with_x (λ y i. h y (there i)))
    where
      with_x : (y : A) → Mem y (x ∷ seen) → P y
      with_x y (Memᴰ.head e) = subst P (sym e) (h x (here refl))
      with_x y (Memᴰ.tail i) = s y i

      go : (b : Bool) → fresh c' (map f seen) (map f l) ≡ map f (fresh c seen l)
          → fresh c' (f x ∷ map f seen) (map f l) ≡ map f (fresh c (x ∷ seen) l)
          → cond b (fresh c' (map f seen) (map f l)) (f x ∷ fresh c' (f x ∷ map f seen) (map f l))
          ≡ map f (cond b (fresh c seen l) (x ∷ fresh c (x ∷ seen) l))
      go true old new = old
      go false old new = ap (λ (r : List B). f x ∷ r) new

  -- no item twice, before and after
  pub distinct_map : (P : A → Type 0) → ((x y : A) → P x → P y → f x ≡ f y → x ≡ y) → (l : List A)
      → ((x : A) → Mem x l → P x) → Distinct l → Distinct (map f l)
  distinct_map P apart l h = pairs_map Differ Differ f l (λ x i y j d e. d (apart x y (h x i) (h y j) e))

  -- ascending lists with the same image, sorted, are the same
  pub sorted_image_apart : (P : A → Type 0) → ((x y : A) → P x → P y → f x ≡ f y → x ≡ y) → (l m : List A)
      → ((x : A) → Mem x l → P x) → ((x : A) → Mem x m → P x)
      → Ascends c l → Ascends c m → sort_by c' (map f l) ≡ sort_by c' (map f m) → l ≡ m
  sorted_image_apart P apart l m h k a b e =
      same_ascending c order l m a b (record { into = half l m h k e; back = half m l k h (sym e) })
    where
      half : (l m : List A) → ((x : A) → Mem x l → P x) → ((x : A) → Mem x m → P x)
          → sort_by c' (map f l) ≡ sort_by c' (map f m) → (x : A) → Mem x l → Mem x m
      half l m h k e x i =
          let in_image = of_sorted c' (f x) (map f m)
          (subst (λ (s : List B). Mem (f x) s) e (in_sorted c' (f x) (map f l) (in_map f x l i))) in
          let r = of_map f (f x) m in_image in
          subst (λ (z : A). Mem z m) (sym (apart x r.0 (h x i) (k r.0 r.1) r.2)) r.1

-- ---- maps that keep the order

module _ {A B : Type 0} (c : A → A → Ordering) (order : Linear c) (c' : B → B → Ordering) (order' : Linear c')
    (f : A → B) where
  -- a map that keeps 'below' keeps every comparison
  pub keeps_compare : (P : A → Type 0) → ((x y : A) → P x → P y → c x y ≡ Ordering.lt → c' (f x) (f y) ≡ Ordering.lt)
      → (x y : A) → P x → P y → c' (f x) (f y) ≡ c x y
  keeps_compare P mono x y p q = go (c x y) refl
    where
      go : (o : Ordering) → c x y ≡ o → c' (f x) (f y) ≡ o
      go Ordering.lt e = mono x y p q e
      go Ordering.eq e = ap (λ (z : A). c' (f x) (f z)) (sym (order.equal x y e)) ∙ order'.self (f x)
      go Ordering.gt e = order'.mirror (f y) (f x) ∙ ap turned (mono y x q p (order.mirror x y ∙ ap turned e))

  pub compare_map : (P : A → Type 0) → ((x y : A) → P x → P y → c' (f x) (f y) ≡ c x y)
      → (l m : List A) → ((x : A) → Mem x l → P x) → ((x : A) → Mem x m → P x)
      → compare_list c' (map f l) (map f m) ≡ compare_list c l m
  unfolding compare_list
  compare_map P same [] [] h k = refl
  compare_map P same [] (y ∷ m) h k = refl
  compare_map P same (x ∷ l) [] h k = refl
  compare_map P same (x ∷ l) (y ∷ m) h k =
      ap (λ (o : Ordering). then_by o (compare_list c' (map f l) (map f m)))
      (same x y (h x (here refl)) (k y (here refl)))
      ∙ ap (then_by (c x y)) (compare_map P same l m (λ z i. h z (there i)) (λ z i. k z (there i)))

  pub ascends_map : (P : A → Type 0) → ((x y : A) → P x → P y → c x y ≡ Ordering.lt → c' (f x) (f y) ≡ Ordering.lt)
      → (l : List A) → ((x : A) → Mem x l → P x) → Ascends c l → Ascends c' (map f l)
  ascends_map P mono l h =
      pairs_map (λ x y. c x y ≡ Ordering.lt) (λ x y. c' x y ≡ Ordering.lt) f l
      (λ x i y j e. mono x y (h x i) (h y j) e)

  -- a list put in order and then mapped, or mapped and then put in order
  pub in_order_map : (P : A → Type 0) → ((x y : A) → P x → P y → c x y ≡ Ordering.lt → c' (f x) (f y) ≡ Ordering.lt)
      → (l : List A) → ((x : A) → Mem x l → P x)
      → in_order c' order' (map f l) ≡ map f (in_order c order l)
  in_order_map P mono l h =
      same_ascending c' order' (in_order c' order' (map f l)) (map f (in_order c order l))
      (in_order_ascends c' order' (map f l))
      (ascends_map P mono (in_order c order l) (λ x i. h x (of_in_order c order x l i)) (in_order_ascends c order l))
      (record {
        into = λ y i.
            let r = of_map f y l (of_in_order c' order' y (map f l) i) in
            subst (λ (z : B). Mem z (map f (in_order c order l))) (sym r.2)
            (in_map f r.0 (in_order c order l) (in_in_order c order r.0 l r.1));
        back = λ y i.
            let r = of_map f y (in_order c order l) i in
            in_in_order c' order' y (map f l)
            (subst (λ (z : B). Mem z (map f l)) (sym r.2) (in_map f r.0 l (of_in_order c order r.0 l r.1)));
      })

-- a list without repeats, sorted, is the list in order
pub sort_distinct : {A : Type 0} (c : A → A → Ordering) (order : Linear c) (l : List A) → Distinct l
    → sort_by c l ≡ in_order c order l
sort_distinct c order l d =
    same_ascending c order (sort_by c l) (in_order c order l) (sorted_ascends c order l d) (in_order_ascends c order l)
    (record {
      into = λ x i. in_in_order c order x l (of_sorted c x l i);
      back = λ x i. in_sorted c x l (of_in_order c order x l i);
    })
