-- Ascending numbers in a range, and permutations of 0, .., n − 1: what the test by sorting says, and how it is met.
-- And lists with the same items through the words that build lists. Leans on Places.
use Rattle.std.specs.Prelude.{◌≡◌, ◌⊎◌, Bool, true, false, cond, get_or}
use Rattle.std.proofs.Math.Path.{refl, sym, ap}
use Rattle.std.proofs.Common.{◌∙◌, subst}
use Rattle.std.proofs.Math.Logic.{inl, inr}
use mathlib.Core.List.{List, [], ◌∷◌, map, flat_map, Memᴰ}
use Prim.Native.Nat.{ℕ, zero, suc, ◌+◌, ◌≤◌, ◌<◌, compare, Ordering}
use native.Mathlib.Omega.{arith}
use Rattle.std.proofs.Math.Dec.{compare_is_eq}
use Rattle.std.proofs.Math.ListN.{length}
use Rattle.definitions.specs.Lists.{sort_nats, count_from, keep, any_of, fresh}
use Rattle.laws.specs.Lists.{Mem, here, there, in_map, of_map, in_flat_map, of_flat_map, member_at, of_count, in_count}
use Rattle.laws.specs.Lists.{count_length, in_keep, kept}
use Rattle.laws.specs.Pairs.{Pairs, count_ascends, pairs_keep}
use Rattle.laws.specs.Orders.{Linear, nats, compare_lt, lt_compare}
use Rattle.laws.specs.Sorting.{pairs_perm, sort_perm, in_sorted}
use Rattle.laws.specs.Ascending.{Differ, Distinct, Ascends, SameItems, ascends_distinct, sorted_length, same_ascending}
use Rattle.laws.specs.Ascending.{in_order, in_order_ascends, in_in_order, of_in_order, seen_among, seen_member}
use Rattle.laws.specs.Ascending.{member_seen}
use Rattle.laws.specs.Places.{place_in, place_at_holds, map_self}

-- ---- the same items

module _ {A B : Type 0} where
  pub same_map : (f : A → B) (l m : List A) → SameItems l m → SameItems (map f l) (map f m)
  same_map f l m s = record { into = half l m s.into; back = half m l s.back }
    where
      half : (l m : List A) → ((x : A) → Mem x l → Mem x m) → (y : B) → Mem y (map f l) → Mem y (map f m)
      half l m h y i =
          let r = of_map f y l i in
          subst (λ (z : B). Mem z (map f m)) (sym r.2) (in_map f r.0 m (h r.0 r.1))

  pub same_flat_map : (f : A → List B) (l m : List A) → SameItems l m → SameItems (flat_map f l) (flat_map f m)
  same_flat_map f l m s = record { into = half l m s.into; back = half m l s.back }
    where
      half : (l m : List A) → ((x : A) → Mem x l → Mem x m) → (y : B) → Mem y (flat_map f l) → Mem y (flat_map f m)
      half l m h y i = let r = of_flat_map f y l i in in_flat_map f y r.0 m (h r.0 r.1) r.2

-- ---- ascending numbers in a range

pub count_ascending : (a n : ℕ) → Ascends compare (count_from a n)
count_ascending a n = go (count_from a n) (count_ascends a n)
  where
    go : (l : List ℕ) → Pairs (λ (x y : ℕ). x < y) l → Ascends compare l
    go [] h = tt
    go (x ∷ l) h = ((λ y i. lt_compare x y (h.0 y i)), go l h.1)

-- no more of them than the range has numbers
pub ascending_span : (low high : ℕ) (l : List ℕ) → low ≤ high → Ascends compare l
    → ((x : ℕ) → Mem x l → (low ≤ x) × (x < high)) → low + length l ≤ high
ascending_span low high [] h a r = omega arith
ascending_span low high (x ∷ l) h a r =
    let here_in = r x (here refl) in
    let p = here_in.0 in
    let q = here_in.1 in
    let k = ascending_span (suc x) high l q a.1
    (λ y i. let s = compare_lt x y (a.0 y i) in let t = (r y (there i)).1 in (s, t)) in
    omega arith

-- what is said of the items at all places, in turn, is said of the items
module _ {B : Type 0} where
  shifted : (f : ℕ → B) (a n : ℕ) → map f (count_from (suc a) n) ≡ map (λ (i : ℕ). f (suc i)) (count_from a n)
  unfolding count_from
  shifted f a zero = refl
  shifted f a (suc n) = ap (λ (r : List B). f (suc a) ∷ r) (shifted f (suc a) n)

module _ {A B : Type 0} where
  pub map_places : (g : A → B) (d : A) (l : List A)
      → map (λ (i : ℕ). g (get_or l i d)) (count_from 0 (length l)) ≡ map g l
  unfolding count_from
  map_places g d [] = refl
  map_places g d (x ∷ l) =
      ap (λ (r : List B). g x ∷ r) (shifted (λ (i : ℕ). g (get_or (x ∷ l) i d)) 0 (length l) ∙ map_places g d l)

-- ---- permutations

-- the places of an ascending list's own items
pub own_places : {A : Type 0} (c : A → A → Ordering) (order : Linear c) (l : List A) → Ascends c l
    → map (place_in c order l) l ≡ count_from 0 (length l)
unfolding count_from
own_places c order [] h = refl
own_places c order (x ∷ l) h =
    let own = x ∷ l in
    sym (map_places (place_in c order own) x own)
    ∙ map_self (λ (i : ℕ). place_in c order own (get_or own i x)) (count_from 0 (length own))
    (λ i m. let b = (of_count 0 (length own) i m).1 in
    place_at_holds c order x own (ascends_distinct c order own h) i (omega arith))

-- two places of a list without repeats
pub places_apart : (l : List ℕ) → Distinct l → (i j d : ℕ) → i < length l → j < length l → get_or l i d ≡ get_or l j d
    → i ≡ j
places_apart l h i j d a b e =
    sym (place_at_holds compare nats d l h i a) ∙ ap (place_in compare nats l) e
    ∙ place_at_holds compare nats d l h j b

-- sorted, they are 0, .., n − 1
pub record Permutes (n : ℕ) (row : List ℕ) : Type 0 where
  pub sorted : sort_nats row ≡ count_from 0 n

module _ (n : ℕ) (row : List ℕ) where
  module _ (p : Permutes n row) where
    pub permutes_length : length row ≡ n
    unfolding sort_nats
    permutes_length = sym (sorted_length compare nats row) ∙ ap length p.sorted ∙ count_length 0 n

    pub permutes_distinct : Distinct row
    unfolding sort_nats
    permutes_distinct =
        pairs_perm Differ (λ x y d e. d (sym e)) (sort_perm compare row)
        (subst Distinct (sym p.sorted) (ascends_distinct compare nats (count_from 0 n) (count_ascending 0 n)))

    pub permutes_below : (x : ℕ) → Mem x row → x < n
    unfolding sort_nats
    permutes_below x i =
        let r = (of_count 0 n x (subst (λ (l : List ℕ). Mem x l) p.sorted (in_sorted compare x row i))).1 in
        omega arith

    pub permutes_at : (v : ℕ) → v < n → get_or row v 0 < n
    permutes_at v h = let e = permutes_length in permutes_below (get_or row v 0) (member_at row v 0 (omega arith))

    pub permutes_apart : (v w : ℕ) → v < n → w < n → get_or row v 0 ≡ get_or row w 0 → v ≡ w
    permutes_apart v w h k e =
        let l = permutes_length in
        places_apart row permutes_distinct v w 0 (omega arith) (omega arith) e

-- ---- how many items there can be

module _ {A : Type 0} where
  -- a list without one of its items
  dropped : (x : A) (m : List A) → Mem x m → List A
  dropped x [] x'' = elim x'' [ ]
  dropped x (y ∷ m) (Memᴰ.head e) = m
  dropped x (y ∷ m) (Memᴰ.tail i) = y ∷ dropped x m i

  dropped_length : (x : A) (m : List A) (i : Mem x m) → length m ≡ suc (length (dropped x m i))
  unfolding dropped
  dropped_length x [] i = elim i [ ]
  dropped_length x (y ∷ m) (Memᴰ.head e) = refl
  dropped_length x (y ∷ m) (Memᴰ.tail i) = ap suc (dropped_length x m i)

  in_dropped : (x : A) (m : List A) (i : Mem x m) (z : A) → Mem z m → Differ x z → Mem z (dropped x m i)
  unfolding dropped
  in_dropped x [] i z _ d = elim i [ ]
  in_dropped x (y ∷ m) (Memᴰ.head e) z (Memᴰ.head q) d = absurd (d (e ∙ sym q))
  in_dropped x (y ∷ m) (Memᴰ.head e) z (Memᴰ.tail j) d = j
  in_dropped x (y ∷ m) (Memᴰ.tail i) z (Memᴰ.head q) d = here q
  in_dropped x (y ∷ m) (Memᴰ.tail i) z (Memᴰ.tail j) d = there (in_dropped x m i z j d)

  -- a list without repeats is no longer than one that has all its items
  pub distinct_within : (l m : List A) → Distinct l → ((x : A) → Mem x l → Mem x m) → length l ≤ length m
  distinct_within [] m h k = omega arith
  distinct_within (x ∷ l) m h k =
      let i = k x (here refl) in
      let e = dropped_length x m i in
      let r = distinct_within l (dropped x m i) h.1 (λ z j. in_dropped x m i z (k z (there j)) (h.0 z j)) in
      omega arith

  this_or_dropped : (x : A) (m : List A) (i : Mem x m) (z : A) → Mem z m → (z ≡ x) ⊎ Mem z (dropped x m i)
  unfolding dropped
  this_or_dropped x [] i z _ = elim i [ ]
  this_or_dropped x (y ∷ m) (Memᴰ.head e) z (Memᴰ.head q) = inl (q ∙ sym e)
  this_or_dropped x (y ∷ m) (Memᴰ.head e) z (Memᴰ.tail j) = inr j
  this_or_dropped x (y ∷ m) (Memᴰ.tail i) z (Memᴰ.head q) = inr (here q)
  this_or_dropped x (y ∷ m) (Memᴰ.tail i) z (Memᴰ.tail j) = later (this_or_dropped x m i z j)
    where
      later : (z ≡ x) ⊎ Mem z (dropped x m i) → (z ≡ x) ⊎ Mem z (y ∷ dropped x m i)
      later (inl e) = inl e
      later (inr k) = inr (there k)

  -- and where it is no shorter, it has all the other's items
  pub distinct_full : (l m : List A) → Distinct l → ((x : A) → Mem x l → Mem x m) → length m ≤ length l → (x : A)
      → Mem x m → Mem x l
  distinct_full [] [] h k short x j = elim j [ ]
  distinct_full [] (y ∷ m) h k short x j = absurd (omega arith)
  distinct_full (y ∷ l) m h k short x j =
      let i = k y (here refl) in
      let e = dropped_length y m i in
      go (this_or_dropped y m i x j)
      (distinct_full l (dropped y m i) h.1 (λ z n. in_dropped y m i z (k z (there n)) (h.0 z n)) (omega arith) x)
    where
      go : {R : Type 0} → (x ≡ y) ⊎ R → (R → Mem x l) → Mem x (y ∷ l)
      go (inl e) later = here e
      go (inr d) later = there (later d)

-- different numbers below n are no more than n
pub distinct_below : (n : ℕ) (l : List ℕ) → Distinct l → ((x : ℕ) → Mem x l → x < n) → length l ≤ n
distinct_below n l h k =
    let r = distinct_within l (count_from 0 n) h (λ x i. let b = k x i in in_count 0 n x (omega arith) (omega arith)) in
    let e = count_length 0 n in
    omega arith

-- the items not seen are no more than the items
pub fresh_few : {A : Type 0} (c : A → A → Ordering) (seen l : List A) → length (fresh c seen l) ≤ length l
unfolding fresh
fresh_few c seen [] = omega arith
fresh_few c seen (x ∷ l) = go (any_of (λ s. compare_is_eq (c x s)) seen) (fresh_few c seen l) (fresh_few c (x ∷ seen) l)
  where
    go : (b : Bool) → length (fresh c seen l) ≤ length l → length (fresh c (x ∷ seen) l) ≤ length l
        → length (cond b (fresh c seen l) (x ∷ fresh c (x ∷ seen) l)) ≤ suc (length l)
    go true old new = omega arith
    go false old new = omega arith

-- ---- read off a larger list

-- the items of a list in order, read off an ascending list that has them all
pub in_order_kept : {A : Type 0} (c : A → A → Ordering) (order : Linear c) (l all : List A) → Ascends c all
    → ((x : A) → Mem x l → Mem x all) → in_order c order l ≡ keep (λ (x : A). seen_among c order x l) all
in_order_kept {A} c order l all h within =
    same_ascending c order (in_order c order l) (keep (λ (x : A). seen_among c order x l) all)
    (in_order_ascends c order l)
    (pairs_keep (λ x y. c x y ≡ Ordering.lt) (λ (x : A). seen_among c order x l) all h)
    (record {
      into =
          λ x i. let m = of_in_order c order x l i in
          in_keep (λ (y : A). seen_among c order y l) x all (within x m) (member_seen c order x l m);
      back =
          λ x i.
          in_in_order c order x l (seen_member c order x l (kept (λ (y : A). seen_among c order y l) x all i).1);
    })

-- and an ascending list so read off is the list itself
pub ascending_kept : {A : Type 0} (c : A → A → Ordering) (order : Linear c) (l all : List A) → Ascends c l
    → Ascends c all → ((x : A) → Mem x l → Mem x all) → keep (λ (x : A). seen_among c order x l) all ≡ l
ascending_kept {A} c order l all a h within =
    sym (in_order_kept c order l all h within)
    ∙ same_ascending c order (in_order c order l) l (in_order_ascends c order l) a
    (record { into = λ x i. of_in_order c order x l i; back = λ x i. in_in_order c order x l i })
