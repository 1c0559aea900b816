-- Sets as numbers whose order is that of the sets' lists: item by item, a proper prefix first. A set of items of an
-- ascending list of k is a number below 2 ^ k, so that sets are compared, sorted and looked up as single numbers.
-- Leans on Ascending and Ranges.
use Rattle.std.specs.Prelude.{◌≡◌, ◌⊎◌, true, false}
use Rattle.std.proofs.Math.Path.{refl, sym, ap}
use Rattle.std.proofs.Common.{◌∙◌}
use Rattle.std.proofs.Math.Logic.{inl, inr}
use Rattle.std.proofs.Math.Bool.{Bool, cond}
use mathlib.Core.List.{List, [], ◌∷◌, map}
use Prim.Native.Nat.{ℕ, zero, suc, ◌+◌, ◌^◌, ◌<◌, compare, Ordering}
use Rattle.std.proofs.Math.Nat.{pow-zero, two-pow-succ, one-le-pow}
use native.Mathlib.Omega.{arith}
use Rattle.std.proofs.Math.ListN.{length}
use Rattle.std.proofs.lemmas.List.{length-map}
use Rattle.definitions.specs.Lists.{then_by, compare_list, keep}
use Rattle.laws.specs.Lists.{Mem, here, there}
use Rattle.laws.specs.Orders.{Linear, nats, lists, turned, lt_compare}
use Rattle.laws.specs.Ascending.{Ascends, seen_among}
use Rattle.laws.specs.Ranges.{ascending_kept}

-- ---- numbers of marks

-- what the number of the marks behind becomes where a place is left out: the sets that have this place come before
unfoldable pub skipping : ℕ → ℕ → ℕ
skipping k zero = 0
skipping k (suc r) = 2 ^ k + suc r

-- the number of a set, of which each place tells whether it belongs
unfoldable pub order_number : List Bool → ℕ
order_number [] = 0
order_number (true ∷ bs) = suc (order_number bs)
order_number (false ∷ bs) = skipping (length bs) (order_number bs)

pub order_number_below : (bs : List Bool) → order_number bs < 2 ^ length bs
unfolding order_number skipping
order_number_below [] = let e = pow-zero 2 in omega arith
order_number_below (true ∷ bs) =
    let h = order_number_below bs in
    let e = two-pow-succ (length bs) in
    let p = one-le-pow (length bs) 2 (omega arith) in
    omega arith
order_number_below (false ∷ bs) = go (order_number bs) (order_number_below bs)
  where
    go : (r : ℕ) → r < 2 ^ length bs → skipping (length bs) r < 2 ^ suc (length bs)
    go zero h = let e = two-pow-succ (length bs) in omega arith
    go (suc r) h = let e = two-pow-succ (length bs) in omega arith

-- adding the same keeps the order
compare_added : (a m n : ℕ) → compare (a + m) (a + n) ≡ compare m n
compare_added zero m n = (λ t. compare (zero_left m t) (zero_left n t))
  where
    zero_left : (x : ℕ) → 0 + x ≡ x
    zero_left x = omega arith
compare_added (suc a) m n =
    (λ t. compare (suc_left m t) (suc_left n t))
    ∙ (Prim.Native.Nat.compare.suc-suc (a + m) (a + n) ∙ compare_added a m n)
  where
    suc_left : (x : ℕ) → suc a + x ≡ suc (a + x)
    suc_left x = omega arith

both_skip : (k m n : ℕ) → compare (skipping k m) (skipping k n) ≡ compare m n
unfolding skipping
both_skip k zero zero = refl
both_skip k zero (suc n) =
    (λ t. compare 0 (out t))
    ∙ (Prim.Native.Nat.compare.zero-suc (2 ^ k + n) ∙ sym (Prim.Native.Nat.compare.zero-suc n))
  where
    out : 2 ^ k + suc n ≡ suc (2 ^ k + n)
    out = omega arith
both_skip k (suc m) zero =
    (λ t. compare (out t) 0)
    ∙ (Prim.Native.Nat.compare.suc-zero (2 ^ k + m) ∙ sym (Prim.Native.Nat.compare.suc-zero m))
  where
    out : 2 ^ k + suc m ≡ suc (2 ^ k + m)
    out = omega arith
both_skip k (suc m) (suc n) = compare_added (2 ^ k) (suc m) (suc n)

-- ---- the items that are marked

module _ {A : Type 0} where
  unfoldable pub marked : List A → List Bool → List A
  marked [] bs = []
  marked (x ∷ all) [] = []
  marked (x ∷ all) (b ∷ bs) = let rest = marked all bs in cond b (x ∷ rest) rest

  -- marked by a test, they are those that pass
  pub marked_kept : (p : A → Bool) (all : List A) → marked all (map p all) ≡ keep p all
  unfolding marked keep
  marked_kept p [] = refl
  marked_kept p (x ∷ all) = ap (λ (rest : List A). cond (p x) (x ∷ rest) rest) (marked_kept p all)

  -- none is marked and the number is 0, or there is a first
  record First (all : List A) (bs : List Bool) : Type 0 where
    rest : ℕ
    item : A
    more : List A
    number : order_number bs ≡ suc rest
    items : marked all bs ≡ item ∷ more
    among : Mem item all

  first_item_of : (all : List A) (bs : List Bool) → length bs ≡ length all
      → ((order_number bs ≡ 0) × (marked all bs ≡ [])) ⊎ First all bs
  unfolding order_number skipping marked
  first_item_of [] [] e = inl (refl, refl)
  first_item_of [] (b ∷ bs) e = absurd (omega arith)
  first_item_of (x ∷ all) [] e = absurd (omega arith)
  first_item_of (x ∷ all) (true ∷ bs) e =
      inr (record {
        rest = order_number bs;
        item = x;
        more = marked all bs;
        number = refl;
        items = refl;
        among = here refl;
      })
  first_item_of (x ∷ all) (false ∷ bs) e = go (first_item_of all bs (omega arith))
    where
      go : ((order_number bs ≡ 0) × (marked all bs ≡ [])) ⊎ First all bs
          → ((order_number (false ∷ bs) ≡ 0) × (marked (x ∷ all) (false ∷ bs) ≡ [])) ⊎ First (x ∷ all) (false ∷ bs)
      go (inl h) = inl (ap (skipping (length bs)) h.0, h.1)
      go (inr f) =
          inr (record {
            rest = 2 ^ length bs + f.rest;
            item = f.item;
            more = f.more;
            number = ap (skipping (length bs)) f.number ∙ omega arith;
            items = f.items;
            among = there f.among;
          })

-- ---- the order of numbers is the order of sets

module _ {A : Type 0} (c : A → A → Ordering) (order : Linear c) where
  -- a set that has an item comes before every other that begins behind it, and behind the empty one
  with_before : (x : A) (all : List A) → ((y : A) → Mem y all → c x y ≡ Ordering.lt) → (bs cs : List Bool)
      → length bs ≡ length all → length cs ≡ length all → (more : List A)
      → compare_list c (x ∷ more) (marked all cs)
      ≡ compare (suc (order_number bs)) (skipping (length cs) (order_number cs))
  unfolding compare_list skipping then_by
  with_before x all below bs cs e d more = go (first_item_of all cs d)
    where
      go : ((order_number cs ≡ 0) × (marked all cs ≡ [])) ⊎ First all cs → compare_list c (x ∷ more) (marked all cs)
          ≡ compare (suc (order_number bs)) (skipping (length cs) (order_number cs))
      go (inl h) =
          ap (compare_list c (x ∷ more)) h.1
          ∙ sym (ap (λ (r : ℕ). compare (suc (order_number bs)) (skipping (length cs) r)) h.0
          ∙ Prim.Native.Nat.compare.suc-zero (order_number bs))
      go (inr f) =
          let n = order_number_below bs in
          let same : length bs ≡ length cs = omega arith in
          let w = ap (λ (k : ℕ). 2 ^ k) same in
          let less : compare (suc (order_number bs)) (2 ^ length cs + suc f.rest)
          ≡ Ordering.lt = lt_compare (suc (order_number bs)) (2 ^ length cs + suc f.rest) (omega arith) in
          ap (compare_list c (x ∷ more)) f.items
          ∙ (ap (λ (o : Ordering). then_by o (compare_list c more f.more)) (below f.item f.among)
          ∙ sym (ap (λ (r : ℕ). compare (suc (order_number bs)) (skipping (length cs) r)) f.number ∙ less))

  pub order_kept : (all : List A) → Ascends c all → (bs cs : List Bool) → length bs ≡ length all → length cs
      ≡ length all → compare_list c (marked all bs) (marked all cs) ≡ compare (order_number bs) (order_number cs)
  unfolding compare_list then_by order_number marked
  order_kept [] up [] [] d e = sym Prim.Native.Nat.compare.zero-zero
  order_kept [] up [] (y ∷ cs) d e = absurd (omega arith)
  order_kept [] up (b ∷ bs) cs d e = absurd (omega arith)
  order_kept (x ∷ all) up [] cs d e = absurd (omega arith)
  order_kept (x ∷ all) up (b ∷ bs) [] d e = absurd (omega arith)
  order_kept (x ∷ all) up (true ∷ bs) (true ∷ cs) d e =
      ap (λ (o : Ordering). then_by o (compare_list c (marked all bs) (marked all cs))) (order.self x)
      ∙ (order_kept all up.1 bs cs (omega arith) (omega arith)
      ∙ sym (Prim.Native.Nat.compare.suc-suc (order_number bs) (order_number cs)))
  order_kept (x ∷ all) up (true ∷ bs) (false ∷ cs) d e =
      with_before x all up.0 bs cs (omega arith) (omega arith) (marked all bs)
  order_kept (x ∷ all) up (false ∷ bs) (true ∷ cs) d e =
      (lists c order).mirror (x ∷ marked all cs) (marked all bs)
      ∙ (ap turned (with_before x all up.0 cs bs (omega arith) (omega arith) (marked all cs))
      ∙ sym (nats.mirror (suc (order_number cs)) (skipping (length bs) (order_number bs))))
  order_kept (x ∷ all) up (false ∷ bs) (false ∷ cs) d e =
      let same : length cs ≡ length bs = omega arith in
      order_kept all up.1 bs cs (omega arith) (omega arith)
      ∙ sym (ap (λ (k : ℕ). compare (skipping (length bs) (order_number bs)) (skipping k (order_number cs))) same
      ∙ both_skip (length bs) (order_number bs) (order_number cs))

  -- the number of a set of items of an ascending list
  unfoldable pub set_number : List A → List A → ℕ
  set_number all l = order_number (map (λ (x : A). seen_among c order x l) all)

  pub set_number_below : (all l : List A) → set_number all l < 2 ^ length all
  unfolding set_number
  set_number_below all l =
      let marks = map (λ (x : A). seen_among c order x l) all in
      let h = order_number_below marks in
      let e = ap (λ (k : ℕ). 2 ^ k) (length-map all (λ (x : A). seen_among c order x l)) in
      omega arith

  pub set_number_order : (all : List A) → Ascends c all → (l m : List A) → Ascends c l → Ascends c m
      → ((x : A) → Mem x l → Mem x all) → ((x : A) → Mem x m → Mem x all)
      → compare (set_number all l) (set_number all m) ≡ compare_list c l m
  unfolding set_number
  set_number_order all up l m h k inside within =
      let marks : List A → List Bool = λ s. map (λ (x : A). seen_among c order x s) all in
      let left : marked all (marks l) ≡ l = marked_kept (λ (x : A). seen_among c order x l) all
      ∙ ascending_kept c order l all h up inside in
      let right : marked all (marks m) ≡ m = marked_kept (λ (x : A). seen_among c order x m) all
      ∙ ascending_kept c order m all k up within in
      sym (order_kept all up (marks l) (marks m) (length-map all (λ (x : A). seen_among c order x l))
      (length-map all (λ (x : A). seen_among c order x m))) ∙ (λ t. compare_list c (left t) (right t))
