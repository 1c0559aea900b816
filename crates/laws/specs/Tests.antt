-- What the tests of a job's bytes lean on: items that stand a fixed stride apart, tests over them one item at a time,
-- and the permutations of 0, 1, .. , n − 1, told by marks.
-- Leans on Lists, Pairs, Orders and Sorting.
use Rattle.std.specs.Prelude.{◌≡◌, ◌⊎◌, Bool, not, ◌&&◌, ◌||◌, T, leb, ltb, ℤ, Float, length, get_or, drop, set}
use Rattle.std.specs.Prelude.{replicate}
use Rattle.std.proofs.Math.Path.{refl, sym, ap}
use Rattle.std.proofs.Common.{◌∙◌, subst, inl, inr, mul-le-mul, mul-le-mul_right, le_of_mul-le-mul_right, add-one}
use Rattle.std.proofs.Common.{leb→le, le→leb, ltb→lt, lt→ltb, eqb→eq, length-set, length-drop, take_at, drop_at}
use Rattle.std.proofs.Common.{length-take-le, drop-cons, get_or-set_same, get_or-set_other}
use Rattle.std.proofs.Math.Bool.{true, false}
use mathlib.Core.List.Permᴰ
use mathlib.Core.List.{List, [], ◌∷◌, ◌++◌, map, append_assoc, Memᴰ, Pairwise}
use Prim.Native.Nat.{ℕ, zero, suc, ◌+◌, ◌-◌, ◌*◌, ◌≤◌, ◌<◌, compare, Ordering}
use native.Mathlib.Omega.{arith}
use Rattle.std.proofs.Math.Dec.{eqb, compare_is_eq, eqb_refl}
use Rattle.std.specs.Float.{nan, inf, fin}
use Rattle.std.specs.Float.Ieee.{up, down, neg, lt, le, eq}
use Rattle.std.specs.Float.Ieee.Fits.{down_pos}
use Rattle.std.proofs.Math.ListN.{take}
use Rattle.std.proofs.lemmas.List.{length-replicate}
use Rattle.std.proofs.Math.Seq.{paste}
use Rattle.definitions.specs.Lists.{is_gt, then_by, compare_list, compare_nats, sort_by, sort_nats, all_of, count_from}
use Rattle.definitions.specs.Job.{within, same_nats, is_permutation}
use Rattle.laws.specs.Bools.{holds→true, both, first, second, left_of, right_of, fails→false, false→fails, same_test}
use Rattle.laws.specs.Segments.{le_or_lt}
use Rattle.laws.specs.Floats.{not_above}
use Rattle.laws.specs.Lists.{Mem, here, there, of_count}
use Rattle.laws.specs.Pairs.{Pairs, count_ascends}
use Rattle.laws.specs.Orders.{is_eq, compare_lt, nats, nat_lists}
use Rattle.laws.specs.Sorting.{perm_length, pairs_perm, sort_perm, in_sorted, of_sorted, sort_ascends}
use Rattle.laws.specs.Parts.{rows, rows_more, rows_of_take}

-- ---- products

pub product_at_most : (a b x y : ℕ) → a ≤ x → b ≤ y → a * b ≤ x * y
product_at_most a b x y h k = mul-le-mul h k

-- item i of so many that are n long ends where the next begins, and not behind the last
pub next_fits : (n i count : ℕ) → i < count → n * i + n ≤ n * count
next_fits n i count h = let e : n * suc i ≤ n * count = product_at_most n (suc i) n count (omega arith) h in omega arith

-- ---- items a stride apart

module _ {A : Type 0} (f : ℕ → A) where
  -- what f says of so many places, from one on
  unfoldable pub spaced : ℕ → ℕ → ℕ → List A
  spaced stride at many = map (λ (i : ℕ). f (at + stride * i)) (count_from 0 many)

  from_count : (stride at a many : ℕ) → map (λ (i : ℕ). f (at + stride * i)) (count_from (suc a) many)
      ≡ map (λ (i : ℕ). f (at + stride + stride * i)) (count_from a many)
  unfolding count_from
  from_count stride at a zero = refl
  from_count stride at a (suc many) =
      let e : at + stride * suc a ≡ at + stride + stride * a = omega arith in
      rw (e, from_count stride at (suc a) many) refl

  -- the first, and the others from the next place on
  pub spaced_first : (stride at many : ℕ) → spaced stride at (suc many) ≡ f at ∷ spaced stride (at + stride) many
  unfolding spaced count_from
  spaced_first stride at many =
      let e : at + stride * 0 ≡ at = omega arith in
      rw (e, from_count stride at 0 many) refl

  pub spaced_next : (stride at i many : ℕ) → i < many → spaced stride (at + stride * i) (many - i) ≡ f (at + stride * i)
      ∷ spaced stride (at + stride * (i + 1)) (many - (i + 1))
  spaced_next stride at i many h =
      let e : many - i ≡ suc (many - (i + 1)) = omega arith in
      let g : at + stride * (i + 1) ≡ at + stride * i + stride = omega arith in
      rw (e, g) (spaced_first stride (at + stride * i) (many - (i + 1)))

  pub spaced_none : (stride at i many : ℕ) → many ≤ i → spaced stride at (many - i) ≡ []
  unfolding spaced count_from
  spaced_none stride at i many h = let e : many - i ≡ 0 = omega arith in rw e refl

  pub spaced_all : (stride at many : ℕ) → spaced stride (at + stride * 0) (many - 0) ≡ spaced stride at many
  spaced_all stride at many =
      let e : at + stride * 0 ≡ at = omega arith in
      let g : many - 0 ≡ many = omega arith in
      rw (e, g) refl

  more : (stride at many : ℕ) → spaced stride at (suc many) ≡ spaced stride at many ++ (f (at + stride * many) ∷ [])
  unfolding spaced count_from
  more stride at zero = refl
  more stride at (suc many) =
      let e : at + stride + stride * many ≡ at + stride * suc many = omega arith in
      spaced_first stride at (suc many)
      ∙ ap (λ (l : List A). f at ∷ l)
      (more stride (at + stride) many ∙ ap (λ (k : ℕ). spaced stride (at + stride) many ++ (f k ∷ [])) e)
      ∙ ap (λ (l : List A). l ++ (f (at + stride * suc many) ∷ [])) (sym (spaced_first stride at many))

  -- one more at the end
  pub spaced_more : (stride at many : ℕ) → spaced stride at (many + 1) ≡ spaced stride at many
      ++ (f (at + stride * many) ∷ [])
  spaced_more stride at many = rw add-one (more stride at many)

  -- in two parts
  pub spaced_add : (stride at m many : ℕ) → spaced stride at (m + many) ≡ spaced stride at m
      ++ spaced stride (at + stride * m) many
  unfolding spaced count_from
  spaced_add stride at zero many =
      let e : 0 + many ≡ many = omega arith in
      let g : at + stride * 0 ≡ at = omega arith in
      rw (e, g) refl
  spaced_add stride at (suc m) many =
      let e : suc m + many ≡ suc (m + many) = omega arith in
      let g : at + stride + stride * m ≡ at + stride * suc m = omega arith in
      ap (spaced stride at) e ∙ (spaced_first stride at (m + many)
      ∙ (ap (λ (l : List A). f at ∷ l)
      (spaced_add stride (at + stride) m many
      ∙ ap (λ (k : ℕ). spaced stride (at + stride) m ++ spaced stride k many) g)
      ∙ ap (λ (l : List A). l ++ spaced stride (at + stride * suc m) many) (sym (spaced_first stride at m))))

-- ---- tests over a list

module _ {A : Type 0} (p : A → Bool) where
  pub all_fails : (x : A) (xs : List A) → p x ≡ false → all_of p (x ∷ xs) ≡ false
  unfolding all_of
  all_fails x xs e = rw e refl

  pub all_passes : (x : A) (xs : List A) → p x ≡ true → all_of p (x ∷ xs) ≡ all_of p xs
  unfolding all_of
  all_passes x xs e = rw e refl

  pub all_append : (xs ys : List A) → all_of p (xs ++ ys) ≡ (all_of p xs && all_of p ys)
  unfolding all_of
  all_append [] ys = refl
  all_append (x ∷ xs) ys = go (p x) (all_append xs ys)
    where
      go : (b : Bool) → all_of p (xs ++ ys) ≡ (all_of p xs && all_of p ys) → (b && all_of p (xs ++ ys))
          ≡ ((b && all_of p xs) && all_of p ys)
      go true e = e
      go false e = refl

  pub all_same : (q : A → Bool) → ((x : A) → p x ≡ q x) → (xs : List A) → all_of p xs ≡ all_of q xs
  unfolding all_of
  all_same q e [] = refl
  all_same q e (x ∷ xs) = rw (e x, all_same q e xs) refl

  all_of_none : (f : ℕ → A) (stride at width : ℕ)
      → all_of (all_of p) (spaced (λ (q : ℕ). spaced f stride q width) (stride * width) at 0)
      ≡ all_of p (spaced f stride at 0)
  unfolding all_of spaced count_from
  all_of_none f stride at width = refl

  -- lists that stand one behind the other are one list
  pub all_spaced : (f : ℕ → A) (stride at width many : ℕ)
      → all_of (all_of p) (spaced (λ (q : ℕ). spaced f stride q width) (stride * width) at many)
      ≡ all_of p (spaced f stride at (width * many))
  unfolding all_of
  all_spaced f stride at width zero = let e : width * 0 ≡ 0 = omega arith in rw e (all_of_none f stride at width)
  all_spaced f stride at width (suc many) =
      let e : width * suc many ≡ width + width * many = omega arith in
      ap (all_of (all_of p)) (spaced_first (λ (q : ℕ). spaced f stride q width) (stride * width) at many)
      ∙ (ap (λ (b : Bool). all_of p (spaced f stride at width) && b)
      (all_spaced f stride (at + stride * width) width many)
      ∙ (sym (all_append (spaced f stride at width) (spaced f stride (at + stride * width) (width * many)))
      ∙ ap (all_of p) (sym (ap (spaced f stride at) e ∙ spaced_add f stride at width (width * many)))))

-- ---- the turns of a loop that tests items a stride apart, from the first on, and stops at one that fails

module _ {A : Type 0} (p : A → Bool) (f : ℕ → A) (stride at many i : ℕ) where
  -- the items from the i-th on decide as all of them do
  abbrev pub RestDecides : Type 0
  RestDecides = all_of p (spaced f stride (at + stride * i) (many - i)) ≡ all_of p (spaced f stride at many)

  pub test_stops : i < many → p (f (at + stride * i)) ≡ false → RestDecides → false ≡ all_of p (spaced f stride at many)
  test_stops h e r =
      sym (ap (all_of p) (spaced_next f stride at i many h)
      ∙ all_fails p (f (at + stride * i)) (spaced f stride (at + stride * (i + 1)) (many - (i + 1))) e) ∙ r

  pub test_ends : many ≤ i → RestDecides → true ≡ all_of p (spaced f stride at many)
  unfolding all_of
  test_ends h r = sym (ap (all_of p) (spaced_none f stride (at + stride * i) i many h)) ∙ r

module _ {A : Type 0} (p : A → Bool) (f : ℕ → A) (stride at many : ℕ) where
  pub test_starts : RestDecides p f stride at many 0
  test_starts = ap (all_of p) (spaced_all f stride at many)

  pub test_goes_on : (i : ℕ) → i < many → p (f (at + stride * i)) ≡ true → RestDecides p f stride at many i
      → RestDecides p f stride at many (i + 1)
  test_goes_on i h e r =
      sym (ap (all_of p) (spaced_next f stride at i many h)
      ∙ all_passes p (f (at + stride * i)) (spaced f stride (at + stride * (i + 1)) (many - (i + 1))) e) ∙ r

-- ---- rows that are copied to places of their own

module _ {A : Type 0} where
  -- a row is copied behind n rows: they stay, and it is one more
  pub rows_paste : (stride width n : ℕ) (flat v : List A) → width ≤ stride → stride * n + width ≤ length flat
      → width ≤ length v
      → rows stride width (n + 1) (paste flat (stride * n) v width) ≡ rows stride width n flat ++ (take width v ∷ [])
  rows_paste stride width n flat v h fits long =
      let at = stride * n in
      let rest = drop (at + width) flat in
      let begins : length (take at flat) ≡ at = length-take-le at flat (omega arith) in
      let apart : paste flat at v width ≡ take at flat
      ++ (take width v ++ rest) = append_assoc (take at flat) (take width v) rest in
      let row : take width (drop at (paste flat at v width)) ≡ take width v =
      ap (λ (l : List A). take width (drop at l)) apart
      ∙ (ap (take width) (drop_at (take at flat) (take width v ++ rest) at begins)
      ∙ take_at (take width v) rest width (length-take-le width v long)) in
      let kept : take at (paste flat at v width) ≡ take at flat = ap (take at) apart
      ∙ take_at (take at flat) (take width v ++ rest) at begins in
      let same : rows stride width n (paste flat at v width) ≡ rows stride width n flat =
      sym (rows_of_take stride width n (paste flat at v width) h)
      ∙ (ap (rows stride width n) kept ∙ rows_of_take stride width n flat h) in
      rows_more stride width n (paste flat at v width)
      ∙ (ap (λ (ls : List (List A)). ls ++ (take width (drop at (paste flat at v width)) ∷ [])) same
      ∙ ap (λ (l : List A). rows stride width n flat ++ (l ∷ [])) row)

-- ---- lists of numbers that are the same

same_then : (o r : Ordering) → compare_is_eq (then_by o r) ≡ (compare_is_eq o && compare_is_eq r)
unfolding then_by
same_then Ordering.lt r = refl
same_then Ordering.eq r = refl
same_then Ordering.gt r = refl

pub same_first : (x y : ℕ) (xs ys : List ℕ) → same_nats (x ∷ xs) (y ∷ ys) ≡ (eqb x y && same_nats xs ys)
unfolding same_nats compare_nats compare_list
same_first x y xs ys = same_then (compare x y) (compare_list compare xs ys)

pub same_none : same_nats [] [] ≡ true
unfolding same_nats compare_nats compare_list
same_none = refl

pub same_nats_holds : (a b : List ℕ) → T (same_nats a b) → a ≡ b
unfolding same_nats
same_nats_holds a b t = nat_lists.equal a b (is_eq (compare_nats a b) t)

pub nats_same : (a b : List ℕ) → a ≡ b → T (same_nats a b)
unfolding same_nats
nats_same a b e = rw (e, nat_lists.self b) tt

-- one item more of a part of a list
part_next : (l : List ℕ) (at n i : ℕ) → i < n → at + n ≤ length l → take (n - i) (drop (at + i) l) ≡ get_or l (at + i) 0
    ∷ take (n - (i + 1)) (drop (at + (i + 1)) l)
part_next l at n i h fits =
    let e : n - i ≡ suc (n - (i + 1)) = omega arith in
    let g : suc (at + i) ≡ at + (i + 1) = omega arith in
    ap (λ (k : ℕ). take k (drop (at + i) l)) e
    ∙ (ap (take (suc (n - (i + 1)))) (drop-cons l (at + i) 0 (omega arith))
    ∙ ap (λ (k : ℕ). get_or l (at + i) 0 ∷ take (n - (i + 1)) (drop k l)) g)

part_all : (l : List ℕ) (at n : ℕ) → take (n - 0) (drop (at + 0) l) ≡ take n (drop at l)
part_all l at n =
    let e : n - 0 ≡ n = omega arith in
    let g : at + 0 ≡ at = omega arith in
    ap (λ (k : ℕ). take k (drop (at + 0) l)) e ∙ ap (λ (k : ℕ). take n (drop k l)) g

part_none : (l : List ℕ) (at n i : ℕ) → n ≤ i → take (n - i) (drop (at + i) l) ≡ []
part_none l at n i h = let e : n - i ≡ 0 = omega arith in ap (λ (k : ℕ). take k (drop (at + i) l)) e

-- ---- the turns of a loop that compares a part with 0, 1, ..

module _ (l : List ℕ) (at n i : ℕ) where
  abbrev pub CountsOn : Type 0
  CountsOn = same_nats (take (n - i) (drop (at + i) l)) (count_from i (n - i))
      ≡ same_nats (take n (drop at l)) (count_from 0 n)

  count_next : i < n → at + n ≤ length l
      → same_nats (take (n - i) (drop (at + i) l)) (count_from i (n - i))
      ≡ (eqb (get_or l (at + i) 0) i
      && same_nats (take (n - (i + 1)) (drop (at + (i + 1)) l)) (count_from (i + 1) (n - (i + 1))))
  unfolding count_from
  count_next h fits =
      let e : n - i ≡ suc (n - (i + 1)) = omega arith in
      ap (λ (r : List ℕ). same_nats r (count_from i (n - i))) (part_next l at n i h fits)
      ∙ (ap (λ (k : ℕ). same_nats (get_or l (at + i) 0 ∷ take (n - (i + 1)) (drop (at + (i + 1)) l)) (count_from i k)) e
      ∙ (same_first (get_or l (at + i) 0) i (take (n - (i + 1)) (drop (at + (i + 1)) l))
      (count_from (suc i) (n - (i + 1)))
      ∙ ap (λ (k : ℕ). eqb (get_or l (at + i) 0) i
      && same_nats (take (n - (i + 1)) (drop (at + (i + 1)) l)) (count_from k (n - (i + 1)))) (sym (add-one i))))

  pub count_stops : i < n → at + n ≤ length l → eqb (get_or l (at + i) 0) i ≡ false → CountsOn → false
      ≡ same_nats (take n (drop at l)) (count_from 0 n)
  count_stops h fits e r =
      sym (count_next h fits
      ∙ ap (λ (b : Bool). b
      && same_nats (take (n - (i + 1)) (drop (at + (i + 1)) l)) (count_from (i + 1) (n - (i + 1)))) e) ∙ r

  pub count_goes_on : i < n → at + n ≤ length l → eqb (get_or l (at + i) 0) i ≡ true → CountsOn
      → same_nats (take (n - (i + 1)) (drop (at + (i + 1)) l)) (count_from (i + 1) (n - (i + 1)))
      ≡ same_nats (take n (drop at l)) (count_from 0 n)
  count_goes_on h fits e r =
      sym (count_next h fits
      ∙ ap (λ (b : Bool). b
      && same_nats (take (n - (i + 1)) (drop (at + (i + 1)) l)) (count_from (i + 1) (n - (i + 1)))) e) ∙ r

  pub count_ends : n ≤ i → CountsOn → true ≡ same_nats (take n (drop at l)) (count_from 0 n)
  unfolding count_from
  count_ends h r =
      let e : n - i ≡ 0 = omega arith in
      sym (ap (λ (s : List ℕ). same_nats s (count_from i (n - i))) (part_none l at n i h)
      ∙ (ap (λ (k : ℕ). same_nats [] (count_from i k)) e ∙ same_none)) ∙ r

pub count_starts : (l : List ℕ) (at n : ℕ) → CountsOn l at n 0
count_starts l at n = let e : n - 0
    ≡ n = omega arith in ap (λ (s : List ℕ). same_nats s (count_from 0 (n - 0))) (part_all l at n)
    ∙ ap (λ (k : ℕ). same_nats (take n (drop at l)) (count_from 0 k)) e

-- ---- the numbers below n, each once

-- no two are the same
abbrev pub Distinct : List ℕ → Type 0
Distinct = Pairs (λ (x y : ℕ). x ≡ y → ⊥)

abbrev Ascending : List ℕ → Type 0
Ascending = Pairs (λ (x y : ℕ). x < y)

-- every item is below n, and no two are the same
pub record OnceBelow (n : ℕ) (l : List ℕ) : Type 0 where
  pub below : (x : ℕ) → Mem x l → x < n
  pub distinct : Distinct l

-- an ascending list of numbers from b on, below c, is no longer than c − b
ascending_fits : (s : List ℕ) (b c : ℕ) → b ≤ c → Ascending s → ((x : ℕ) → Mem x s → b ≤ x)
    → ((x : ℕ) → Mem x s → x < c) → b + length s ≤ c
ascending_fits [] b c h a low high = omega arith
ascending_fits (x ∷ s) b c h a low high =
    let l = low x (here refl) in
    let u = high x (here refl) in
    let k = ascending_fits s (suc x) c u a.1 a.0 (λ y m. high y (there m)) in
    omega arith

ascending_count : (a n : ℕ) (s : List ℕ) → length s ≡ n → Ascending s → ((x : ℕ) → Mem x s → a ≤ x)
    → ((x : ℕ) → Mem x s → x < a + n) → s ≡ count_from a n
unfolding count_from
ascending_count a zero [] e h low high = refl
ascending_count a zero (x ∷ s) e h low high = absurd (omega arith)
ascending_count a (suc n) [] e h low high = absurd (omega arith)
ascending_count a (suc n) (x ∷ s) e h low high =
    let l = low x (here refl) in
    let u = high x (here refl) in
    let k = ascending_fits s (suc x) (a + suc n) u h.1 h.0 (λ y m. high y (there m)) in
    let q : x ≡ a = omega arith in
    let rest =
    ascending_count (suc a) n s (omega arith) h.1 (λ y m. let z = h.0 y m in omega arith)
    (λ y m. let z = high y (there m) in omega arith) in
    rw (q, rest) refl

not_above_apart : (x y : ℕ) → T (not (is_gt (compare x y))) → (x ≡ y → ⊥) → x < y
unfolding is_gt
not_above_apart x y t d = go (compare x y) refl t
  where
    go : (o : Ordering) → compare x y ≡ o → T (not (is_gt o)) → x < y
    go Ordering.lt e u = compare_lt x y e
    go Ordering.eq e u = absurd (d (nats.equal x y e))
    go Ordering.gt e u = absurd u

distinct_ascends : (s : List ℕ) → Pairwise (λ (x y : ℕ). T (not (is_gt (compare x y)))) s → Distinct s → Ascending s
distinct_ascends [] p d = tt
distinct_ascends (x ∷ s) (Pairwise.cons low p) d =
    ((λ y m. not_above_apart x y (low y ∣ m ∣₁) (d.0 y m)), distinct_ascends s p d.1)

ascending_distinct : (s : List ℕ) → Ascending s → Distinct s
ascending_distinct [] a = tt
ascending_distinct (x ∷ s) a = ((λ y m e. let k = a.0 y m in omega arith), ascending_distinct s a.1)

-- [11.1] test 11: n numbers are a permutation exactly when each is below n and no two are the same
pub once_permutes : (n : ℕ) (row : List ℕ) → length row ≡ n → OnceBelow n row → T (is_permutation n row)
unfolding is_permutation sort_nats
once_permutes n row e o =
    let perm = sort_perm compare row in
    let distinct = pairs_perm (λ (x y : ℕ). x ≡ y → ⊥) (λ x y d q. d (sym q)) (Permᴰ.symm perm) o.distinct in
    let ascends = distinct_ascends (sort_by compare row) (sort_ascends compare nats (λ (x : ℕ). x) row) distinct in
    let high : (x : ℕ) → Mem x (sort_by compare row)
    → x < 0 + n = λ x m. let z = o.below x (of_sorted compare x row m) in omega arith in
    nats_same (sort_by compare row) (count_from 0 n)
    (ascending_count 0 n (sort_by compare row) (perm_length perm ∙ e) ascends (λ x m. omega arith) high)

pub permutes_once : (n : ℕ) (row : List ℕ) → T (is_permutation n row) → OnceBelow n row
unfolding is_permutation sort_nats
permutes_once n row t =
    let e : sort_by compare row ≡ count_from 0 n = same_nats_holds (sort_by compare row) (count_from 0 n) t in
    let counted : Distinct (count_from 0 n) = ascending_distinct (count_from 0 n) (count_ascends 0 n) in
    record {
      below = λ x m. let k = (of_count 0 n x (subst (Mem x) e (in_sorted compare x row m))).1 in omega arith;
      distinct =
          pairs_perm (λ (x y : ℕ). x ≡ y → ⊥) (λ x y d q. d (sym q)) (sort_perm compare row)
          (subst Distinct (sym e) counted);
    }

-- ---- told by marks

-- each item is below n and not marked yet, and is marked
unfoldable pub marks_good : ℕ → List Bool → List ℕ → Bool
marks_good n marks [] = true
marks_good n marks (x ∷ xs) = let rest = marks_good n (set marks x true) xs in ltb x n
    && (not (get_or marks x false) && rest)

-- no item is marked
abbrev Unmarked : List Bool → List ℕ → Type 0
Unmarked marks l = (x : ℕ) → Mem x l → get_or marks x false ≡ false

marks_say : (n : ℕ) (marks : List Bool) (row : List ℕ) → n ≤ length marks → T (marks_good n marks row) → OnceBelow n row
    × Unmarked marks row
unfolding marks_good
marks_say n marks [] h t = (record { below = λ x m. elim m [ ]; distinct = tt }, λ x m. elim m [ ])
marks_say n marks (x ∷ xs) h t =
    let small = ltb→lt x n (first (ltb x n) (not (get_or marks x false) && marks_good n (set marks x true) xs) t) in
    let more = second (ltb x n) (not (get_or marks x false) && marks_good n (set marks x true) xs) t in
    let clear =
    fails→false (get_or marks x false)
    (first (not (get_or marks x false)) (marks_good n (set marks x true) xs) more) in
    let rest =
    marks_say n (set marks x true) xs (rw length-set h)
    (second (not (get_or marks x false)) (marks_good n (set marks x true) xs) more) in
    let other : (y : ℕ) → Mem y xs → x ≡ y → ⊥ =
    λ y m e. true≢false
    (sym (get_or-set_same marks x true false (omega arith))
    ∙ (ap (λ (z : ℕ). get_or (set marks x true) z false) e ∙ rest.1 y m)) in
    (record { below = below_all small rest.0.below; distinct = (other, rest.0.distinct) }, unmarked clear other rest.1)
  where
    true≢false : true ≡ false → ⊥
    true≢false e = subst T e tt

    below_all : x < n → ((y : ℕ) → Mem y xs → y < n) → (y : ℕ) → Mem y (x ∷ xs) → y < n
    below_all s f y (Memᴰ.head e) = omega arith
    below_all s f y (Memᴰ.tail m) = f y m

    unmarked : get_or marks x false ≡ false → ((y : ℕ) → Mem y xs → x ≡ y → ⊥) → Unmarked (set marks x true) xs
        → Unmarked marks (x ∷ xs)
    unmarked e o u y (Memᴰ.head q) = ap (λ (z : ℕ). get_or marks z false) q ∙ e
    unmarked e o u y (Memᴰ.tail m) = sym (get_or-set_other marks x y true false (λ q. o y m (sym q))) ∙ u y m

say_marks : (n : ℕ) (marks : List Bool) (row : List ℕ) → OnceBelow n row → Unmarked marks row
    → T (marks_good n marks row)
unfolding marks_good
say_marks n marks [] o u = tt
say_marks n marks (x ∷ xs) o u =
    both (ltb x n) (not (get_or marks x false) && marks_good n (set marks x true) xs)
    (lt→ltb x n (o.below x (here refl)))
    (both (not (get_or marks x false)) (marks_good n (set marks x true) xs)
    (false→fails (u x (here refl)))
    (say_marks n (set marks x true) xs (record { below = λ y m. o.below y (there m); distinct = o.distinct.1 })
    (λ y m. get_or-set_other marks x y true false (λ q. o.distinct.0 y m (sym q)) ∙ u y (there m))))

no_marks : (w x : ℕ) → get_or (replicate w false) x false ≡ false
no_marks zero x = refl
no_marks (suc w) zero = refl
no_marks (suc w) (suc x) = no_marks w x

pub marks_permutation : (n w : ℕ) (row : List ℕ) → length row ≡ n → n ≤ w → marks_good n (replicate w false) row
    ≡ is_permutation n row
marks_permutation n w row e h =
    same_test (marks_good n (replicate w false) row) (is_permutation n row)
    (λ t. once_permutes n row e (marks_say n (replicate w false) row (rw length-replicate h) t).0)
    (λ t. say_marks n (replicate w false) row (permutes_once n row t) (λ x m. no_marks w x))

-- the turns of a loop that marks the items of a part

module _ (l : List ℕ) (at n : ℕ) (marks : List Bool) (i : ℕ) where
  abbrev pub MarksDecide : Type 0
  MarksDecide = marks_good n marks (take (n - i) (drop (at + i) l)) ≡ is_permutation n (take n (drop at l))

  abbrev item : ℕ
  item = get_or l (at + i) 0

  abbrev later : Bool
  later = marks_good n (set marks item true) (take (n - (i + 1)) (drop (at + (i + 1)) l))

  marks_next : i < n → at + n ≤ length l → marks_good n marks (take (n - i) (drop (at + i) l))
      ≡ (ltb item n && (not (get_or marks item false) && later))
  unfolding marks_good
  marks_next h fits = ap (marks_good n marks) (part_next l at n i h fits)

  pub marks_stop_beyond : i < n → at + n ≤ length l → ltb item n ≡ false → MarksDecide → false
      ≡ is_permutation n (take n (drop at l))
  marks_stop_beyond h fits e r =
      sym (marks_next h fits ∙ ap (λ (b : Bool). b && (not (get_or marks item false) && later)) e) ∙ r

  pub marks_stop_again : i < n → at + n ≤ length l → ltb item n ≡ true → get_or marks item false ≡ true → MarksDecide
      → false ≡ is_permutation n (take n (drop at l))
  marks_stop_again h fits e g r =
      sym (marks_next h fits
      ∙ (ap (λ (b : Bool). b && (not (get_or marks item false) && later)) e ∙ ap (λ (b : Bool). not b && later) g)) ∙ r

  pub marks_go_on : i < n → at + n ≤ length l → ltb item n ≡ true → get_or marks item false ≡ false → MarksDecide
      → later ≡ is_permutation n (take n (drop at l))
  marks_go_on h fits e g r =
      sym (marks_next h fits
      ∙ (ap (λ (b : Bool). b && (not (get_or marks item false) && later)) e ∙ ap (λ (b : Bool). not b && later) g)) ∙ r

  pub marks_end : n ≤ i → MarksDecide → true ≡ is_permutation n (take n (drop at l))
  unfolding marks_good
  marks_end h r = sym (ap (marks_good n marks) (part_none l at n i h)) ∙ r

pub marks_start : (l : List ℕ) (at n w : ℕ) → n ≤ w → at + n ≤ length l → MarksDecide l at n (replicate w false) 0
marks_start l at n w h fits =
    ap (marks_good n (replicate w false)) (part_all l at n)
    ∙ marks_permutation n w (take n (drop at l)) (length-take-le n (drop at l) (rw length-drop (omega arith))) h

-- ---- the size of a float

-- what `le` tests where the signs are the same, and where they are not
le_plus : (a b : ℕ) → (ltb a b || (eqb a b && true)) ≡ leb a b
le_plus a b =
    same_test (ltb a b || (eqb a b && true)) (leb a b) (λ t. le→leb a b (not_above a b t))
    (λ t. go (le_or_lt b a) (leb→le a b t))
  where
    go : (b ≤ a) ⊎ (a < b) → a ≤ b → T (ltb a b || (eqb a b && true))
    go (inl h) k =
        right_of (ltb a b) (eqb a b && true)
        (both (eqb a b) true (let e : a ≡ b = omega arith in subst (λ (z : ℕ). T (eqb a z)) e (eqb_refl a)) tt)
    go (inr h) k = left_of (ltb a b) (eqb a b && true) (lt→ltb a b h)

eqb_turned : (a b : ℕ) → eqb a b ≡ eqb b a
eqb_turned a b = same_test (eqb a b) (eqb b a) (λ t. subst (λ (z : ℕ). T (eqb z a)) (eqb→eq a b t) (eqb_refl a))
    (λ t. subst (λ (z : ℕ). T (eqb z b)) (eqb→eq b a t) (eqb_refl b))

le_minus_plus : (a b : ℕ) → (ltb 0 (a + b) || (eqb a b && eqb a 0)) ≡ true
le_minus_plus a b = holds→true (ltb 0 (a + b) || (eqb a b && eqb a 0)) (go (le_or_lt (a + b) 0))
  where
    go : (a + b ≤ 0) ⊎ (0 < a + b) → T (ltb 0 (a + b) || (eqb a b && eqb a 0))
    go (inl h) =
        let e : a ≡ 0 = omega arith in
        let q : b ≡ 0 = omega arith in
        right_of (ltb 0 (a + b)) (eqb a b && eqb a 0) (rw (e, q) tt)
    go (inr h) = left_of (ltb 0 (a + b)) (eqb a b && eqb a 0) (lt→ltb 0 (a + b) h)

-- a / q = k: x / d is at most it exactly when x is at most k d
at_most_whole : (k a q x d : ℕ) → 0 < q → a ≡ k * q → leb (x * q) (a * d) ≡ leb (x * 1) (k * 1 * d)
at_most_whole k a q x d h e =
    let g : a * d ≡ k * d * q = ap (λ (z : ℕ). z * d) e ∙ omega arith in
    same_test (leb (x * q) (a * d)) (leb (x * 1) (k * 1 * d))
    (λ t. let l : x * q ≤ k * d * q = subst (λ (z : ℕ). x * q ≤ z) g (leb→le (x * q) (a * d) t) in let m =
    le_of_mul-le-mul_right l h in le→leb (x * 1) (k * 1 * d) (omega arith))
    (λ t. let l = leb→le (x * 1) (k * 1 * d) t in let o : x ≤ k * d = omega arith in let m =
    mul-le-mul_right q o in le→leb (x * q) (a * d) (omega arith))

-- A float that stands for the whole number k bounds both sides: what lies between it and its opposite is what the
-- definition lets pass.
pub between_opposites : (k a : ℕ) (e : ℤ) → a * up e ≡ k * down e → (x : Float)
    → (le x (fin false a e) && le (neg (fin false a e)) x) ≡ within k x
unfolding within le lt eq neg
between_opposites k a e h nan = refl
between_opposites k a e h (inf true) = refl
between_opposites k a e h (inf false) = refl
between_opposites k a e h (fin false m d) =
    let A = m * up d * down e in
    let B = a * up e * down d in
    let q = at_most_whole k (a * up e) (down e) (m * up d) (down d) (down_pos e) h in
    rw (le_plus A B, le_minus_plus B A, le_plus (m * up d * 1) (k * 1 * down d)) (and_true (leb A B) ∙ q)
  where
    and_true : (b : Bool) → (b && true) ≡ b
    and_true true = refl
    and_true false = refl
between_opposites k a e h (fin true m d) =
    let A = m * up d * down e in
    let B = a * up e * down d in
    let q = at_most_whole k (a * up e) (down e) (m * up d) (down d) (down_pos e) h in
    rw (le_minus_plus A B, eqb_turned B A, le_plus A B, le_plus (m * up d * 1) (k * 1 * down d)) q
