-- Sets of vertices as numbers: the sum of 2 ^ v. Ascending lists of numbers below n are the numbers below 2 ^ n, one
-- to one; so equal numbers are equal sets, and a set's image under a permutation has the sum of the images' powers.
-- Leans on Lists, Pairs and Sorting.
use Rattle.std.specs.Prelude.{◌≡◌, Bool, true, false, cond, not, eqb}
use Rattle.std.proofs.Math.Path.{refl}
use Rattle.std.proofs.Common.{sym, ap, subst, ◌∙◌, eq-eqb, ne_eqb, eqb→eq}
use mathlib.Core.List.Permᴰ
use mathlib.Core.List.{List, [], ◌∷◌, map, Memᴰ, Pairwise}
use Prim.Native.Nat.{ℕ, zero, suc, ◌+◌, ◌*◌, ◌/◌, ◌%◌, ◌^◌, ◌≤◌, ◌<◌, compare, Ordering}
use Rattle.std.proofs.Math.Nat.{pow-zero, two-pow-succ}
use native.Mathlib.Omega.{arith}
use Rattle.std.proofs.Math.Decide.{ℕ_discrete}
use Rattle.std.proofs.Math.Dec.{T, eqb_refl, compare_is_eq}
use Rattle.definitions.specs.Lists.{is_gt, compare_nats, sort_by, sort_nats, insert_by}
use Rattle.laws.specs.Bools.{same_test}
use Rattle.laws.specs.Lists.{Mem, here, there, of_map}
use Rattle.laws.specs.Pairs.{Pairs, pairs_map}
use Rattle.laws.specs.Orders.{nats, nat_lists, compare_lt, is_eq}
use Rattle.laws.specs.Sorting.{perm_member, pairs_perm, sort_perm, sort_ascends, NotAboveBy}

-- ---- numbers of sets

-- the number of a set of vertices
unfoldable pub set_number : List ℕ → ℕ
set_number [] = 0
set_number (v ∷ vs) = 2 ^ v + set_number vs

-- the vertices, ascending from v on, of which n bits tell
unfoldable pub vertices_from : ℕ → ℕ → ℕ → List ℕ
vertices_from v zero x = []
vertices_from v (suc n) x =
    let rest = vertices_from (suc v) n (x / 2) in
    cond (eqb (x % 2) 1) (v ∷ rest) rest

-- the vertices below n of the set with a number, ascending
unfoldable pub vertices_of : ℕ → ℕ → List ℕ
vertices_of n x = vertices_from 0 n x

-- an ascending list of some of the n numbers v, v + 1, ..
pub data SetFrom : ℕ → ℕ → List ℕ → Type 0 where
  empty : {v : ℕ} → SetFrom v 0 []
  without : {v n : ℕ} {l : List ℕ} → SetFrom (suc v) n l → SetFrom v (suc n) l
  with : {v n : ℕ} {l : List ℕ} → SetFrom (suc v) n l → SetFrom v (suc n) (v ∷ l)

pub vertices_odd : (v n x : ℕ) → x % 2 ≡ 1 → vertices_from v (suc n) x ≡ v ∷ vertices_from (suc v) n (x / 2)
unfolding vertices_from
vertices_odd v n x e = rw (eq-eqb (x % 2) 1 e) refl

pub vertices_even : (v n x : ℕ) → (x % 2 ≡ 1 → ⊥) → vertices_from v (suc n) x ≡ vertices_from (suc v) n (x / 2)
unfolding vertices_from
vertices_even v n x e = rw (ne_eqb (x % 2) 1 e) refl

-- every number has such a list
pub vertices_set : (v n x : ℕ) → SetFrom v n (vertices_from v n x)
unfolding vertices_from
vertices_set v zero x = empty
vertices_set v (suc n) x = go (eqb (x % 2) 1) (vertices_set (suc v) n (x / 2))
  where
    go : (b : Bool) → SetFrom (suc v) n (vertices_from (suc v) n (x / 2))
        → SetFrom v (suc n) (cond b (v ∷ vertices_from (suc v) n (x / 2)) (vertices_from (suc v) n (x / 2)))
    go true r = with r
    go false r = without r

-- ---- a set is its number

-- the number of such a list, from v on
pub record Numbered (v n : ℕ) (l : List ℕ) : Type 0 where
  pub bits : ℕ
  pub number : set_number l ≡ 2 ^ v * bits
  pub small : bits < 2 ^ n
  pub list : vertices_from v n bits ≡ l

pub numbered : {v n : ℕ} {l : List ℕ} → SetFrom v n l → Numbered v n l
unfolding set_number vertices_from
numbered (empty {v}) = record { bits = 0; number = omega arith; small = rw pow-zero (omega arith); list = refl }
numbered (without {v} {n} {l} s) =
    let r = numbered s in
    let half : 2 * r.bits / 2 ≡ r.bits = omega arith in
    let number : set_number l ≡ 2 ^ suc v * r.bits = r.number in
    let small : r.bits < 2 ^ n = r.small in
    let p = two-pow-succ v in
    let q = two-pow-succ n in
    record {
      bits = 2 * r.bits;
      number = number ∙ (rw p (omega arith));
      small = rw q (omega arith);
      list = vertices_even v n (2 * r.bits) (λ e. omega arith) ∙ (rw half r.list);
    }
numbered (with {v} {n} {l} s) =
    let r = numbered s in
    let half : (2 * r.bits + 1) / 2 ≡ r.bits = omega arith in
    let number : set_number l ≡ 2 ^ suc v * r.bits = r.number in
    let small : r.bits < 2 ^ n = r.small in
    let p = two-pow-succ v in
    let q = two-pow-succ n in
    record {
      bits = 2 * r.bits + 1;
      number = ap (λ (k : ℕ). 2 ^ v + k) number ∙ (rw p (omega arith));
      small = rw q (omega arith);
      list = vertices_odd v n (2 * r.bits + 1) (omega arith) ∙ (rw half (ap (λ (m : List ℕ). v ∷ m) r.list));
    }

-- the number of an ascending list of numbers below n tells the list
pub vertices_number : {n : ℕ} {l : List ℕ} → SetFrom 0 n l → vertices_of n (set_number l) ≡ l
unfolding vertices_of
vertices_number {n} {l} s =
    let r = numbered s in
    let e : set_number l ≡ r.bits = r.number ∙ (rw pow-zero (omega arith)) in
    ap (vertices_from 0 n) e ∙ r.list

pub number_small : {n : ℕ} {l : List ℕ} → SetFrom 0 n l → set_number l < 2 ^ n
number_small {n} {l} s =
    let r = numbered s in
    let e : set_number l ≡ r.bits = r.number ∙ (rw pow-zero (omega arith)) in
    rw e r.small

-- equal numbers are equal sets
pub same_set : {n : ℕ} {l m : List ℕ} → SetFrom 0 n l → SetFrom 0 n m → set_number l ≡ set_number m → l ≡ m
same_set {n} {l} {m} s t e = sym (vertices_number s) ∙ (ap (vertices_of n) e ∙ vertices_number t)

-- and a number below 2 ^ n is that of its vertices
pub number_vertices_from : (v n x : ℕ) → x < 2 ^ n → set_number (vertices_from v n x) ≡ 2 ^ v * x
unfolding vertices_from set_number
number_vertices_from v zero x h = let e : x ≡ 0 = omega (arith, rw pow-zero at h) in rw e (omega arith)
number_vertices_from v (suc n) x h =
    let q : x < 2 ^ n + 2 ^ n = rw two-pow-succ at h in
    let ih : set_number (vertices_from (suc v) n (x / 2))
    ≡ (2 ^ v + 2 ^ v) * (x / 2) = rw two-pow-succ at (number_vertices_from (suc v) n (x / 2) (omega arith)) in
    go (ℕ_discrete (x % 2) 1) ih
  where
    go : Dec (x % 2 ≡ 1) → set_number (vertices_from (suc v) n (x / 2)) ≡ (2 ^ v + 2 ^ v) * (x / 2)
        → set_number (vertices_from v (suc n) x) ≡ 2 ^ v * x
    go (yes e) ih =
        let k : x ≡ 2 * (x / 2) + 1 = omega arith in
        ap set_number (vertices_odd v n x e)
        ∙ (ap (λ (j : ℕ). 2 ^ v + j) ih ∙ (omega (arith, ap (λ (j : ℕ). 2 ^ v * j) k)))
    go (no e) ih =
        let k : x ≡ 2 * (x / 2) = omega arith in
        ap set_number (vertices_even v n x e) ∙ (ih ∙ (omega (arith, ap (λ (j : ℕ). 2 ^ v * j) k)))

pub number_vertices : (n x : ℕ) → x < 2 ^ n → set_number (vertices_of n x) ≡ x
unfolding vertices_of
number_vertices n x h = number_vertices_from 0 n x h ∙ (rw pow-zero (omega arith))

-- ---- members

pub set_range : {v n : ℕ} {l : List ℕ} → SetFrom v n l → (u : ℕ) → Mem u l → (v ≤ u) × (u < v + n)
set_range empty u h = elim h [ ]
set_range (without s) u h = let r = set_range s u h in (omega (arith, r.0), omega (arith, r.1))
set_range (with {v} {n} s) u (Memᴰ.head e) = (omega arith, omega arith)
set_range (with {v} {n} s) u (Memᴰ.tail h) = let r = set_range s u h in (omega (arith, r.0), omega (arith, r.1))

pub set_rises : {v n : ℕ} {l : List ℕ} → SetFrom v n l → Pairs ◌<◌ l
set_rises empty = tt
set_rises (without s) = set_rises s
set_rises (with s) = ((λ y h. omega (arith, (set_range s y h).0)), set_rises s)

abbrev Within : ℕ → ℕ → List ℕ → Type 0
Within v n l = (u : ℕ) → Mem u l → (v ≤ u) × (u < v + n)

rising_more : (v n x : ℕ) (l : List ℕ) → Pairs ◌<◌ (x ∷ l) → Within v (suc n) (x ∷ l)
    → ((m : List ℕ) → Pairs ◌<◌ m → Within (suc v) n m → SetFrom (suc v) n m) → SetFrom v (suc n) (x ∷ l)
rising_more v n x l p h ih = go (ℕ_discrete x v)
  where
    first : (v ≤ x) × (x < v + suc n)
    first = h x (here refl)

    go : Dec (x ≡ v) → SetFrom v (suc n) (x ∷ l)
    go (yes e) =
        subst (λ (k : ℕ). SetFrom v (suc n) (k ∷ l)) (sym e)
        (with (ih l p.1 (λ u m. (omega (arith, p.0 u m), omega (arith, (h u (there m)).1)))))
    go (no e) = without (ih (x ∷ l) p within)
      where
        within : Within (suc v) n (x ∷ l)
        within u (Memᴰ.head q) = (omega (arith, first.0), omega (arith, first.1))
        within u (Memᴰ.tail m) = (omega (arith, p.0 u m, first.0), omega (arith, (h u (there m)).1))

-- what ascends strictly and lies in range is a set
pub rising_set : (v n : ℕ) (l : List ℕ) → Pairs ◌<◌ l → ((u : ℕ) → Mem u l → (v ≤ u) × (u < v + n)) → SetFrom v n l
rising_set v zero [] p h = empty
rising_set v zero (x ∷ l) p h = let r = h x (here refl) in absurd (omega (arith, r.0, r.1))
rising_set v (suc n) [] p h = without (rising_set (suc v) n [] tt (λ u m. elim m [ ]))
rising_set v (suc n) (x ∷ l) p h = rising_more v n x l p h (λ m q k. rising_set (suc v) n m q k)

-- ---- images

-- sorting does not change the number
number_insert : (x : ℕ) (l : List ℕ) → set_number (insert_by compare x l) ≡ 2 ^ x + set_number l
unfolding insert_by set_number
number_insert x [] = refl
number_insert x (y ∷ l) = go (is_gt (compare x y)) (number_insert x l)
  where
    go : (b : Bool) → set_number (insert_by compare x l) ≡ 2 ^ x + set_number l
        → set_number (cond b (y ∷ insert_by compare x l) (x ∷ y ∷ l)) ≡ 2 ^ x + (2 ^ y + set_number l)
    go true e = omega arith
    go false e = refl

pub number_sorted : (l : List ℕ) → set_number (sort_nats l) ≡ set_number l
unfolding sort_nats sort_by set_number
number_sorted [] = refl
number_sorted (x ∷ l) = number_insert x (sort_nats l) ∙ ap (λ (k : ℕ). 2 ^ x + k) (number_sorted l)

abbrev Apart : ℕ → ℕ → Type 0
Apart x y = x ≡ y → ⊥

-- distinct numbers below n, sorted, are a set
module _ (n : ℕ) (l : List ℕ) (distinct : Pairs Apart l) (below : (u : ℕ) → Mem u l → u < n) where
  not_above : (x y : ℕ) → NotAboveBy compare nats (λ (k : ℕ). k) x y → Apart x y → x < y
  unfolding is_gt
  not_above x y t a = go (compare x y) refl t
    where
      go : (o : Ordering) → compare x y ≡ o → T (not (is_gt o)) → x < y
      go Ordering.lt e u = compare_lt x y e
      go Ordering.eq e u = absurd (a (nats.equal x y e))
      go Ordering.gt e u = absurd u

  rises : (m : List ℕ) → Pairs Apart m → Pairwise (NotAboveBy compare nats (λ (k : ℕ). k)) m → Pairs ◌<◌ m
  rises [] d p = tt
  rises (x ∷ m) d (Pairwise.cons low p) = ((λ y h. not_above x y (low y ∣ h ∣₁) (d.0 y h)), rises m d.1 p)

  pub sorted_set : SetFrom 0 n (sort_nats l)
  unfolding sort_nats
  sorted_set =
      rising_set 0 n (sort_nats l)
      (rises (sort_nats l) (pairs_perm Apart (λ x y a e. a (sym e)) (Permᴰ.symm (sort_perm compare l)) distinct)
      (sort_ascends compare nats (λ (k : ℕ). k) l))
      (λ u h. (omega arith, omega (arith, below u (perm_member (sort_perm compare l) u h))))

-- ---- a set's image under a permutation

-- the image of a set of numbers below n is one, where no two have the same image
pub image_set : (n : ℕ) (f : ℕ → ℕ) (l : List ℕ) → SetFrom 0 n l → ((u : ℕ) → u < n → f u < n)
    → ((u w : ℕ) → u < n → w < n → f u ≡ f w → u ≡ w) → SetFrom 0 n (sort_nats (map f l))
image_set n f l s below one =
    sorted_set n (map f l)
    (pairs_map ◌<◌ Apart f l (λ x i y j h e. let p =
    one x y (omega (arith, (set_range s x i).1)) (omega (arith, (set_range s y j).1)) e in omega arith) (set_rises s))
    (λ u h. let r = of_map f u l h in
    subst (λ (k : ℕ). k < n) (sym r.2) (below r.0 (omega (arith, (set_range s r.0 r.1).1))))

-- two sets are compared by their numbers
pub compare_sets : {n : ℕ} {l m : List ℕ} → SetFrom 0 n l → SetFrom 0 n m
    → compare_is_eq (compare_nats l m) ≡ eqb (set_number l) (set_number m)
compare_sets {n} {l} {m} s t =
    same_test (compare_is_eq (compare_nats l m)) (eqb (set_number l) (set_number m))
    (λ h. subst (λ (k : List ℕ). T (eqb (set_number l) (set_number k)))
    (nat_lists.equal l m (is_eq (compare_nats l m) h)) (eqb_refl (set_number l)))
    (λ h. subst (λ (k : List ℕ). T (compare_is_eq (compare_nats l k)))
    (same_set s t (eqb→eq (set_number l) (set_number m) h)) (rw (nat_lists.self l) tt))
