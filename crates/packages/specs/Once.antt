-- Numbers below a bound, none twice, tested one after the other: what is left decides. Leans on the definitions of
-- packages.
use Rattle.std.specs.Prelude.{◌≡◌, refl, Bool, true, false, not, ◌&&◌, ◌||◌, List, [], ◌∷◌, ℕ, zero, suc, ◌+◌, ◌-◌, ◌≤◌}
use Rattle.std.specs.Prelude.{◌<◌, T, ltb, eqb, length, get_or, take, drop}
use Rattle.std.proofs.Math.Path.{sym, ap}
use Rattle.std.specs.List.{list_any, list_all, range_with_len}
use native.Mathlib.Numerals.{add-one}
use Rattle.std.proofs.Math.ListN.{drop_of_length-le}
use Rattle.std.proofs.Common.{subst, ◌∙◌, ⊎_elim, arith, eq-eqb, ne_eqb, T_not, drop-cons, length-drop}
use Rattle.std.proofs.Math.Seq.{take-length}
use Rattle.std.proofs.Math.Decide.{ℕ_discrete}
use Rattle.definitions.specs.Lists.{any_of, all_of, member_nat}
use Rattle.definitions.specs.Noble.{distinct}
use Rattle.laws.specs.Bools.{true→holds, first as first_item_of, second as second-of}
use Rattle.laws.specs.Segments.{le_or_lt}

-- each below g, and no number twice
unfoldable pub once_below : ℕ → List ℕ → Bool
once_below g l = all_of (λ (v : ℕ). ltb v g) l && distinct l

-- ---- the items from the i-th on

abbrev pub rest_at : List ℕ → ℕ → ℕ → ℕ → List ℕ
rest_at l at n i = take (n - i) (drop (at + i) l)

pub rest_next : (l : List ℕ) (at n i : ℕ) → i < n → at + n ≤ length l → rest_at l at n i ≡ get_or l (at + i) 0
    ∷ rest_at l at n (i + 1)
rest_next l at n i h k =
    let e : n - i ≡ suc (n - (i + 1)) = omega arith in
    let q : suc (at + i) ≡ at + (i + 1) = omega arith in
    ap (λ (m : ℕ). take m (drop (at + i) l)) e
    ∙ (ap (take (suc (n - (i + 1)))) (drop-cons l (at + i) 0 (omega arith))
    ∙ ap (λ (m : ℕ). get_or l (at + i) 0 ∷ take (n - (i + 1)) (drop m l)) q)

pub rest_none : (l : List ℕ) (at n i : ℕ) → n ≤ i → rest_at l at n i ≡ []
rest_none l at n i h = let e : n - i ≡ 0 = omega arith in ap (λ (m : ℕ). take m (drop (at + i) l)) e

pub rest_all : (l : List ℕ) (at n : ℕ) → rest_at l at n 0 ≡ take n (drop at l)
rest_all l at n = let e : n - 0 ≡ n = omega arith in let q : at + 0 ≡ at = omega arith in λ t. take (e t) (drop (q t) l)

-- ---- one item and the rest

member_first : (v x : ℕ) (l : List ℕ) → member_nat v (x ∷ l) ≡ (eqb v x || member_nat v l)
unfolding member_nat any_of
member_first v x l = refl

once_above : (g v : ℕ) (l : List ℕ) → ltb v g ≡ false → once_below g (v ∷ l) ≡ false
unfolding once_below all_of
once_above g v l e = rw e refl

once_again : (g v : ℕ) (l : List ℕ) → member_nat v l ≡ true → once_below g (v ∷ l) ≡ false
unfolding once_below all_of distinct
once_again g v l e = rw e (never (ltb v g && all_of (λ (x : ℕ). ltb x g) l))
  where
    never : (b : Bool) → (b && false) ≡ false
    never true = refl
    never false = refl

once_on : (g v : ℕ) (l : List ℕ) → ltb v g ≡ true → member_nat v l ≡ false → once_below g (v ∷ l) ≡ once_below g l
unfolding once_below all_of distinct
once_on g v l e f = rw (e, f) refl

-- ---- what is left decides

module _ (test : List ℕ → Bool) (l : List ℕ) (at n : ℕ) where
  -- the test of the items from the i-th on is that of all of them
  unfoldable pub Decides : ℕ → Type 0
  Decides i = test (rest_at l at n i) ≡ test (take n (drop at l))

  pub decides_first : Decides 0
  unfolding Decides
  decides_first = ap test (rest_all l at n)

  module _ (i : ℕ) (so_far : Decides i) where
    decides_last : n ≤ i → test [] ≡ test (take n (drop at l))
    unfolding Decides
    decides_last h = sym (ap test (rest_none l at n i h)) ∙ so_far

    -- what one item and the rest come to, the test of all of them does
    decides_next : (h : i < n) (k : at + n ≤ length l) {b : Bool} → test (get_or l (at + i) 0 ∷ rest_at l at n (i + 1))
        ≡ b → b ≡ test (take n (drop at l))
    unfolding Decides
    decides_next h k e = sym (ap test (rest_next l at n i h k) ∙ e) ∙ so_far

module _ (v : ℕ) (l : List ℕ) (at n i : ℕ) (so_far : Decides (member_nat v) l at n i) where
  pub among_ends : n ≤ i → false ≡ member_nat v (take n (drop at l))
  unfolding member_nat any_of
  among_ends h = decides_last (member_nat v) l at n i so_far h

  module _ (h : i < n) (k : at + n ≤ length l) where
    pub among_found : eqb v (get_or l (at + i) 0) ≡ true → true ≡ member_nat v (take n (drop at l))
    among_found e =
        decides_next (member_nat v) l at n i so_far h k
        (member_first v (get_or l (at + i) 0) (rest_at l at n (i + 1))
        ∙ ap (λ (b : Bool). b || member_nat v (rest_at l at n (i + 1))) e)

    pub among_goes_on : eqb v (get_or l (at + i) 0) ≡ false → Decides (member_nat v) l at n (i + 1)
    unfolding Decides
    among_goes_on e =
        decides_next (member_nat v) l at n i so_far h k
        (member_first v (get_or l (at + i) 0) (rest_at l at n (i + 1))
        ∙ ap (λ (b : Bool). b || member_nat v (rest_at l at n (i + 1))) e)

module _ (g : ℕ) (l : List ℕ) (at n i : ℕ) (so_far : Decides (once_below g) l at n i) where
  pub once_ends : n ≤ i → true ≡ once_below g (take n (drop at l))
  unfolding once_below all_of distinct
  once_ends h = decides_last (once_below g) l at n i so_far h

  module _ (h : i < n) (k : at + n ≤ length l) where
    pub once_stops_above : ltb (get_or l (at + i) 0) g ≡ false → false ≡ once_below g (take n (drop at l))
    once_stops_above e =
        decides_next (once_below g) l at n i so_far h k (once_above g (get_or l (at + i) 0) (rest_at l at n (i + 1)) e)

    pub once_stops_again : member_nat (get_or l (at + i) 0) (rest_at l at n (i + 1)) ≡ true → false
        ≡ once_below g (take n (drop at l))
    once_stops_again e =
        decides_next (once_below g) l at n i so_far h k (once_again g (get_or l (at + i) 0) (rest_at l at n (i + 1)) e)

    pub once_goes_on : ltb (get_or l (at + i) 0) g ≡ true → member_nat (get_or l (at + i) 0) (rest_at l at n (i + 1))
        ≡ false → Decides (once_below g) l at n (i + 1)
    unfolding Decides
    once_goes_on e f =
        decides_next (once_below g) l at n i so_far h k (once_on g (get_or l (at + i) 0) (rest_at l at n (i + 1)) e f)

-- whether an item equals v, asked of the items from the first on
pub any_is_member : (v : ℕ) (l : List ℕ) → list_any (λ (y : ℕ). eqb y v) l ≡ member_nat v l
unfolding member_nat any_of
any_is_member v [] = refl
any_is_member v (y ∷ l) = rw (either_way (ℕ_discrete y v), any_is_member v l) refl
  where
    either_way : Dec (y ≡ v) → eqb y v ≡ eqb v y
    either_way (yes e) = eq-eqb y v e ∙ sym (eq-eqb v y (sym e))
    either_way (no n) = ne_eqb y v n ∙ sym (ne_eqb v y (λ e. n (sym e)))

-- all of the items behind a place
pub behind : (l : List ℕ) (k : ℕ) → take (length l - k) (drop k l) ≡ drop k l
behind l k = rw (sym (length-drop k l)) (take-length (drop k l))

-- whether an item stands again behind its place, asked of the items there
pub any_behind : (l : List ℕ) (i : ℕ)
    → list_any (λ (y : ℕ). eqb y (get_or l i 0)) (take (length l - (i + 1)) (drop (i + 1) l))
    ≡ member_nat (get_or l i 0) (drop (i + 1) l)
any_behind l i = any_is_member (get_or l i 0) _ ∙ ap (member_nat (get_or l i 0)) (behind l (i + 1))

-- ---- all places

module _ (g : ℕ) where
  one_more : (x : ℕ) (l : List ℕ) → ((ltb x g && not (member_nat x l)) && once_below g l) ≡ once_below g (x ∷ l)
  unfolding once_below all_of distinct
  one_more x l = swap (ltb x g) (not (member_nat x l)) (all_of (λ (v : ℕ). ltb v g) l) (distinct l)
    where
      swap : (a b c d : Bool) → ((a && b) && (c && d)) ≡ ((a && c) && (b && d))
      swap false b c d = refl
      swap true true c d = refl
      swap true false true d = refl
      swap true false false d = refl

  -- each number is below g, and doesn't stand again behind its place
  pub each_once : (l : List ℕ)
      → list_all (λ (i : ℕ). ltb (get_or l i 0) g && not (member_nat (get_or l i 0) (drop (i + 1) l)))
      (range_with_len 0 (length l)) ≡ once_below g l
  unfolding once_below all_of distinct
  each_once l = go 0 (length l) (omega arith)
    where
      go : (a many : ℕ) → a + many ≡ length l
          → list_all (λ (i : ℕ). ltb (get_or l i 0) g && not (member_nat (get_or l i 0) (drop (i + 1) l)))
          (range_with_len a many) ≡ once_below g (drop a l)
      go a zero h = sym (ap (once_below g) (drop_of_length-le l (omega arith)))
      go a (suc many) h =
          rw (add-one a, drop-cons l a 0 (omega arith))
          (ap (λ (b : Bool). (ltb (get_or l a 0) g && not (member_nat (get_or l a 0) (drop (suc a) l))) && b)
          (go (suc a) many (omega arith)) ∙ one_more (get_or l a 0) (drop (suc a) l))

-- ---- places of different numbers

member_place : (l : List ℕ) (j : ℕ) → j < length l → member_nat (get_or l j 0) l ≡ true
unfolding member_nat any_of
member_place [] j h = absurd (omega arith)
member_place (x ∷ l) zero h = rw (eq-eqb x x refl) refl
member_place (x ∷ l) (suc j) h = rw (member_place l j (omega arith)) (go (eqb (get_or l j 0) x))
  where
    go : (b : Bool) → (b || true) ≡ true
    go true = refl
    go false = refl

distinct_apart : (l : List ℕ) → T (distinct l) → (u w : ℕ) → u < w → w < length l → get_or l u 0 ≡ get_or l w 0 → ⊥
unfolding distinct
distinct_apart [] t u w h k e = omega arith
distinct_apart (x ∷ l) t zero zero h k e = omega arith
distinct_apart (x ∷ l) t zero (suc w) h k e =
    T_not (member_nat x l) (first_item_of (not (member_nat x l)) (distinct l) t)
    (subst (λ (y : ℕ). T (member_nat y l)) (sym e) (true→holds (member_place l w (omega arith))))
distinct_apart (x ∷ l) t (suc u) zero h k e = omega arith
distinct_apart (x ∷ l) t (suc u) (suc w) h k e =
    distinct_apart l (second-of (not (member_nat x l)) (distinct l) t) u w (omega arith) (omega arith) e

pub distinct_places : (l : List ℕ) → T (distinct l) → (u w : ℕ) → u < length l → w < length l → get_or l u 0
    ≡ get_or l w 0 → u ≡ w
distinct_places l t u w h k e = go (ℕ_discrete u w)
  where
    go : Dec (u ≡ w) → u ≡ w
    go (yes q) = q
    go (no q) = ⊎_elim
        (λ less. absurd (distinct_apart l t w u (omega (arith, less, q)) h (sym e)))
        (λ more. absurd (distinct_apart l t u w more k e))
        (le_or_lt w u)
