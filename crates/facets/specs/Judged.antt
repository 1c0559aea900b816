-- The verdict on totals: the scan from the first total on for one of which none is above 2, and what a verdict says of
-- the totals. Leans on the definition of the search.
use Rattle.std.specs.Prelude.{◌≡◌, Bool, true, false, cond, not, List, [], ◌∷◌, ℕ, suc, ◌+◌, ◌≤◌, ◌<◌, T, ltb, eqb}
use Rattle.std.specs.Prelude.{◌==◌, length, get_or, Option, Some, None, MatchOption, position}
use Rattle.std.specs.List.{position_or_len}
use Rattle.std.proofs.lemmas.Bool.Decides.{nat_tests}
use Rattle.std.proofs.Math.Path.{refl}
use Rattle.std.proofs.Common.{sym, ⊎_elim, arith, T_not, nltb→le, lt→ltb, ltb→lt, eqb→eq}
use Rattle.std.proofs.Math.Dec.{not_T}
use Rattle.definitions.specs.Lists.{any_of, place_of}
use Rattle.definitions.specs.Search.{Verdict, over, closed, open_at, judge}
use Rattle.laws.specs.Merging.{place_is}
use Rattle.laws.specs.Bools.{holds→true, true→holds, false→fails, fails→false}
use Rattle.laws.specs.Segments.{le_or_lt}
use Rattle.laws.specs.Lists.{any_of_holds, any_witness, member_at, at_member}

-- ---- the scan for the lowest total of 1

pub judge_over : (l : List ℕ) → true ≡ any_of (ltb 2) l → over ≡ judge l
unfolding judge
judge_over l e = rw (sym e) refl

-- none before a place
abbrev pub NoneOpen : List ℕ → ℕ → Type 0
NoneOpen l i = (j : ℕ) → j < i → T (not (eqb 1 (get_or l j 0)))

pub none_next : (l : List ℕ) (i : ℕ) → NoneOpen l i → (get_or l i 0 ≡ 1 → ⊥) → NoneOpen l (i + 1)
none_next l i before n j h =
    ⊎_elim (λ k. before j k)
    (λ k. let e : j ≡ i = omega arith in rw e (not_T (eqb 1 (get_or l i 0)) (λ z. n (sym (eqb→eq 1 (get_or l i 0) z)))))
    (le_or_lt (suc j) i)

same_one : (x : ℕ) → eqb 1 x ≡ (x == 1)
same_one x = grind (arith, nat_tests)

-- where the library finds it
lowest_is : (l : List ℕ) → place_of (eqb 1) l ≡ position_or_len (λ (total : ℕ). total == 1) l
unfolding place_of
lowest_is [] = refl
lowest_is (x ∷ l) = rw (same_one x, lowest_is l) (go (x == 1) (position_or_len (λ (total : ℕ). total == 1) l))
  where
    go : (b : Bool) (n : ℕ) → cond b 0 (suc n) ≡ cond (not b) (1 + n) 0
    go true n = refl
    go false n = omega arith

module _ (l : List ℕ) (light : false ≡ any_of (ltb 2) l) where
  judge_lowest : (r : Option ℕ) → r ≡ position (λ (total : ℕ). total == 1) l
      → MatchOption r (closed ≡ judge l) (λ (ridge : ℕ). open_at ridge ≡ judge l)
  unfolding judge
  judge_lowest r e =
      rw (e, sym light, lowest_is l)
      (go (ltb (position_or_len (λ (total : ℕ). total == 1) l) (length l))
      (position_or_len (λ (total : ℕ). total == 1) l))
    where
      go : (b : Bool) (n : ℕ)
          → MatchOption (cond b (Some n) None) (closed ≡ cond b (open_at n) closed)
          (λ (ridge : ℕ). open_at ridge ≡ cond b (open_at n) closed)
      go true n = refl
      go false n = refl

  pub judge_found : (ridge : ℕ) → Some ridge ≡ position (λ (total : ℕ). total == 1) l → open_at ridge ≡ judge l
  judge_found ridge e = judge_lowest (Some ridge) e

  pub judge_unfound : None ≡ position (λ (total : ℕ). total == 1) l → closed ≡ judge l
  judge_unfound e = judge_lowest None e

  -- the same of a place that no total of 1 stands before
  judge_from : (i : ℕ) → place_of (eqb 1) l ≡ i → (b : Bool) → ltb i (length l) ≡ b
      → cond b (open_at i) closed ≡ judge l
  unfolding judge
  judge_from i e b q = rw (sym light, e, q) refl

  pub judge_open : (i : ℕ) → i < length l → NoneOpen l i → get_or l i 0 ≡ 1 → open_at i ≡ judge l
  judge_open i h before e =
      judge_from i (sym (place_is (eqb 1) 0 l i (omega arith) before (λ k. rw e tt))) true
      (holds→true (ltb i (length l)) (lt→ltb i (length l) h))

  pub judge_closed : (i : ℕ) → length l ≤ i → NoneOpen l i → closed ≡ judge l
  judge_closed i h before =
      let n = length l in
      let k = place_is (eqb 1) 0 l n (omega arith) (λ j k. before j (omega arith)) (λ k. absurd (omega arith)) in
      judge_from n (sym k) false (fails→false (ltb n n) (not_T (ltb n n) (λ z. let k = ltb→lt n n z in omega arith)))

-- ---- what a verdict says of the totals

-- no total above 2
pub none_over : (l : List ℕ) → ((i : ℕ) → i < length l → get_or l i 0 ≤ 2) → any_of (ltb 2) l ≡ false
none_over l light = fails→false (any_of (ltb 2) l) (not_T (any_of (ltb 2) l) none)
  where
    none : T (any_of (ltb 2) l) → ⊥
    none z =
        let w = any_witness (ltb 2) l z in
        let p = at_member w.0 l 0 w.1 in
        let k = ltb→lt 2 w.0 w.2 in
        let q = light p.0 p.1 in
        let e = p.2 in
        omega arith

-- a verdict that is not over
unfoldable pub NotOver : Verdict → Type 0
NotOver over = ⊥
NotOver (open_at ridge) = Unit {0}
NotOver closed = Unit {0}

pub judge_light : (l : List ℕ) → NotOver (judge l) → (i : ℕ) → i < length l → get_or l i 0 ≤ 2
unfolding judge NotOver
judge_light l w i h = go (any_of (ltb 2) l) refl w
  where
    go : (b : Bool) → any_of (ltb 2) l ≡ b
        → NotOver (cond b over (cond (ltb (place_of (eqb 1) l) (length l)) (open_at (place_of (eqb 1) l)) closed))
        → get_or l i 0 ≤ 2
    go true e v = absurd v
    go false e v =
        nltb→le 2 (get_or l i 0)
        (not_T (ltb 2 (get_or l i 0))
        (λ z. T_not (any_of (ltb 2) l) (false→fails e) (any_of_holds (ltb 2) (get_or l i 0) l (member_at l i 0 h) z)))

pub judge_inside : (l : List ℕ) (ridge : ℕ) → open_at ridge ≡ judge l → ridge < length l
unfolding judge
judge_inside l ridge e = go (any_of (ltb 2) l) (ltb (place_of (eqb 1) l) (length l)) refl e
  where
    absurdly : (◌≡◌ {A = ℕ} 0 1) → ridge < length l
    absurdly z = absurd (omega arith)

    go : (b c : Bool) → ltb (place_of (eqb 1) l) (length l) ≡ c → open_at ridge
        ≡ cond b over (cond c (open_at (place_of (eqb 1) l)) closed) → ridge < length l
    go true c q z = absurdly (cc)
    go false true q z = let k : ridge ≡ place_of (eqb 1) l = cc in let m =
        ltb→lt (place_of (eqb 1) l) (length l) (true→holds q) in omega arith
    go false false q z = absurdly (cc)
