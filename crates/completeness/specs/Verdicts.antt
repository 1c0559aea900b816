-- What the three verdicts say of a list's totals, and how totals add up. Over any table.
use Rattle.std.specs.Prelude.{◌≡◌, ◌⊎◌, Bool, true, false, not, ℕ, zero, suc, ◌+◌, ◌≤◌, ◌<◌, T, ltb, eqb, length}
use Rattle.std.specs.Prelude.{get_or}
use Rattle.std.proofs.Math.Path.{refl, ap}
use Rattle.std.proofs.Common.{sym, ◌∙◌, subst, inl, inr, arith, T_not, eqb→eq, ltb→lt, nltb→le}
use Rattle.std.proofs.Math.Bool.{cond}
use mathlib.Core.List.{List, [], ◌∷◌, ◌++◌, Memᴰ, Permᴰ}
use Rattle.std.specs.Prelude.{Some, None}
use Rattle.std.proofs.Math.Dec.{eqb_refl}
use Rattle.std.proofs.lemmas.List.{length-map}
use Rattle.definitions.specs.Lists.{any_of, place_of, count_from}
use Rattle.definitions.specs.Search.{Table, Facet, Verdict, over, closed, open_at, adds, total, totals, judge}
use Rattle.definitions.specs.Demands.{lowest_open}
use Rattle.laws.specs.Bools.{true→holds, false→fails}
use Rattle.laws.specs.Lists.{Mem, any_of_holds, any_witness, place_hit, place_miss, map_at_holds, member_at, at_member}
use Rattle.laws.specs.Lists.{count_at, count_length}

-- ---- totals

pub totals_length : (t : Table) (l : List Facet) → length (totals t l) ≡ t.ridges
unfolding totals
totals_length t l = length-map (count_from 0 t.ridges) (total t l) ∙ count_length 0 t.ridges

pub totals_at : (t : Table) (l : List Facet) (ridge : ℕ) → ridge < t.ridges
    → get_or (totals t l) ridge 0 ≡ total t l ridge
unfolding totals
totals_at t l ridge h =
    let e = count_length 0 t.ridges in
    map_at_holds (total t l) (count_from 0 t.ridges) ridge 0 0 (omega arith)
    ∙ ap (total t l) (count_at 0 t.ridges ridge 0 h ∙ omega arith)

pub total_append : (t : Table) (c d : List Facet) (ridge : ℕ)
    → total t (c ++ d) ridge ≡ total t c ridge + total t d ridge
unfolding total
total_append t [] d ridge = omega arith
total_append t (f ∷ fs) d ridge = let e = total_append t fs d ridge in omega arith

pub total_joined : (t : Table) (c : List Facet) (f : Facet) (ridge : ℕ)
    → total t (c ++ (f ∷ [])) ridge ≡ total t c ridge + adds t ridge f
unfolding total
total_joined t c f ridge = let e = total_append t c (f ∷ []) ridge in omega arith

-- a facet adds no more than the whole list has
pub adds_within : (t : Table) (ridge : ℕ) (f : Facet) (l : List Facet) → Mem f l → adds t ridge f ≤ total t l ridge
unfolding total
adds_within t ridge f [] x' = elim x' [ ]
adds_within t ridge f (g ∷ l) (Memᴰ.head e) = let k = ap (adds t ridge) e in omega arith
adds_within t ridge f (g ∷ l) (Memᴰ.tail h) = let k = adds_within t ridge f l h in omega arith

-- the order of a list does not matter to its totals
pub total_perm : (t : Table) (ridge : ℕ) {l m : List Facet} → Permᴰ l m → total t l ridge ≡ total t m ridge
unfolding total
total_perm t ridge Permᴰ.nil = refl
total_perm t ridge (Permᴰ.cons e d) = let k = total_perm t ridge d in let q = ap (adds t ridge) e in omega arith
total_perm t ridge (Permᴰ.swap e f) = let k = ap (adds t ridge) e in let q = ap (adds t ridge) f in omega arith
total_perm t ridge (Permᴰ.trans d e) = total_perm t ridge d ∙ total_perm t ridge e

-- ---- verdicts

-- what a verdict says of a list
pub data Means (t : Table) (l : List Facet) : Verdict → Type 0 where
  is_over : (ridge : ℕ) → ridge < t.ridges → 2 < total t l ridge → Means t l over
  is_open : (ridge : ℕ) → ridge < t.ridges → total t l ridge ≡ 1 → ((r : ℕ) → r < t.ridges → total t l r ≤ 2)
      → lowest_open t l ≡ Some ridge → Means t l (open_at ridge)
  is_closed : ((ridge : ℕ) → ridge < t.ridges → (total t l ridge ≡ 0) ⊎ (total t l ridge ≡ 2))
      → lowest_open t l ≡ None → Means t l closed

-- 0 or 2, for a total that is neither above 2 nor 1
none_or_two : (n : ℕ) → n ≤ 2 → ¬ (n ≡ 1) → (n ≡ 0) ⊎ (n ≡ 2)
none_or_two zero h k = inl refl
none_or_two (suc zero) h k = absurd (k refl)
none_or_two (suc (suc zero)) h k = inr refl
none_or_two (suc (suc (suc n))) h k = absurd (omega arith)

module _ (t : Table) (l : List Facet) where
  abbrev sums : List ℕ
  sums = totals t l

  abbrev lowest : ℕ
  lowest = place_of (eqb 1) sums

  open_is : (b : Bool) → ltb lowest (length sums) ≡ b → lowest_open t l ≡ cond b (Some lowest) None
  unfolding lowest_open
  open_is b e = ap (λ (x : Bool). cond x (Some lowest) None) (ap (ltb lowest) (sym (totals_length t l)) ∙ e)

  not_over : T (not (any_of (ltb 2) sums)) → (ridge : ℕ) → ridge < t.ridges → total t l ridge ≤ 2
  not_over n ridge h = go (ltb 2 (total t l ridge)) refl
    where
      in_sums : Mem (total t l ridge) sums
      in_sums =
          let e = totals_length t l in
          subst (λ (x : ℕ). Mem x sums) (totals_at t l ridge h) (member_at sums ridge 0 (omega arith))

      go : (b : Bool) → ltb 2 (total t l ridge) ≡ b → total t l ridge ≤ 2
      go true e =
          absurd (T_not (any_of (ltb 2) sums) n (any_of_holds (ltb 2) (total t l ridge) sums in_sums (true→holds e)))
      go false e = nltb→le 2 (total t l ridge) (false→fails e)

  by_lowest : T (not (any_of (ltb 2) sums)) → (b : Bool) → ltb lowest (length sums) ≡ b
      → Means t l (cond b (open_at lowest) closed)
  by_lowest n true e =
      let k = ltb→lt lowest (length sums) (true→holds e) in
      let m = totals_length t l in
      let h : lowest < t.ridges = omega arith in
      is_open lowest h (sym (totals_at t l lowest h)
      ∙ sym (eqb→eq 1 (get_or sums lowest 0) (place_hit (eqb 1) 0 sums k))) (not_over n) (open_is true e)
  by_lowest n false e =
      is_closed (λ ridge h. none_or_two (total t l ridge) (not_over n ridge h) (no_one ridge h)) (open_is false e)
    where
      no_one : (ridge : ℕ) → ridge < t.ridges → ¬ (total t l ridge ≡ 1)
      no_one ridge h z =
          let k = nltb→le lowest (length sums) (false→fails e) in
          let m = totals_length t l in
          T_not (eqb 1 (get_or sums ridge 0)) (place_miss (eqb 1) 0 sums ridge (omega arith) (omega arith))
          (subst (λ (x : ℕ). T (eqb 1 x)) (sym (totals_at t l ridge h ∙ z)) (eqb_refl 1))

  by_any : (b : Bool) → any_of (ltb 2) sums ≡ b
      → Means t l (cond b over (cond (ltb lowest (length sums)) (open_at lowest) closed))
  by_any true e =
      let w = any_witness (ltb 2) sums (true→holds e) in
      let p = at_member w.0 sums 0 w.1 in
      let k = p.1 in
      let m = totals_length t l in
      let h : p.0 < t.ridges = omega arith in
      let q = ltb→lt 2 w.0 w.2 in
      let s : total t l p.0 ≡ w.0 = sym (totals_at t l p.0 h) ∙ p.2 in
      is_over p.0 h (omega arith)
  by_any false e = by_lowest (false→fails e) (ltb lowest (length sums)) refl

  pub judge_means : Means t l (judge (totals t l))
  unfolding judge
  judge_means = by_any (any_of (ltb 2) sums) refl

-- ---- and the other way: totals of 0 and 2 are judged closed
abbrev pub ZeroOrTwo : Table → List Facet → Type 0
ZeroOrTwo t l = (ridge : ℕ) → ridge < t.ridges → (total t l ridge ≡ 0) ⊎ (total t l ridge ≡ 2)

pub closed_judged : (t : Table) (l : List Facet) → ZeroOrTwo t l → judge (totals t l) ≡ closed
closed_judged t l z = go (judge (totals t l)) (judge_means t l)
  where
    over_absurd : (ridge : ℕ) → 2 < total t l ridge → (total t l ridge ≡ 0) ⊎ (total t l ridge ≡ 2) → ⊥
    over_absurd ridge h (inl e) = omega arith
    over_absurd ridge h (inr e) = omega arith

    one_absurd : (ridge : ℕ) → total t l ridge ≡ 1 → (total t l ridge ≡ 0) ⊎ (total t l ridge ≡ 2) → ⊥
    one_absurd ridge h (inl e) = omega arith
    one_absurd ridge h (inr e) = omega arith

    go : (v : Verdict) → Means t l v → v ≡ closed
    go over (is_over ridge h k) = absurd (over_absurd ridge k (z ridge h))
    go (open_at r) (is_open ridge h k f o) = absurd (one_absurd ridge k (z ridge h))
    go closed (is_closed f o) = refl
