-- Amounts cut off at 3. A total above 2 makes a list over, however large it is, so that a facet's amount in a ridge
-- orbit may be cut off at 3 and no verdict changes. Over any table. Leans on the definition of the search.
use Rattle.std.specs.Prelude.{◌≡◌, ◌⊎◌, Bool, true, false, ℕ, zero, suc, ◌+◌, ◌≤◌, ◌<◌, min, ltb, eqb, length, get_or}
use Rattle.std.proofs.Math.Path.{refl}
use Rattle.std.proofs.Common.{sym, ap, ◌∙◌, inl, inr, arith, lt→ltb, eqb→eq}
use mathlib.Core.List.{List, [], ◌∷◌, ◌++◌}
use Rattle.std.proofs.lemmas.List.{length-map}
use Rattle.definitions.specs.Lists.{any_of, place_of, count_from}
use Rattle.definitions.specs.Search.{Table, Facet, adds, total, totals, judge}
use Rattle.laws.specs.Bools.{holds→true, true→holds}
use Rattle.laws.specs.Lists.{map_at_holds, count_at, count_length}

-- the same number, or both above 2
abbrev pub Alike : ℕ → ℕ → Type 0
Alike a b = (a ≡ b) ⊎ ((2 < a) × (2 < b))

-- what a facet adds, cut off at 3
unfoldable pub amount : Table → ℕ → Facet → ℕ
amount t ridge f = min (adds t ridge f) 3

-- a list's total of such amounts
unfoldable pub sum_at : Table → List Facet → ℕ → ℕ
sum_at t [] ridge = 0
sum_at t (f ∷ fs) ridge = amount t ridge f + sum_at t fs ridge

pub sum_joined : (t : Table) (l : List Facet) (f : Facet) (ridge : ℕ)
    → sum_at t (l ++ (f ∷ [])) ridge ≡ sum_at t l ridge + amount t ridge f
unfolding sum_at
sum_joined t [] f ridge = omega arith
sum_joined t (g ∷ l) f ridge = let e = sum_joined t l f ridge in omega arith

pub amount_small : (t : Table) (ridge : ℕ) (f : Facet) → amount t ridge f ≤ 3
unfolding amount
amount_small t ridge f = omega arith

alike_amount : (n : ℕ) → Alike n (min n 3)
alike_amount zero = inl (omega arith)
alike_amount (suc zero) = inl (omega arith)
alike_amount (suc (suc zero)) = inl (omega arith)
alike_amount (suc (suc (suc n))) = inr (omega arith, omega arith)

alike_sum : (a b x y : ℕ) → Alike a b → Alike x y → Alike (a + x) (b + y)
alike_sum a b x y (inl e) (inl f) = inl (omega arith)
alike_sum a b x y (inl e) (inr f) = inr (omega arith, omega arith)
alike_sum a b x y (inr e) f = inr (omega arith, omega (arith, e.1))

pub alike_total : (t : Table) (l : List Facet) (ridge : ℕ) → Alike (total t l ridge) (sum_at t l ridge)
unfolding total sum_at amount
alike_total t [] ridge = inl refl
alike_total t (f ∷ fs) ridge =
    alike_sum (adds t ridge f) (min (adds t ridge f) 3) (total t fs ridge) (sum_at t fs ridge)
    (alike_amount (adds t ridge f)) (alike_total t fs ridge)

-- ---- a verdict does not tell such numbers apart

alike_over : (a b : ℕ) → Alike a b → ltb 2 a ≡ ltb 2 b
alike_over a b (inl e) = ap (ltb 2) e
alike_over a b (inr e) = holds→true (ltb 2 a) (lt→ltb 2 a e.0) ∙ sym (holds→true (ltb 2 b) (lt→ltb 2 b e.1))

not_one : (a : ℕ) → 2 < a → eqb 1 a ≡ false
not_one a h = go (eqb 1 a) refl
  where
    go : (b : Bool) → eqb 1 a ≡ b → b ≡ false
    go true e = absurd (let k = eqb→eq 1 a (true→holds e) in omega arith)
    go false e = refl

alike_one : (a b : ℕ) → Alike a b → eqb 1 a ≡ eqb 1 b
alike_one a b (inl e) = ap (eqb 1) e
alike_one a b (inr e) = not_one a e.0 ∙ sym (not_one b e.1)

module _ (p : ℕ → Bool) (q : (a b : ℕ) → Alike a b → p a ≡ p b) where
  same_any : (xs ys : List ℕ) → length xs ≡ length ys
      → ((i : ℕ) → i < length xs → Alike (get_or xs i 0) (get_or ys i 0)) → any_of p xs ≡ any_of p ys
  unfolding any_of
  same_any [] [] e f = refl
  same_any [] (y ∷ ys) e f = absurd (omega arith)
  same_any (x ∷ xs) [] e f = absurd (omega arith)
  same_any (x ∷ xs) (y ∷ ys) e f =
      rw (q x y (f 0 (omega arith)), same_any xs ys (omega arith) (λ i h. f (suc i) (omega arith))) refl

  same_place : (xs ys : List ℕ) → length xs ≡ length ys
      → ((i : ℕ) → i < length xs → Alike (get_or xs i 0) (get_or ys i 0)) → place_of p xs ≡ place_of p ys
  unfolding place_of
  same_place [] [] e f = refl
  same_place [] (y ∷ ys) e f = absurd (omega arith)
  same_place (x ∷ xs) [] e f = absurd (omega arith)
  same_place (x ∷ xs) (y ∷ ys) e f =
      rw (q x y (f 0 (omega arith)), same_place xs ys (omega arith) (λ i h. f (suc i) (omega arith))) refl

judge_alike : (xs ys : List ℕ) → length xs ≡ length ys
    → ((i : ℕ) → i < length xs → Alike (get_or xs i 0) (get_or ys i 0)) → judge xs ≡ judge ys
unfolding judge
judge_alike xs ys e f = rw (same_any (ltb 2) alike_over xs ys e f, same_place (eqb 1) alike_one xs ys e f, e) refl

-- the verdict on a list, from sums of amounts that are cut off
pub judge_sums : (t : Table) (l : List Facet) (sums : List ℕ) → length sums ≡ t.ridges
    → ((ridge : ℕ) → ridge < t.ridges → get_or sums ridge 0 ≡ sum_at t l ridge) → judge (totals t l) ≡ judge sums
unfolding totals
judge_sums t l sums e f = judge_alike (totals t l) sums (long ∙ sym e) (λ i h. alike i (omega (arith, long)))
  where
    long : length (totals t l) ≡ t.ridges
    long = length-map (count_from 0 t.ridges) (total t l) ∙ count_length 0 t.ridges

    at : (i : ℕ) → i < t.ridges → get_or (totals t l) i 0 ≡ total t l i
    at i h =
        let k = count_length 0 t.ridges in
        map_at_holds (total t l) (count_from 0 t.ridges) i 0 0 (omega arith)
        ∙ ap (total t l) (count_at 0 t.ridges i 0 h ∙ omega arith)

    alike : (i : ℕ) → i < t.ridges → Alike (get_or (totals t l) i 0) (get_or sums i 0)
    alike i h = rw (at i h, f i h) (alike_total t l i)
