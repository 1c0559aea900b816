-- Laws of the items that pass a test, of the first that passes, and of a list reversed. Over any items. Leans on the
-- laws of lists.
use Rattle.std.specs.Prelude.{◌≡◌, Bool, not, ◌&&◌, ltb, length, get_or, take, drop}
use Rattle.std.proofs.Math.Path.{refl, sym, ap}
use Rattle.std.proofs.Common.{◌∙◌, arith, take-suc, length-take-le}
use Rattle.std.proofs.Math.Bool.{true, false, cond}
use mathlib.Core.List.{List, [], ◌∷◌, ◌++◌, map, flat_map, reverse_aux}
use Prim.Native.Nat.{ℕ, zero, suc, ◌≤◌, ◌<◌}
use Rattle.std.proofs.Math.Dec.{T, ltb→lt, lt→ltb}
use Rattle.std.proofs.Math.ListN.{replicate}
use Rattle.std.proofs.lemmas.List.{drop-append-le}
use Rattle.definitions.specs.Lists.{keep, place_of}
use Rattle.laws.specs.Bools.{true→holds, holds→true, fails→false}
use Rattle.laws.specs.Lists.{Mem, keep_all, keep_append}
use Rattle.laws.specs.Pairs.{Pairs}

module _ {A : Type 0} where
  pub reverse_last : (l : List A) (x : A) (acc : List A) → reverse_aux (l ++ (x ∷ [])) acc ≡ x ∷ reverse_aux l acc
  reverse_last [] x acc = refl
  reverse_last (y ∷ l) x acc = reverse_last l x (y ∷ acc)

  pub keep_one : (p : A → Bool) (x : A) → T (p x) → keep p (x ∷ []) ≡ x ∷ []
  unfolding keep
  keep_one p x h = rw (holds→true (p x) h) refl

  pub keep_none : (p : A → Bool) (x : A) → T (not (p x)) → keep p (x ∷ []) ≡ []
  unfolding keep
  keep_none p x h = rw (fails→false (p x) h) refl

  -- two tests, one after the other
  pub keep_and : (p q : A → Bool) (l : List A) → keep (λ (x : A). p x && q x) l ≡ keep q (keep p l)
  unfolding keep
  keep_and p q [] = refl
  keep_and p q (x ∷ l) = go (p x) (keep_and p q l)
    where
      go : (b : Bool) → keep (λ (y : A). p y && q y) l ≡ keep q (keep p l)
          → cond (b && q x) (x ∷ keep (λ (y : A). p y && q y) l) (keep (λ (y : A). p y && q y) l)
          ≡ keep q (cond b (x ∷ keep p l) (keep p l))
      go true e = ap (λ (r : List A). cond (q x) (x ∷ r) r) e
      go false e = e

  keep_replicate : (p : A → Bool) (n : ℕ) (x : A) → keep p (replicate n x) ≡ cond (p x) (replicate n x) []
  unfolding keep
  keep_replicate p zero x = go (p x)
    where
      go : (b : Bool) → [] ≡ cond b (replicate zero x) []
      go true = refl
      go false = refl
  keep_replicate p (suc n) x = go (p x) (keep_replicate p n x)
    where
      go : (b : Bool) → keep p (replicate n x) ≡ cond b (replicate n x) []
          → cond b (x ∷ keep p (replicate n x)) (keep p (replicate n x)) ≡ cond b (replicate (suc n) x) []
      go true e = ap (λ (r : List A). x ∷ r) e
      go false e = e

  -- items repeated, each so often as a number says: the test may come first or last
  pub keep_repeated : (p : A → Bool) (n : A → ℕ) (l : List A)
      → flat_map (λ (x : A). replicate (n x) x) (keep p l) ≡ keep p (flat_map (λ (x : A). replicate (n x) x) l)
  unfolding keep flat_map
  keep_repeated p n [] = refl
  keep_repeated p n (x ∷ l) =
      go (p x) (keep_repeated p n l)
      ∙ (ap (λ (r : List A). r ++ keep p (flat_map (λ (y : A). replicate (n y) y) l)) (sym (keep_replicate p (n x) x))
      ∙ sym (keep_append p (replicate (n x) x) (flat_map (λ (y : A). replicate (n y) y) l)))
    where
      go : (b : Bool)
          → flat_map (λ (y : A). replicate (n y) y) (keep p l) ≡ keep p (flat_map (λ (y : A). replicate (n y) y) l)
          → flat_map (λ (y : A). replicate (n y) y) (cond b (x ∷ keep p l) (keep p l))
          ≡ cond b (replicate (n x) x) [] ++ keep p (flat_map (λ (y : A). replicate (n y) y) l)
      go true e = ap (λ (r : List A). replicate (n x) x ++ r) e
      go false e = e

  -- a place is the first that passes
  -- of items that ascend by a key, those above a mark are the ones from the first such on
  pub keep_above : (key : A → ℕ) (mark : ℕ) (l : List A) → Pairs (λ (x y : A). key x ≤ key y) l
      → keep (λ (x : A). ltb mark (key x)) l ≡ drop (place_of (λ (x : A). ltb mark (key x)) l) l
  unfolding keep place_of
  keep_above key mark [] h = refl
  keep_above key mark (x ∷ l) h = go (ltb mark (key x)) refl (keep_above key mark l h.1)
    where
      above : T (ltb mark (key x)) → (y : A) → Mem y l → T (ltb mark (key y))
      above t y m = let k = ltb→lt mark (key x) t in let q = h.0 y m in lt→ltb mark (key y) (omega arith)

      go : (b : Bool) → ltb mark (key x) ≡ b
          → keep (λ (y : A). ltb mark (key y)) l ≡ drop (place_of (λ (y : A). ltb mark (key y)) l) l
          → cond b (x ∷ keep (λ (y : A). ltb mark (key y)) l) (keep (λ (y : A). ltb mark (key y)) l)
          ≡ drop (cond b 0 (suc (place_of (λ (y : A). ltb mark (key y)) l))) (x ∷ l)
      go true e ih = ap (λ (r : List A). x ∷ r) (keep_all (λ (y : A). ltb mark (key y)) l (above (true→holds e)))
      go false e ih = ih

  -- ---- a stretch of a list, its last item taken off

  pub stretch_last : (l : List A) (low i : ℕ) (d : A) → low ≤ i → i < length l
      → drop low (take (suc i) l) ≡ drop low (take i l) ++ (get_or l i d ∷ [])
  stretch_last l low i d h k =
      let t = length-take-le i l (omega arith) in
      ap (drop low) (take-suc l i d k) ∙ drop-append-le low (take i l) (get_or l i d ∷ []) (omega arith)

  pub stretch_none : (l : List A) (low i : ℕ) → i ≤ low → drop low (take i l) ≡ []
  stretch_none l low zero h = go low
    where
      go : (n : ℕ) → ◌≡◌ {A = List A} (drop n []) []
      go zero = refl
      go (suc n) = refl
  stretch_none [] low (suc i) h = go low
    where
      go : (n : ℕ) → ◌≡◌ {A = List A} (drop n []) []
      go zero = refl
      go (suc n) = refl
  stretch_none (x ∷ l) zero (suc i) h = absurd (omega arith)
  stretch_none (x ∷ l) (suc low) (suc i) h = stretch_none l low i (omega arith)

module _ {A B : Type 0} where
  pub map_last : (f : A → B) (l : List A) (x : A) → map f (l ++ (x ∷ [])) ≡ map f l ++ (f x ∷ [])
  map_last f [] x = refl
  map_last f (y ∷ l) x = ap (λ (r : List B). f y ∷ r) (map_last f l x)
