-- Marks in an array in place of a list of what was seen. A walk through items opens those that are neither marked nor
-- skipped, and marks the images of each that it opens. Vertices and pairs are walked alike: an item has a code, its
-- place in the array. Leans on the definitions' words on lists.
use Rattle.std.specs.Prelude.{◌≡◌, Bool, ◌||◌, eqb, get_or, set}
use Rattle.std.proofs.Math.Path.{refl, ap}
use Rattle.std.proofs.Common.{◌∙◌, eq-eqb, ne_eqb, length-set, get_or-set_same, get_or-set_other}
use Rattle.std.proofs.Math.Bool.{true, false, cond}
use mathlib.Core.List.{List, [], ◌∷◌, ◌++◌}
use Prim.Native.Nat.{ℕ, suc, ◌≤◌, ◌<◌}
use native.Mathlib.Omega.{arith}
use Rattle.std.proofs.Math.Decide.{ℕ_discrete}
use Rattle.std.proofs.Math.ListN.{length}
use Rattle.definitions.specs.Lists.{any_of, member_nat}

-- ---- marks

-- the places of a list are marked
unfoldable pub marked : List Bool → List ℕ → List Bool
marked marks [] = marks
marked marks (x ∷ xs) = marked (set marks x true) xs

pub marked_more : (marks : List Bool) (xs : List ℕ) (x : ℕ)
    → marked marks (xs ++ (x ∷ [])) ≡ set (marked marks xs) x true
unfolding marked
marked_more marks [] x = refl
marked_more marks (y ∷ xs) x = marked_more (set marks y true) xs x

pub marked_length : (marks : List Bool) (xs : List ℕ) → length (marked marks xs) ≡ length marks
unfolding marked
marked_length marks [] = refl
marked_length marks (x ∷ xs) = marked_length (set marks x true) xs ∙ length-set marks x true

or_swap : (a b c : Bool) → (a || (b || c)) ≡ ((b || a) || c)
or_swap true true c = refl
or_swap true false c = refl
or_swap false true c = refl
or_swap false false c = refl

-- A place is marked if it is in the list or was marked before.
pub marked_at_holds : (marks : List Bool) (xs : List ℕ) (u : ℕ) → u < length marks
    → get_or (marked marks xs) u false ≡ (member_nat u xs || get_or marks u false)
unfolding marked member_nat any_of
marked_at_holds marks [] u h = refl
marked_at_holds marks (x ∷ xs) u h =
    let e = length-set marks x true in
    marked_at_holds (set marks x true) xs u (omega arith) ∙ (ap (λ (b : Bool). member_nat u xs
    || b) (one (ℕ_discrete u x)) ∙ or_swap (member_nat u xs) (eqb u x) (get_or marks u false))
  where
    one : Dec (u ≡ x) → get_or (set marks x true) u false ≡ (eqb u x || get_or marks u false)
    one (yes e) = rw (eq-eqb u x e, e) (get_or-set_same marks x true false (omega arith))
    one (no n) = rw (ne_eqb u x n) (get_or-set_other marks x u true false n)

-- ---- a walk

module _ {A : Type 0} (code : A → ℕ) (images : A → List ℕ) (skip : A → Bool) where
  -- an item that opens nothing
  unfoldable pub passed : List Bool → A → Bool
  passed marks x = get_or marks (code x) false || skip x

  -- the items that open an orbit
  unfoldable pub walked : List Bool → List A → List A
  walked marks [] = []
  walked marks (x ∷ xs) =
      let old = walked marks xs in
      let new = x ∷ walked (marked marks (images x)) xs in
      cond (passed marks x) old new

  -- the marks behind a walk
  unfoldable pub marks_after : List Bool → List A → List Bool
  marks_after marks [] = marks
  marks_after marks (x ∷ xs) =
      let old = marks_after marks xs in
      let new = marks_after (marked marks (images x)) xs in
      cond (passed marks x) old new

  pub walked_append : (marks : List Bool) (xs ys : List A)
      → walked marks (xs ++ ys) ≡ walked marks xs ++ walked (marks_after marks xs) ys
  unfolding walked marks_after
  walked_append marks [] ys = refl
  walked_append marks (x ∷ xs) ys =
      go (passed marks x) (walked_append marks xs ys) (walked_append (marked marks (images x)) xs ys)
    where
      go : (b : Bool)
          → walked marks (xs ++ ys) ≡ walked marks xs ++ walked (marks_after marks xs) ys
          → walked (marked marks (images x)) (xs ++ ys)
          ≡ walked (marked marks (images x)) xs ++ walked (marks_after (marked marks (images x)) xs) ys
          → cond b (walked marks (xs ++ ys)) (x ∷ walked (marked marks (images x)) (xs ++ ys))
          ≡ cond b (walked marks xs) (x ∷ walked (marked marks (images x)) xs)
          ++ walked (cond b (marks_after marks xs) (marks_after (marked marks (images x)) xs)) ys
      go true e f = e
      go false e f = ap (λ (l : List A). x ∷ l) f

  pub marks_append : (marks : List Bool) (xs ys : List A)
      → marks_after marks (xs ++ ys) ≡ marks_after (marks_after marks xs) ys
  unfolding marks_after
  marks_append marks [] ys = refl
  marks_append marks (x ∷ xs) ys =
      go (passed marks x) (marks_append marks xs ys) (marks_append (marked marks (images x)) xs ys)
    where
      go : (b : Bool)
          → marks_after marks (xs ++ ys) ≡ marks_after (marks_after marks xs) ys
          → marks_after (marked marks (images x)) (xs ++ ys) ≡ marks_after (marks_after (marked marks (images x)) xs) ys
          → cond b (marks_after marks (xs ++ ys)) (marks_after (marked marks (images x)) (xs ++ ys))
          ≡ marks_after (cond b (marks_after marks xs) (marks_after (marked marks (images x)) xs)) ys
      go true e f = e
      go false e f = f

  pub walked_fewer : (marks : List Bool) (xs : List A) → length (walked marks xs) ≤ length xs
  unfolding walked
  walked_fewer marks [] = omega arith
  walked_fewer marks (x ∷ xs) = go (passed marks x) (walked_fewer marks xs) (walked_fewer (marked marks (images x)) xs)
    where
      go : (b : Bool) → length (walked marks xs) ≤ length xs → length (walked (marked marks (images x)) xs) ≤ length xs
          → length (cond b (walked marks xs) (x ∷ walked (marked marks (images x)) xs)) ≤ suc (length xs)
      go true e f = omega arith
      go false e f = omega arith

  -- one item, passed over or opened
  pub one_passed : (marks : List Bool) (x : A) → passed marks x ≡ true
      → (walked marks (x ∷ []) ≡ []) × (marks_after marks (x ∷ []) ≡ marks)
  unfolding walked marks_after
  one_passed marks x e = (rw e refl, rw e refl)

  pub one_opened : (marks : List Bool) (x : A) → passed marks x ≡ false
      → (walked marks (x ∷ []) ≡ x ∷ []) × (marks_after marks (x ∷ []) ≡ marked marks (images x))
  unfolding walked marks_after
  one_opened marks x e = (rw e refl, rw e refl)
