-- Parts of a list: how a beginning grows by an element, five places read or written one by one, and the rows of a
-- flat list, which lie a fixed stride apart. Leans on the kit's lib.ListN and lib.Seq.
use Rattle.std.specs.Prelude.{◌≡◌, get_or, set}
use Rattle.std.proofs.Math.Path.{refl, ap}
use Rattle.std.proofs.Common.{sym, ◌∙◌, add-one, zero-add, suc-add}
use mathlib.Core.List.{List, [], ◌∷◌, ◌++◌, map, append_assoc, map-append}
use Prim.Native.Nat.{ℕ, zero, suc, ◌+◌, ◌*◌, ◌≤◌, ◌<◌}
use Rattle.std.proofs.Math.Numerals.{add-two, add-three, add-four}
use native.Mathlib.Omega.{arith}
use Rattle.std.proofs.Math.ListN.{length, take, drop}
use lib.Seq.{take-suc, take-suc-set, take_all, take-nil, take-take, take_at, take-append-le, drop_at, drop-drop}
use lib.Seq.{drop-cons, length-take-le, sets, sets-eq}

module _ {A : Type 0} where
  -- one element more
  pub take_more : (l : List A) (i : ℕ) (z : A) → i < length l → take (i + 1) l ≡ take i l ++ (get_or l i z ∷ [])
  take_more l i z h = rw add-one (take-suc l i z h)

  -- one element more, which was just written
  pub take_more_set : (l : List A) (i : ℕ) (a : A) → i < length l → take (i + 1) (set l i a) ≡ take i l ++ (a ∷ [])
  take_more_set l i a h = rw add-one (take-suc-set l i a h)

  pub drop_take : (n m : ℕ) (l : List A) → drop n (take (n + m) l) ≡ take m (drop n l)
  drop_take zero m l = rw zero-add refl
  drop_take (suc n) m [] = rw suc-add (sym (take-nil m))
  drop_take (suc n) m (x ∷ l) = rw suc-add (drop_take n m l)

  -- ---- five places

  -- the five numbers from a place on, read one by one
  unfoldable pub five_at : List A → ℕ → A → List A
  five_at l at z =
      get_or l at z ∷ get_or l (at + 1) z ∷ get_or l (at + 2) z ∷ get_or l (at + 3) z ∷ get_or l (at + 4) z ∷ []

  -- the first five numbers of v, written one by one from a place on
  unfoldable pub set_five : List A → ℕ → List A → A → List A
  set_five l at v z =
      set (set (set (set (set l at (get_or v 0 z)) (at + 1) (get_or v 1 z)) (at + 2) (get_or v 2 z)) (at + 3)
      (get_or v 3 z)) (at + 4) (get_or v 4 z)

  pub five_at_is : (l : List A) (at : ℕ) (z : A) → at + 5 ≤ length l → five_at l at z ≡ take 5 (drop at l)
  unfolding five_at
  five_at_is l at z h =
      let h₀ : at < length l = omega arith in
      let h₁ : suc at < length l = omega arith in
      let h₂ : suc (suc at) < length l = omega arith in
      let h₃ : suc (suc (suc at)) < length l = omega arith in
      let h₄ : suc (suc (suc (suc at))) < length l = omega arith in
      rw (
        add-one at,
        add-two at,
        add-three at,
        add-four at,
        drop-cons l at z h₀,
        drop-cons l (suc at) z h₁,
        drop-cons l (suc (suc at)) z h₂,
        drop-cons l (suc (suc (suc at))) z h₃,
        drop-cons l (suc (suc (suc (suc at)))) z h₄,
      ) refl

  pub five_at_all : (v : List A) (z : A) → length v ≡ 5 → five_at v 0 z ≡ v
  five_at_all v z e = five_at_is v 0 z (omega arith) ∙ take_all 5 v (omega arith)

  pub set_five_is : (l : List A) (at : ℕ) (v : List A) (z : A) → at + 5 ≤ length l → length v ≡ 5
      → set_five l at v z ≡ take at l ++ (v ++ drop (at + 5) l)
  unfolding set_five five_at
  set_five_is l at v z h e =
      let all : five_at v 0 z ≡ v = five_at_all v z e in
      let stored : set_five l at v z
      ≡ sets l at (five_at v 0 z) = rw (add-one at, add-two at, add-three at, add-four at) refl in
      stored ∙ sets-eq (five_at v 0 z) l at h ∙ ap (λ (w : List A). take at l ++ w ++ drop (at + 5) l) all
      ∙ append_assoc (take at l) v (drop (at + 5) l)

  -- ---- rows

  -- `count` rows of a flat list: each is the first `width` of the `stride` numbers that belong to it
  unfoldable pub rows : ℕ → ℕ → ℕ → List A → List (List A)
  rows stride width zero flat = []
  rows stride width (suc count) flat = take width flat ∷ rows stride width count (drop stride flat)

  pub length_rows : (stride width n : ℕ) (flat : List A) → length (rows stride width n flat) ≡ n
  unfolding rows
  length_rows stride width zero flat = refl
  length_rows stride width (suc n) flat = ap suc (length_rows stride width n (drop stride flat))

  next_row : (stride n : ℕ) (flat : List A) → drop (stride * n) (drop stride flat) ≡ drop (stride * suc n) flat
  next_row stride n flat =
      let e : stride + stride * n ≡ stride * suc n = omega arith in
      drop-drop (stride * n) stride flat ∙ ap (λ (k : ℕ). drop k flat) e

  first_row : (stride : ℕ) (flat : List A) → drop (stride * 0) flat ≡ flat
  first_row stride flat = let e : stride * 0 ≡ 0 = omega arith in ap (λ (k : ℕ). drop k flat) e

  pub get_d_rows : (stride width n : ℕ) (flat : List A) (i : ℕ) → i < n
      → get_or (rows stride width n flat) i [] ≡ take width (drop (stride * i) flat)
  unfolding rows
  get_d_rows stride width zero flat i h = absurd (omega arith)
  get_d_rows stride width (suc n) flat zero h = ap (take width) (sym (first_row stride flat))
  get_d_rows stride width (suc n) flat (suc i) h =
      get_d_rows stride width n (drop stride flat) i (omega arith) ∙ ap (take width) (next_row stride i flat)

  row_more : (stride width n : ℕ) (flat : List A)
      → rows stride width (suc n) flat ≡ rows stride width n flat ++ (take width (drop (stride * n) flat) ∷ [])
  unfolding rows
  row_more stride width zero flat = ap (λ (l : List A). take width l ∷ []) (sym (first_row stride flat))
  row_more stride width (suc n) flat =
      ap (λ (ls : List (List A)). take width flat ∷ ls) (row_more stride width n (drop stride flat)
      ∙ ap (λ (l : List A). rows stride width n (drop stride flat) ++ (take width l ∷ [])) (next_row stride n flat))

  -- one row more
  pub rows_more : (stride width n : ℕ) (flat : List A)
      → rows stride width (n + 1) flat ≡ rows stride width n flat ++ (take width (drop (stride * n) flat) ∷ [])
  rows_more stride width n flat = rw add-one (row_more stride width n flat)

  -- n rows hold nothing from the place on where the next row begins
  pub rows_of_take : (stride width n : ℕ) (flat : List A) → width ≤ stride
      → rows stride width n (take (stride * n) flat) ≡ rows stride width n flat
  unfolding rows
  rows_of_take stride width zero flat h = refl
  rows_of_take stride width (suc n) flat h =
      let e : stride * suc n ≡ stride + stride * n = omega arith in
      let head : take width (take (stride * suc n) flat)
      ≡ take width flat = take-take width (stride * suc n) flat (omega (arith, e)) in
      let tail : drop stride (take (stride * suc n) flat)
      ≡ take (stride * n) (drop stride flat) = rw e (drop_take stride (stride * n) flat) in
      rw (head, tail, rows_of_take stride width n (drop stride flat) h) refl

  -- A row is written behind n rows: they stay, and it is one more.
  pub rows_put : (stride width n : ℕ) (flat v : List A) → width ≤ stride → stride * n + stride ≤ length flat
      → length v ≡ stride
      → rows stride width (n + 1) (take (stride * n) flat ++ (v ++ drop (stride * n + stride) flat))
      ≡ rows stride width n flat ++ (take width v ∷ [])
  rows_put stride width n flat v h fits e =
      let at = stride * n in
      let rest = v ++ drop (at + stride) flat in
      let begins : length (take at flat) ≡ at = length-take-le at flat (omega arith) in
      let kept : take at (take at flat ++ rest) ≡ take at flat = take_at (take at flat) rest at begins in
      let row : take width (drop at (take at flat ++ rest))
      ≡ take width v = rw (drop_at (take at flat) rest at begins)
      (take-append-le width v (drop (at + stride) flat) (omega arith)) in
      let same : rows stride width n (take at flat ++ rest) ≡ rows stride width n flat =
      sym (rows_of_take stride width n (take at flat ++ rest) h) ∙ ap (rows stride width n) kept
      ∙ rows_of_take stride width n flat h in
      rows_more stride width n (take at flat ++ rest) ∙ rw (row, same) refl

  -- ---- rows of five

  -- row n, written one by one behind n rows
  pub rows_written : (width n : ℕ) (flat v : List A) (z : A) → width ≤ 5 → 5 * n + 5 ≤ length flat → length v ≡ 5
      → rows 5 width (n + 1) (set_five flat (5 * n) v z) ≡ rows 5 width n flat ++ (take width v ∷ [])
  rows_written width n flat v z h fits e = rw (set_five_is flat (5 * n) v z fits e) (rows_put 5 width n flat v h fits e)

-- ---- maps over what grows

module _ {A B : Type 0} (f : A → B) where
  pub map_take_more : (l : List A) (i : ℕ) (z : A) → i < length l
      → map f (take (i + 1) l) ≡ map f (take i l) ++ (f (get_or l i z) ∷ [])
  map_take_more l i z h = rw (take_more l i z h) (map-append f (take i l) (get_or l i z ∷ []))

module _ {A B : Type 0} (f : List A → B) where
  pub map_rows_more : (stride width n : ℕ) (flat : List A) → map f (rows stride width (n + 1) flat)
      ≡ map f (rows stride width n flat) ++ (f (take width (drop (stride * n) flat)) ∷ [])
  map_rows_more stride width n flat =
      rw (rows_more stride width n flat)
      (map-append f (rows stride width n flat) (take width (drop (stride * n) flat) ∷ []))
