-- The turns of the loops over marks: one mark more. Leans on Marks.
use Rattle.std.specs.Prelude.{◌≡◌, Bool, set, take}
use Rattle.std.proofs.Math.Path.{refl, sym, ap}
use Rattle.std.proofs.Common.{◌∙◌}
use Rattle.std.proofs.Math.Bool.{true, false, cond}
use mathlib.Core.List.{List, [], ◌∷◌, ◌++◌, map, flat_map, map-append}
use Prim.Native.Nat.{ℕ, ◌+◌, ◌≤◌, ◌<◌}
use Rattle.std.specs.Int.{from_bool}
use native.Mathlib.Omega.{arith}
use Rattle.std.proofs.Math.ListN.{length, get_or, length-append}
use Rattle.definitions.specs.Lists.{Pair, keep, count_from}
use Rattle.laws.specs.Lists.{flat_map_append, keep_append}
use Rattle.rows.specs.Marks.{marked}
use Rattle.rows.specs.Codes.{pair_of}
use Rattle.shapes.specs.FigureWords.{edge_words}
use Rattle.edge_marks.specs.Marks.{codes_marked, mark_words}
use Rattle.figure_words.specs.Laws.{count_more, flat_more}

-- ---- marks

module _ (marks : List Bool) where
  pub codes_more : (c : ℕ)
      → codes_marked marks (c + 1) ≡ codes_marked marks c ++ keep (λ (code : ℕ). get_or marks code false) (c ∷ [])
  unfolding codes_marked keep
  codes_more c =
      ap (keep (λ (code : ℕ). get_or marks code false)) (count_more c)
      ∙ keep_append (λ (code : ℕ). get_or marks code false) (count_from 0 c) (c ∷ [])

  pub marks_count : (c many one : ℕ) → one ≡ from_bool (get_or marks c false) → many ≡ length (codes_marked marks c)
      → (many + one ≡ length (codes_marked marks (c + 1))) × (one ≤ 1)
  unfolding keep
  marks_count c many one e f =
      let n = length-append (codes_marked marks c) (keep (λ (code : ℕ). get_or marks code false) (c ∷ [])) in
      go (get_or marks c false) e (ap length (codes_more c) ∙ n)
    where
      go : (b : Bool) → one ≡ from_bool b → length (codes_marked marks (c + 1)) ≡ length (codes_marked marks c)
          + length (cond b (c ∷ []) []) → (many + one ≡ length (codes_marked marks (c + 1))) × (one ≤ 1)
      go true p q = (omega arith, omega arith)
      go false p q = (omega arith, omega arith)

  pub mark_words_holds : (c : ℕ) → edge_words (map pair_of (codes_marked marks c)) ++ mark_words marks c
      ≡ edge_words (map pair_of (codes_marked marks (c + 1)))
  unfolding mark_words keep edge_words flat_map
  mark_words_holds c =
      let words : Pair → List ℕ = λ e. 2 ∷ e.0 ∷ e.1 ∷ [] in
      go (get_or marks c false)
      ∙ sym (ap (λ (l : List ℕ). flat_map words (map pair_of l)) (codes_more c)
      ∙ (ap (flat_map words)
      (map-append pair_of (codes_marked marks c) (keep (λ (code : ℕ). get_or marks code false) (c ∷ [])))
      ∙ flat_map_append words (map pair_of (codes_marked marks c))
      (map pair_of (keep (λ (code : ℕ). get_or marks code false) (c ∷ [])))))
    where
      front : List ℕ
      front = flat_map (λ (e : Pair). 2 ∷ e.0 ∷ e.1 ∷ []) (map pair_of (codes_marked marks c))

      go : (b : Bool) → front ++ cond b (flat_map (λ (e : Pair). 2 ∷ e.0 ∷ e.1 ∷ []) (pair_of c ∷ [])) []
          ≡ front ++ flat_map (λ (e : Pair). 2 ∷ e.0 ∷ e.1 ∷ []) (map pair_of (cond b (c ∷ []) []))
      go true = refl
      go false = refl

  pub marks_none : 0 ≡ length (codes_marked marks 0)
  unfolding codes_marked keep count_from
  marks_none = refl

  pub mark_words_none : [] ≡ edge_words (map pair_of (codes_marked marks 0))
  unfolding codes_marked keep count_from edge_words flat_map
  mark_words_none = refl

  pub at_marked : (c : ℕ) → get_or marks c false ≡ true → edge_words (pair_of c ∷ []) ≡ mark_words marks c
  unfolding mark_words
  at_marked c e = rw e refl

  pub at_unmarked : (c : ℕ) → get_or marks c false ≡ false → [] ≡ mark_words marks c
  unfolding mark_words
  at_unmarked c e = rw e refl

pub marked_append : (marks : List Bool) (xs ys : List ℕ) → marked (marked marks xs) ys ≡ marked marks (xs ++ ys)
unfolding marked
marked_append marks [] ys = refl
marked_append marks (x ∷ xs) ys = marked_append (set marks x true) xs ys

-- items of a list whose images are marked, one more
pub marked_flat : {A : Type 0} (f : A → List ℕ) (marks : List Bool) (l : List A) (i : ℕ) (z : A) → i < length l
    → marked (marked marks (flat_map f (take i l))) (f (get_or l i z)) ≡ marked marks (flat_map f (take (i + 1) l))
marked_flat f marks l i z h = marked_append marks (flat_map f (take i l)) (f (get_or l i z))
    ∙ ap (marked marks) (flat_more f l i z h)

-- the first of what is left: its images are marked, and the others are left
pub marked_first : {A : Type 0} (f : A → List ℕ) (marks : List Bool) (x : A)
    (xs : List A) {new : List Bool} {left : List A} → new ≡ marked marks (f x) → left ≡ x ∷ xs
    → marked new (flat_map f xs) ≡ marked marks (flat_map f left)
unfolding flat_map
marked_first {A} f marks x xs e s =
    ap (λ (m : List Bool). marked m (flat_map f xs)) e
    ∙ (marked_append marks (f x) (flat_map f xs) ∙ ap (λ (l : List A). marked marks (flat_map f l)) (sym s))

pub marked_none : {A : Type 0} (f : A → List ℕ) (marks : List Bool) → marks ≡ marked marks (flat_map f [])
unfolding flat_map marked
marked_none f marks = refl
