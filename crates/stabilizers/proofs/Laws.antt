-- The turns of the loops: one vertex more of a set, and one row more. Leans on Places.
use mathlib.Core.Path.{◌≡◌, refl, sym, ap, ◌∙◌}
use mathlib.Core.Bool.{Bool, true, false, cond}
use mathlib.Core.List.{List, [], ◌∷◌, ◌++◌, map, map-append, append-nil}
use Prim.Native.Nat.{ℕ, ◌+◌, ◌*◌, ◌-◌, ◌≤◌, ◌<◌}
use native.Mathlib.Omega.{arith}
use borrow.Rule.Slice.PartMut.{put_mid}
use lib.ListN.{length, get_or, set, take, drop, length-append, length-map, take-append-drop}
use lib.Seq.{sets, length-take-le}
use Rattle.definitions.specs.Lists.{keep}
use Rattle.definitions.specs.Orbits.{Row}
use Rattle.definitions.specs.Recursion.{keeps_set, row_within, rows_within}
use Rattle.laws.specs.Parts.{rows, rows_more, map_take_more}
use Rattle.laws.specs.Segments.{sets_append, take_sets_le, take_sets_ge, drop_sets_ge, drop_sets_add}
use Rattle.laws.specs.Sets.{vertices_of}
use Rattle.rows.specs.Rows.{rows_in, row_at, written_rows, written_more}
use Rattle.sets.specs.Vertices.{vertex_below}
use Rattle.stabilizers.specs.Places.{places, vertices_few}

-- ---- a row

place_small : (u x : ℕ) → length (vertices_of u x) ≤ u
unfolding vertices_of
place_small u x = vertices_few 0 u x

-- a vertex of a set, read in a list of them
pub among : (n set k : ℕ) (vertices : List ℕ) → vertices ≡ vertices_of n set → k < length vertices
    → get_or vertices k 0 < n
among n set k vertices e h = rw e (vertex_below n set k (rw e at h))

-- the place of a vertex's image under row i
abbrev place : List ℕ → ℕ → ℕ → ℕ → ℕ
place s i x v = length (vertices_of (get_or s (32 * i + v) 0) x)

places_length : (s : List ℕ) (i x : ℕ) (vertices : List ℕ) → length (places s i x vertices) ≡ length vertices
unfolding places
places_length s i x vertices = length-map vertices (place s i x)

pub places_few : (s : List ℕ) (i n x : ℕ) → length (places s i x (vertices_of n x)) ≤ n
places_few s i n x = omega (arith, places_length s i x (vertices_of n x), place_small n x)

-- the places of the first k vertices of a list, written to the front of a row
abbrev pub written : List ℕ → ℕ → ℕ → List ℕ → List ℕ → ℕ → List ℕ
written s i x vertices row k = sets row 0 (places s i x (take k vertices))

pub place_more : (s : List ℕ) (i x : ℕ) (vertices row : List ℕ) (k : ℕ) → k < length vertices
    → set (written s i x vertices row k) k (length (vertices_of (get_or s (32 * i + get_or vertices k 0) 0) x))
    ≡ written s i x vertices row (k + 1)
unfolding places
place_more s i x vertices row k h =
    let one = place s i x (get_or vertices k 0) ∷ [] in
    let at : 0 + length (places s i x (take k vertices))
    ≡ k = omega (arith, places_length s i x (take k vertices), length-take-le k vertices (omega arith)) in
    ap (λ (j : ℕ). sets (written s i x vertices row k) j one) (sym at)
    ∙ (sets_append (places s i x (take k vertices)) one row 0
    ∙ ap (sets row 0) (sym (map_take_more (place s i x) vertices k 0 h)))

-- what is written at the front of a part is written there in the whole
pub put_within : (a k : ℕ) (out vs : List ℕ) → length vs ≤ k
    → put_mid a k out (sets (take k (drop a out)) 0 vs) ≡ sets out a vs
put_within a k out vs h =
    let z : a + 0 ≡ a = omega arith in
    let run = sets (drop a out) 0 vs in
    let behind : drop a (sets out a vs) ≡ run = ap (λ (j : ℕ). drop a (sets out j vs)) (sym z)
    ∙ drop_sets_add vs out a 0 in
    let front : sets (take k (drop a out)) 0 vs ≡ take k run = sym (take_sets_ge vs (drop a out) k 0 (omega arith)) in
    let rest : drop k (drop a out) ≡ drop k run = sym (drop_sets_ge vs (drop a out) k 0 (omega arith)) in
    let part : sets (take k (drop a out)) 0 vs ++ drop k (drop a out)
    ≡ run = rw (front, rest) (take-append-drop k run) in
    ap (λ (l : List ℕ). take a out ++ l) part
    ∙ (rw (← behind, ← (take_sets_le vs out a a (omega arith))) (take-append-drop a (sets out a vs)))

-- ---- rows

module _ (vertices : List ℕ) (n : ℕ) (s out : List ℕ) where
  abbrev pub kept : ℕ → List Row
  kept i = rows_within vertices (rows_in n i s)

  abbrev row : ℕ → Row
  row i = row_at n i s

  keep_more : (p : Row → Bool) (l : List Row) (r : Row) → keep p (l ++ (r ∷ [])) ≡ keep p l ++ cond (p r) (r ∷ []) []
  unfolding keep
  keep_more p [] r = refl
  keep_more p (x ∷ l) r = go (p x) (keep_more p l r)
    where
      go : (b : Bool) → keep p (l ++ (r ∷ [])) ≡ keep p l ++ cond (p r) (r ∷ []) []
          → cond b (x ∷ keep p (l ++ (r ∷ []))) (keep p (l ++ (r ∷ [])))
          ≡ cond b (x ∷ keep p l) (keep p l) ++ cond (p r) (r ∷ []) []
      go true e = ap (λ (k : List Row). x ∷ k) e
      go false e = e

  kept_more : (i : ℕ)
      → kept (i + 1) ≡ kept i ++ map (row_within vertices) (cond (keeps_set vertices (row i)) (row i ∷ []) [])
  unfolding rows_within rows_in row_at
  kept_more i =
      ap (λ (l : List Row). map (row_within vertices) (keep (keeps_set vertices) l)) (rows_more 32 n i s)
      ∙ (ap (map (row_within vertices)) (keep_more (keeps_set vertices) (rows 32 n i s) (row_at n i s))
      ∙ map-append (row_within vertices) (keep (keeps_set vertices) (rows 32 n i s))
      (cond (keeps_set vertices (row_at n i s)) (row_at n i s ∷ []) []))

  pub rows_none : (0 ≡ length (kept 0)) × (out ≡ written_rows (kept 0) 0 out)
  unfolding rows_within rows_in rows keep written_rows
  rows_none = (refl, refl)

  module _ (i count : ℕ) (now : List ℕ) (counted : count ≡ length (kept i))
      (is : now ≡ written_rows (kept i) 0 out) where
    -- row i joins where it keeps the set
    pub row_joins : keeps_set vertices (row i) ≡ true → (count + 1 ≡ length (kept (i + 1)))
        × (sets now (32 * count) (row_within vertices (row i)) ≡ written_rows (kept (i + 1)) 0 out)
    row_joins keeps =
        let more : kept (i + 1) ≡ kept i ++ (row_within vertices (row i) ∷ []) = kept_more i ∙ rw keeps refl in
        let k : 0 + length (kept i) ≡ count = omega arith in
        rw more (
          omega (arith, length-append (kept i) (row_within vertices (row i) ∷ [])),
          ap (λ (l : List ℕ). sets l (32 * count) (row_within vertices (row i))) is
              ∙ (ap (λ (j : ℕ). sets (written_rows (kept i) 0 out) (32 * j) (row_within vertices (row i))) (sym k)
              ∙ sym (written_more (kept i) (row_within vertices (row i)) 0 out)),
        )

    -- and is passed over where it doesn't
    pub row_passed : keeps_set vertices (row i) ≡ false
        → (count ≡ length (kept (i + 1))) × (now ≡ written_rows (kept (i + 1)) 0 out)
    row_passed leaves =
        let same : kept (i + 1) ≡ kept i = kept_more i ∙ rw (leaves, append-nil) refl in
        rw same (counted, is)
