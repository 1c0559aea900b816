-- What the proofs of this crate share: an item of a walk, and vertices walked as pairs of a vertex with itself. Leans
-- on Marks and Codes.
use mathlib.Core.Path.{◌≡◌, refl, sym, ap, subst, ◌∙◌}
use mathlib.Core.Bool.{Bool, true, false, cond, ◌||◌, or-false}
use mathlib.Core.List.{List, [], ◌∷◌, ◌++◌, map, append-nil}
use Prim.Native.Nat.{ℕ, ◌+◌, ◌*◌, ◌≤◌, ◌<◌, min, max}
use native.Mathlib.Omega.{arith}
use lib.Dec.{T, eqb, eqb_refl, eqb→eq}
use lib.ListN.{length, get_or, length-replicate, get_or-replicate, replicate}
use Rattle.definitions.specs.Lists.{any_of, member_nat, count_from}
use Rattle.definitions.specs.Orbits.{Row, image, pair_image, vertex_openers}
use Rattle.laws.specs.Bools.{same_test}
use Rattle.laws.specs.Lists.{Mem, here, there, count_length, count_more, any_append}
use Rattle.rows.specs.Rows.{rows_in, RowsFit, ImagesBelow}
use Rattle.rows.specs.Marks.{marked, marked_at_holds, marked_length, passed, walked, marks_after, walked_append}
use Rattle.rows.specs.Marks.{marks_append, walked_fewer, one_passed, one_opened}
use Rattle.rows.specs.Codes.{pair_code, pair_codes}
use Rattle.openers.specs.Meaning.{vertex_images, none_skipped}
use Rattle.rows.proofs.Codes.{codes_wide}

-- ---- a walk, one item more

module _ {A : Type 0} (code : A → ℕ) (images : A → List ℕ) (skip : A → Bool) (marks : List Bool) (x : A)
    (found : List A) where
  abbrev joined : List A
  joined = found ++ walked code images skip marks (x ∷ [])

  abbrev after : List Bool
  after = marks_after code images skip marks (x ∷ [])

  pub item_passed : passed code images skip marks x ≡ true → (found ≡ joined) × (marks ≡ after)
  item_passed e =
      let one = one_passed code images skip marks x e in
      (sym (append-nil found) ∙ ap (λ (l : List A). found ++ l) (sym one.0), sym one.1)

  pub item_opened : passed code images skip marks x ≡ false → {r : List A} {t : List Bool} → r ≡ found ++ (x ∷ [])
      → t ≡ marked marks (images x) → (r ≡ joined) × (t ≡ after)
  item_opened e h f =
      let one = one_opened code images skip marks x e in
      (rw one.0 h, f ∙ sym one.1)

-- ---- a vertex as the pair of it with itself

abbrev pub vertex_code : ℕ → ℕ
vertex_code v = pair_code (v, v)

abbrev pub vertex_codes : ℕ → List ℕ → ℕ → List ℕ
vertex_codes m s v = pair_codes (rows_in 32 m s) (v, v)

-- its images are pairs of an image with itself
doubled : (rows : List Row) (v : ℕ) → pair_codes rows (v, v) ≡ map vertex_code (vertex_images rows v)
unfolding pair_codes vertex_images pair_code pair_image
doubled [] v = refl
doubled (row ∷ rows) v =
    let u = image row v in
    let e : 20 * min u u + max u u ≡ 20 * u + u = omega arith in
    λ t. e t ∷ doubled rows v t

same_vertex : (u v : ℕ) → eqb (vertex_code u) (vertex_code v) ≡ eqb u v
unfolding pair_code
same_vertex u v =
    same_test (eqb (20 * u + u) (20 * v + v)) (eqb u v)
    (λ t. let codes = eqb→eq (20 * u + u) (20 * v + v) t in let e : u ≡ v = omega arith in
    subst (λ (x : ℕ). T (eqb u x)) e (eqb_refl u))
    (λ t. let e = eqb→eq u v t in subst (λ (x : ℕ). T (eqb (20 * u + u) (20 * x + x))) e (eqb_refl (20 * u + u)))

member_doubled : (u : ℕ) (vs : List ℕ) → member_nat (vertex_code u) (map vertex_code vs) ≡ member_nat u vs
unfolding member_nat any_of
member_doubled u [] = refl
member_doubled u (v ∷ vs) = rw (same_vertex u v, member_doubled u vs) refl

-- ---- marks agree with what was seen

pub record Agree (marks : List Bool) (seen : List ℕ) : Type 0 where
  pub long : length marks ≡ 400
  pub at : (u : ℕ) → u < 20 → get_or marks (vertex_code u) false ≡ member_nat u seen

pub agree_none : Agree (replicate 400 false) []
unfolding member_nat any_of pair_code
agree_none = record {
  long = length-replicate 400 false;
  at = λ u h. get_or-replicate 400 (20 * u + u) false false (omega arith);
}

member_append : (u : ℕ) (xs ys : List ℕ) → member_nat u (xs ++ ys) ≡ (member_nat u xs || member_nat u ys)
unfolding member_nat
member_append u xs ys = any_append (eqb u) xs ys

vertex_small : (u : ℕ) → u < 20 → vertex_code u < 400
unfolding pair_code
vertex_small u h = omega arith

-- the walk with marks is the definition's
pub same_cond : {A : Type 0} {a b : Bool} {x y z w : A} → a ≡ b → x ≡ z → y ≡ w → cond a x y ≡ cond b z w
same_cond p q r = rw (p, q, r) refl

module _ (n m : ℕ) (s : List ℕ) (fits : n ≤ 20) where
  agree_more : (marks : List Bool) (seen : List ℕ) (v : ℕ) → v < n → Agree marks seen
      → Agree (marked marks (vertex_codes m s v)) (vertex_images (rows_in n m s) v ++ seen)
  agree_more marks seen v below a = record {
    long = marked_length marks _ ∙ a.long;
    at = λ u h.
        let images = vertex_images (rows_in n m s) v in
        let codes : vertex_codes m s v ≡ map vertex_code images = codes_wide n m v v s below below fits
        ∙ doubled (rows_in n m s) v in
        marked_at_holds marks (vertex_codes m s v) (vertex_code u) (omega (arith, a.long, vertex_small u h))
        ∙ (ap (λ (l : List ℕ). member_nat (vertex_code u) l || get_or marks (vertex_code u) false) codes
        ∙ (rw (member_doubled u images, a.at u h) refl ∙ sym (member_append u images seen)));
  }

  pub vertices_walked : (marks : List Bool) (seen vs : List ℕ) → Agree marks seen → ((v : ℕ) → Mem v vs → v < n)
      → walked vertex_code (vertex_codes m s) none_skipped marks vs ≡ vertex_openers (rows_in n m s) seen vs
  unfolding walked passed vertex_openers none_skipped vertex_images
  vertices_walked marks seen [] a h = refl
  vertices_walked marks seen (v ∷ vs) a h =
      let below : v < n = h v (here refl) in
      let old = vertices_walked marks seen vs a (λ u k. h u (there k)) in
      let new = vertices_walked (marked marks (vertex_codes m s v)) (vertex_images (rows_in n m s) v ++ seen) vs
      (agree_more marks seen v below a) (λ u k. h u (there k)) in
      same_cond (or-false (get_or marks (vertex_code v) false) ∙ a.at v (omega arith)) old
      (ap (λ (l : List ℕ). v ∷ l) new)

-- ---- the vertices below a bound, one more

module _ (m : ℕ) (s : List ℕ) (marks : List Bool) where
  abbrev pub found_below : ℕ → List ℕ
  found_below v = walked vertex_code (vertex_codes m s) none_skipped marks (count_from 0 v)

  abbrev pub marks_below : ℕ → List Bool
  marks_below v = marks_after vertex_code (vertex_codes m s) none_skipped marks (count_from 0 v)

  pub found_few : (v : ℕ) → length (found_below v) ≤ v
  found_few v =
      let e = count_length 0 v in
      omega (arith, walked_fewer vertex_code (vertex_codes m s) none_skipped marks (count_from 0 v))

  pub found_none : (found_below 0 ≡ []) × (marks_below 0 ≡ marks)
  unfolding walked marks_after count_from
  found_none = (refl, refl)

  up_more : (v : ℕ) → count_from 0 (v + 1) ≡ count_from 0 v ++ (v ∷ [])
  up_more v = let e : 0 + v ≡ v = omega arith in count_more 0 v ∙ ap (λ (k : ℕ). count_from 0 v ++ (k ∷ [])) e

  found_more : (v : ℕ) → found_below (v + 1)
      ≡ found_below v ++ walked vertex_code (vertex_codes m s) none_skipped (marks_below v) (v ∷ [])
  found_more v =
      ap (walked vertex_code (vertex_codes m s) none_skipped marks) (up_more v)
      ∙ walked_append vertex_code (vertex_codes m s) none_skipped marks (count_from 0 v) (v ∷ [])

  marks_more : (v : ℕ)
      → marks_below (v + 1) ≡ marks_after vertex_code (vertex_codes m s) none_skipped (marks_below v) (v ∷ [])
  marks_more v =
      ap (marks_after vertex_code (vertex_codes m s) none_skipped marks) (up_more v)
      ∙ marks_append vertex_code (vertex_codes m s) none_skipped marks (count_from 0 v) (v ∷ [])

  -- what the turn at v leaves
  module _ (v : ℕ) {found : List ℕ} {now : List Bool} (found_is : found ≡ found_below v)
      (marks_are : now ≡ marks_below v) where
    pub vertex_passed : get_or now (20 * v + v) false ≡ true
        → (found ≡ found_below (v + 1)) × (now ≡ marks_below (v + 1))
    unfolding passed none_skipped pair_code
    vertex_passed e =
        let one = item_passed vertex_code (vertex_codes m s) none_skipped now v found (rw e refl) in
        (rw (found_more v, ← found_is, ← marks_are) one.0, rw (marks_more v, ← marks_are) one.1)

    pub vertex_opened : get_or now (20 * v + v) false ≡ false → {r : List ℕ} {t : List Bool} → r ≡ found ++ (v ∷ [])
        → t ≡ marked now (vertex_codes m s v) → (r ≡ found_below (v + 1)) × (t ≡ marks_below (v + 1))
    unfolding passed none_skipped pair_code
    vertex_opened e h f =
        let one = item_opened vertex_code (vertex_codes m s) none_skipped now v found (rw e refl) h f in
        (rw (found_more v, ← found_is, ← marks_are) one.0, rw (marks_more v, ← marks_are) one.1)

pub images_under : {n m : ℕ} {s : List ℕ} → RowsFit n m s → (v : ℕ) → v < n → ImagesBelow 20 v m s
images_under fits v h = record { below = λ i l. omega (arith, (fits.images v h).below i l, fits.n_fits) }
