-- The rows that were written are the rows of the inner call: they decode to the definition's rows within the set
-- [6.5], and are permutations of its positions. Leans on Places.
use Rattle.std.specs.Prelude.{◌≡◌, refl, Bool, false, cond, T, eqb, take, drop}
use Rattle.std.proofs.Math.Path.{sym, ap, subst}
use Rattle.std.proofs.Common.{◌∙◌, arith, add-one, eqb→eq}
use Rattle.std.proofs.Math.Bool.{true}
use mathlib.Core.List.{List, [], ◌∷◌, ◌++◌, map, append_assoc, append-nil, Memᴰ}
use Prim.Native.Nat.{ℕ, zero, suc, ◌+◌, ◌*◌, ◌≤◌, ◌<◌}
use Rattle.std.proofs.Math.Dec.{eqb_refl}
use Rattle.std.proofs.Math.ListN.{length, get_or, length-map}
use Rattle.std.proofs.lemmas.List.Edits.{sets}
use Rattle.std.proofs.Math.Seq.{length-sets}
use Rattle.definitions.specs.Lists.{place_of, keep}
use Rattle.definitions.specs.Orbits.{Row, image}
use Rattle.definitions.specs.Recursion.{keeps_set, row_within, rows_within}
use Rattle.laws.specs.Bools.{holds→true}
use Rattle.laws.specs.Lists.{Mem, here, there, of_map, kept, at_member, member_at, map_at_holds, place_hit, keep_few}
use Rattle.laws.specs.Pairs.{Pairs}
use Rattle.laws.specs.Parts.{rows, rows_more, rows_of_take, get_d_rows, length_rows}
use Rattle.laws.specs.Segments.{take_sets_le, part_sets}
use Rattle.laws.specs.Sets.{vertices_of, vertices_set, set_range, set_rises}
use Rattle.rows.specs.Rows.{rows_in, row_at, image_at_holds, written_rows, written_length}
use Rattle.stabilizers.specs.Permutations.{Permutations}
use Rattle.stabilizers.specs.Places.{vertices_few, stays, image_one}

-- ---- decoded

one_row : (size k : ℕ) (row : Row) (out : List ℕ) → length row ≡ size → size ≤ 32 → 32 * k + 32 ≤ length out
    → rows_in size (k + 1) (sets out (32 * k) row) ≡ rows_in size k out ++ (row ∷ [])
unfolding rows_in
one_row size k row out e h l =
    let s = sets out (32 * k) row in
    let before : rows 32 size k s ≡ rows 32 size k out = sym (rows_of_take 32 size k s h)
    ∙ (ap (rows 32 size k) (take_sets_le row out (32 * k) (32 * k) (omega arith)) ∙ rows_of_take 32 size k out h) in
    let last : take size (drop (32 * k) s) ≡ row = ap (λ (j : ℕ). take j (drop (32 * k) s)) (sym e)
    ∙ part_sets row out (32 * k) (omega arith) in
    rows_more 32 size k s ∙ (rw (before, last) refl)

written_rows_holds : (size : ℕ) (rs : List Row) (k : ℕ) (out : List ℕ)
    → ((row : Row) → Mem row rs → length row ≡ size) → size ≤ 32 → 32 * (k + length rs) ≤ length out
    → rows_in size (k + length rs) (written_rows rs k out) ≡ rows_in size k out ++ rs
unfolding written_rows
written_rows_holds size [] k out e h l = let z : k + 0 ≡ k = omega arith in rw z (sym (append-nil (rows_in size k out)))
written_rows_holds size (row ∷ rs) k out e h l =
    let s = sets out (32 * k) row in
    let z : k + suc (length rs) ≡ suc k + length rs = omega arith in
    let long = length-sets out (32 * k) row in
    ap (λ (j : ℕ). rows_in size j (written_rows rs (suc k) s)) z
    ∙ (written_rows_holds size rs (suc k) s (λ r m. e r (there m)) h (omega arith)
    ∙ (ap (λ (j : ℕ). rows_in size j s ++ rs) (sym (add-one k))
    ∙ (ap (λ (t : List Row). t ++ rs) (one_row size k row out (e row (here refl)) h (omega arith))
    ∙ append_assoc (rows_in size k out) (row ∷ []) rs)))

-- ---- permutations

place_at_holds : (u : ℕ) (l : List ℕ) → Mem u l → place_of (eqb u) l < length l
unfolding place_of
place_at_holds u [] x' = elim x' [ ]
place_at_holds u (x ∷ l) (Memᴰ.head e) = go (eqb u x) (subst (λ (k : ℕ). T (eqb u k)) e (eqb_refl u))
  where
    go : (b : Bool) → T b → cond b 0 (suc (place_of (eqb u) l)) < suc (length l)
    go true t = omega arith
    go false t = absurd t
place_at_holds u (x ∷ l) (Memᴰ.tail h) = go (eqb u x) (place_at_holds u l h)
  where
    go : (b : Bool) → place_of (eqb u) l < length l → cond b 0 (suc (place_of (eqb u) l)) < suc (length l)
    go true k = omega arith
    go false k = omega arith

place_one : (u w : ℕ) (l : List ℕ) → Mem u l → Mem w l → place_of (eqb u) l ≡ place_of (eqb w) l → u ≡ w
place_one u w l h k e =
    let a : u ≡ get_or l (place_of (eqb u) l) 0 = eqb→eq u _ (place_hit (eqb u) 0 l (place_at_holds u l h)) in
    let b : w ≡ get_or l (place_of (eqb w) l) 0 = eqb→eq w _ (place_hit (eqb w) 0 l (place_at_holds w l k)) in
    a ∙ (ap (λ (j : ℕ). get_or l j 0) e ∙ sym b)

rising_one : (l : List ℕ) → Pairs ◌<◌ l → (u w : ℕ) → u < length l → w < length l → get_or l u 0 ≡ get_or l w 0 → u ≡ w
rising_one [] p u w h k e = absurd (omega arith)
rising_one (x ∷ l) p zero zero h k e = refl
rising_one (x ∷ l) p zero (suc w) h k e = absurd (omega (arith, p.0 (get_or l w 0) (member_at l w 0 (omega arith))))
rising_one (x ∷ l) p (suc u) zero h k e = absurd (omega (arith, p.0 (get_or l u 0) (member_at l u 0 (omega arith))))
rising_one (x ∷ l) p (suc u) (suc w) h k e = ap suc (rising_one l p.1 u w (omega arith) (omega arith) e)

no_rows : (size : ℕ) (out : List ℕ) (rs : List Row) → rows_in size 0 out ++ rs ≡ rs
unfolding rows_in rows
no_rows size out rs = refl

-- what a row within a set does: it permutes the positions
pub record WithinFits (size : ℕ) (row : Row) : Type 0 where
  pub wide : length row ≡ size
  pub below : (v : ℕ) → v < size → get_or row v 0 < size
  pub one : (u w : ℕ) → u < size → w < size → get_or row u 0 ≡ get_or row w 0 → u ≡ w

module _ (n m : ℕ) (s : List ℕ) (fits : Permutations n m s) (x : ℕ) where
  abbrev vs : List ℕ
  vs = vertices_of n x

  in_range : (u : ℕ) → Mem u (vertices_of n x) → u < n
  unfolding vertices_of
  in_range u h = omega (arith, (set_range (vertices_set 0 n x) u h).1)

  vs_rise : Pairs ◌<◌ (vertices_of n x)
  unfolding vertices_of
  vs_rise = set_rises (vertices_set 0 n x)

  within_fits : (i : ℕ) → i < m → keeps_set vs (row_at n i s) ≡ true
      → WithinFits (length vs) (row_within vs (row_at n i s))
  unfolding row_within
  within_fits i l e = record {
    wide = length-map vs place;
    below = λ v h. rw (at v h) (place_at_holds _ vs (moved v h));
    one = λ u w h k q.
        let same = place_one _ _ vs (moved u h) (moved w k) (sym (at u h) ∙ (q ∙ at w k)) in
        rising_one vs vs_rise u w h k (apart u w h k same);
  }
    where
      place : ℕ → ℕ
      place v = place_of (eqb (image (row_at n i s) v)) vs

      moved : (v : ℕ) → v < length vs → Mem (image (row_at n i s) (get_or vs v 0)) vs
      moved v h = stays n i s (fits.each i l) x e (get_or vs v 0) (member_at vs v 0 h)

      at : (v : ℕ) → v < length vs
          → get_or (map place vs) v 0 ≡ place_of (eqb (image (row_at n i s) (get_or vs v 0))) vs
      at v h = map_at_holds place vs v 0 0 h

      apart : (u w : ℕ) → u < length vs → w < length vs → image (row_at n i s) (get_or vs u 0)
          ≡ image (row_at n i s) (get_or vs w 0) → get_or vs u 0 ≡ get_or vs w 0
      apart u w h k q =
          image_one n i s (fits.each i l) (get_or vs u 0) (get_or vs w 0) (in_range _ (member_at vs u 0 h))
          (in_range _ (member_at vs w 0 k)) q

  abbrev pub inner : List Row
  inner = rows_within vs (rows_in n m s)

  inner_fits : (row : Row) → Mem row (rows_within (vertices_of n x) (rows_in n m s)) → WithinFits (length vs) row
  unfolding rows_within rows_in row_at
  inner_fits row h =
      let r = of_map (row_within vs) row (keep (keeps_set vs) (rows 32 n m s)) h in
      let k = kept (keeps_set vs) r.0 (rows 32 n m s) r.1 in
      let a = at_member r.0 (rows 32 n m s) [] k.0 in
      let len = length_rows 32 n m s in
      let below : a.0 < m = omega (arith, a.1) in
      let is : r.0 ≡ row_at n a.0 s = sym a.2 ∙ get_d_rows 32 n m s a.0 below in
      let keeps : keeps_set vs (row_at n a.0 s) ≡ true = ap (keeps_set vs) (sym is) ∙ holds→true _ k.1 in
      subst (WithinFits (length vs)) (sym (r.2 ∙ ap (row_within vs) is)) (within_fits a.0 below keeps)

  inner_few : length (rows_within (vertices_of n x) (rows_in n m s)) ≤ m
  unfolding rows_within rows_in
  inner_few =
      let e = length-map (keep (keeps_set vs) (rows 32 n m s)) (row_within vs) in
      omega (arith, keep_few (keeps_set vs) (rows 32 n m s), length_rows 32 n m s)

  size_fits : length (vertices_of n x) ≤ 20
  unfolding vertices_of
  size_fits = omega (arith, vertices_few 0 n x, fits.n_fits)

  module _ (out : List ℕ) (room : 32 * m ≤ length out) where
    abbrev pub written : List ℕ
    written = written_rows inner 0 out

    -- the written rows decode to the rows within the set
    pub inner_rows_holds : rows_in (length vs) (length inner) written ≡ inner
    inner_rows_holds =
        let z : 0 + length inner ≡ length inner = omega arith in
        ap (λ (j : ℕ). rows_in (length vs) j written) (sym z)
        ∙ (written_rows_holds (length vs) inner 0 out (λ row h. (inner_fits row h).wide) (omega (arith, size_fits))
        (omega (arith, inner_few)) ∙ none)
      where
        none : rows_in (length vs) 0 out ++ inner ≡ inner
        none = no_rows (length vs) out inner

    inner_row : (i : ℕ) → i < length inner → take (length vs) (drop (32 * i) written) ≡ get_or inner i []
    unfolding rows_in
    inner_row i h =
        sym (get_d_rows 32 (length vs) (length inner) written i h)
        ∙ ap (λ (l : List Row). get_or l i []) inner_rows_holds

    -- and are permutations of its positions
    pub inner_permute : Permutations (length vs) (length inner) written
    unfolding image
    inner_permute = record {
      n_fits = size_fits;
      long = omega (arith, written_length inner 0 out, inner_few);
      each = λ i h.
          let row = inner_fits (get_or inner i []) (member_at inner i [] h) in
          let at : (v : ℕ) → v < length vs → get_or written (32 * i + v) 0 ≡ get_or (get_or inner i []) v 0 = λ v l.
          sym (image_at_holds (length vs) i written v l) ∙ ap (λ (r : Row). get_or r v 0) (inner_row i h) in
          record {
            n_fits = size_fits;
            long = omega (arith, written_length inner 0 out, inner_few);
            below = λ v l. rw (at v l) (row.below v l);
            one = λ u w l o e. row.one u w l o (sym (at u l) ∙ (e ∙ at w o));
          };
    }
