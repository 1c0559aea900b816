-- What the whole answers: the hyperplane orbits of a call [5.7], or refusal 13. Leans on Hyperplanes and Walks.
use Rattle.std.specs.Prelude.{◌≡◌, Bool, true, false, cond, not, ◌||◌, ℕ, suc, ◌+◌, ◌*◌, ◌-◌, ◌≤◌, ◌<◌, ltb, get_or}
use Rattle.std.specs.Prelude.{take, drop, Float, Result, Ok, Err}
use Rattle.std.proofs.Math.Path.{refl, sym, ap}
use Rattle.std.proofs.Common.{◌∙◌, arith, add-one, subst}
use mathlib.Core.List.{List, [], ◌∷◌, ◌++◌, map, flat_map, map-append, Memᴰ}
use borrow.Author.Tests.{lt-ltb, le-ltb}
use Rattle.std.proofs.Math.ListN.{length}
use Rattle.std.proofs.lemmas.List.{length-map}
use Rattle.definitions.specs.Lists.{Pair, member_pair, keep, all_of, choose, count_from, member_nat}
use Rattle.definitions.specs.Outcome.{Outcome, refused, answered, refuse_if}
use Rattle.definitions.specs.Vectors.{Vec}
use Rattle.definitions.specs.Orbits.{Row, Limits, Orbit, image, point_at, breaks_limit, above, pair_image, pair_openers}
use Rattle.definitions.specs.Orbits.{pairs_from, vertex_openers, tuples, most_vertices, hyperplane_orbits}
use Rattle.laws.specs.Lists.{Mem, here, there, of_map, of_flat_map, at_member, of_count}
use Rattle.laws.specs.Parts.{rows, get_d_rows, length_rows}
use Rattle.space.specs.declared.Points.{Points}
use Rattle.words.specs.Words.{words}
use Rattle.sorted.specs.Ascending.{ascending_nil}
use Rattle.rows.specs.Rows.{rows_in, RowsFit, image_at_holds}
use Rattle.openers.specs.Meaning.{breaks}
use Rattle.stabilizers.specs.Permutations.{Permutations, rows_fit_holds}
use Rattle.orbits.specs.Numbers.{orbit_of, orbits_from, seen_after}
use Rattle.orbits.specs.Hyperplanes.{Permutes, SeenAs, orbits_are}
use Rattle.orbits.specs.Workspace.{seen_in, orbits_in, HoldsOrbits, orbits_length}
use Rattle.orbits.specs.Walks.{Walked, keeps_limits, extensions}
use Rattle.orbits.specs.declared.Progress.{Progress}
use Rattle.refusals.specs.declared.Refusal.{Refusal}
use Rattle.refusals.specs.Refused.{number_of}

-- ---- definitions

-- what an answer says: the orbits that the workspace holds, or refusal 13
unfoldable pub answer_in : ℕ → Result ℕ Refusal → List ℕ → Outcome (List Orbit)
answer_in n (Ok count) ws = answered (map (orbit_of n) (orbits_in ws count))
answer_in n (Err e) ws = refused (number_of e)

-- what a walk along all tuples answers: how many orbits it found
abbrev pub counted : Result Progress Refusal → Result ℕ Refusal
counted (Ok p) = Ok p.count
counted (Err e) = Err e

-- no set was seen and no orbit found
abbrev pub at_first : Progress
at_first = record { known = 0; count = 0 }

-- the orbits, unless there are more than the bound
unfoldable pub orbits_or_refusal : ℕ → List Orbit → Outcome (List Orbit)
orbits_or_refusal bound orbits = refuse_if (ltb bound (length orbits)) 13 (λ u. answered orbits)

-- what a call gives: its points as passed and flattened, and rows that are permutations of them, 120 at most
pub record CallFits (points flat : Points) (m : ℕ) (rows : List ℕ) : Type 0 where
  pub same_n : points.n ≡ flat.n
  pub permute : Permutations flat.n m rows
  pub few : m ≤ 120

-- pairs of vertices, smaller first
pub record PairsRise (n : ℕ) (ps : List Pair) : Type 0 where
  pub rise : (p : Pair) → Mem p ps → p.0 < p.1
  pub below : (p : Pair) → Mem p ps → p.1 < n

-- the tuples of points that extend pairs
unfoldable pub tuples_of : Float → Limits → List Vec → List Vec → ℕ → ℕ → Pair → List (List Vec)
tuples_of tolerance limits points flat n more p =
    extensions (keeps_limits tolerance limits points p.0) flat (point_at flat p.0 ∷ point_at flat p.1 ∷ []) n
    (p.1 + 1) more

unfoldable pub pair_tuples : Float → Limits → List Vec → List Vec → ℕ → ℕ → List Pair → List (List Vec)
pair_tuples tolerance limits points flat n more ps = flat_map (tuples_of tolerance limits points flat n more) ps

-- ---- laws

-- Rows that permute the flattened points fit the points as passed, of which there are as many.
pub rows_fit_as : {n k m : ℕ} {s : List ℕ} → Permutations n m s → n ≡ k → RowsFit k m s
rows_fit_as {n} {k} {m} {s} fits e = subst (λ (j : ℕ). RowsFit j m s) e (rows_fit_holds fits)

-- openers are pairs that were walked
opener_in : (skip : Pair → Bool) (rows : List Row) (marked ps : List Pair) (p : Pair)
    → Mem p (pair_openers skip rows marked ps) → Mem p ps
unfolding pair_openers
opener_in skip rows marked [] p h = h
opener_in skip rows marked (q ∷ ps) p h =
    go (member_pair q marked || skip q) h (λ k. opener_in skip rows marked ps p k)
    (λ k. opener_in skip rows (map (pair_image q) rows ++ marked) ps p k)
  where
    go : (b : Bool) → Mem p (cond b (pair_openers skip rows marked ps) (q
        ∷ pair_openers skip rows (map (pair_image q) rows ++ marked) ps))
        → (Mem p (pair_openers skip rows marked ps) → Mem p ps)
        → (Mem p (pair_openers skip rows (map (pair_image q) rows ++ marked) ps) → Mem p ps) → Mem p (q ∷ ps)
    go true k f g = there (f k)
    go false (Memᴰ.head e) f g = here e
    go false (Memᴰ.tail k) f g = there (g k)

pub openers_rise : (skip : Pair → Bool) (rows : List Row) (n : ℕ) (openers : List ℕ)
    → PairsRise n (pair_openers skip rows [] (pairs_from n openers))
unfolding pairs_from above
openers_rise skip rows n openers = record {
  rise = λ p h. let r = place p h in let q = r.1 in omega (arith, r.2.0);
  below = λ p h. let r = place p h in omega (arith, r.2.0, r.2.1);
}
  where
    place : (p : Pair) → Mem p (pair_openers skip rows [] (pairs_from n openers))
        → ℕ × Unit {0} × ((suc p.0 ≤ p.1) × (p.1 < suc p.0 + (n - suc p.0)))
    place p h =
        let r = of_flat_map (λ (v : ℕ). map (λ (w : ℕ). (v, w)) (above n v)) p openers
        (opener_in skip rows [] (pairs_from n openers) p h) in
        let q = of_map (λ (w : ℕ). (r.0, w)) p (above n r.0) r.2 in
        let b = of_count (suc r.0) (n - suc r.0) q.0 q.1 in
        let first : p.0 ≡ r.0 = ap (λ (x : Pair). x.0) q.2 in
        let second : p.1 ≡ q.0 = ap (λ (x : Pair). x.1) q.2 in
        (r.0, tt, (omega (arith, b.0), omega (arith, b.1)))

-- the definition's tuples, as points
tuples_points : (tolerance : Float) (limits : Limits) (points flat : List Vec) (n more : ℕ) (p : Pair)
    → map (map (point_at flat)) (tuples (breaks_limit tolerance limits points) n more p)
    ≡ tuples_of tolerance limits points flat n more p
unfolding tuples tuples_of extensions keeps_limits above
tuples_points tolerance limits points flat n more p =
    go (keep (all_of (λ (u : ℕ). not (breaks_limit tolerance limits points p.0 u)))
    (choose (count_from (suc p.1) (n - suc p.1)) more))
    ∙ ap (λ (j : ℕ). map (λ (joining : List ℕ). point_at flat p.0 ∷ point_at flat p.1
    ∷ map (point_at flat) joining) (keep (all_of (λ (u : ℕ). not (breaks_limit tolerance limits points p.0 u)))
    (choose (count_from j (n - j)) more))) (sym (add-one p.1))
  where
    go : (cs : List (List ℕ)) → map (map (point_at flat)) (map (λ (joining : List ℕ). p.0 ∷ p.1 ∷ joining) cs)
        ≡ map (λ (joining : List ℕ). point_at flat p.0 ∷ point_at flat p.1 ∷ map (point_at flat) joining) cs
    go [] = refl
    go (c ∷ cs) =
        ap (λ (l : List (List Vec)). (point_at flat p.0 ∷ point_at flat p.1 ∷ map (point_at flat) c) ∷ l) (go cs)

all_tuples_holds : (tolerance : Float) (limits : Limits) (points flat : List Vec) (n more : ℕ) (ps : List Pair)
    → map (map (point_at flat)) (flat_map (tuples (breaks_limit tolerance limits points) n more) ps)
    ≡ pair_tuples tolerance limits points flat n more ps
unfolding pair_tuples flat_map
all_tuples_holds tolerance limits points flat n more [] = refl
all_tuples_holds tolerance limits points flat n more (p ∷ ps) =
    map-append (map (point_at flat)) (tuples (breaks_limit tolerance limits points) n more p)
    (flat_map (tuples (breaks_limit tolerance limits points) n more) ps)
    ∙ (rw (
      tuples_points tolerance limits points flat n more p,
      all_tuples_holds tolerance limits points flat n more ps,
    ) refl)

-- rows of a region that are permutations
pub rows_permute : {n m : ℕ} {s : List ℕ} → Permutations n m s → (row : Row) → Mem row (rows_in n m s) → Permutes n row
unfolding rows_in
rows_permute {n} {m} {s} fits row h =
    let r = at_member row (rows 32 n m s) [] h in
    let len = length_rows 32 n m s in
    let k : r.0 < m = omega (arith, r.1) in
    let is : take n (drop (32 * r.0) s) ≡ row = sym (get_d_rows 32 n m s r.0 k) ∙ r.2 in
    let each = fits.each r.0 k in
    let at : (v : ℕ) → v < n → image row v ≡ get_or s (32 * r.0 + v) 0 =
    λ v below. ap (λ (l : Row). image l v) (sym is) ∙ image_at_holds n r.0 s v below in
    record {
      below = λ v l. rw (at v l) (each.below v l);
      one = λ v w l o e. each.one v w l o (sym (at v l) ∙ (e ∙ at w o));
    }

-- ---- where the walk along the tuples of all pair openers ends

module _ (tolerance : Float) (limits : Limits) (rule more : ℕ) (points flat : List Vec) (rows : List Row) (bound : ℕ)
    (same_n : length points ≡ length flat)
    (permute : (row : Row) → Mem row rows → Permutes (length flat) row) (ps : List Pair)
    (openers : ps ≡ pair_openers (breaks tolerance limits points) rows []
    (pairs_from (length flat) (vertex_openers rows [] (count_from 0 (length flat))))) where
  none_seen : SeenAs (length flat) [] []
  unfolding member_nat
  none_seen = record { sets = λ q h. elim h [ ]; ascends = ascending_nil; agrees = λ x. refl }

  abbrev pub whole : List Orbit
  whole = hyperplane_orbits tolerance limits rule more points flat rows

  abbrev pub most : ℕ
  most = most_vertices rule more (length flat)

  abbrev pub all : List (List Vec)
  all = pair_tuples tolerance limits points flat (length flat) more ps

  found : map (orbit_of (length flat)) (orbits_from tolerance most flat rows [] all) ≡ whole
  unfolding hyperplane_orbits breaks
  found =
      ap (λ (l : List (List Vec)). map (orbit_of (length flat)) (orbits_from tolerance most flat rows [] l))
      (sym (all_tuples_holds tolerance limits points flat (length flat) more ps))
      ∙ (orbits_are tolerance most flat rows permute
      (flat_map (tuples (breaks_limit tolerance limits points) (length flat) more) ps) [] [] none_seen
      ∙ (rw (same_n, openers) refl))

  found_length : length (orbits_from tolerance most flat rows [] all) ≡ length whole
  found_length =
      sym (length-map (orbits_from tolerance most flat rows [] all) (orbit_of (length flat))) ∙ ap length found

  pub walk_answers : (ws : List ℕ) (r : Result Progress Refusal) (after : List ℕ)
      → Walked tolerance most flat rows bound at_first ws all r after
      → answer_in (length flat) (counted r) after ≡ orbits_or_refusal bound whole
  unfolding answer_in orbits_or_refusal refuse_if seen_in words orbits_in
  walk_answers ws (Ok p) after walk =
      let held : HoldsOrbits p.known p.count after (seen_after tolerance most flat rows [] all)
      (orbits_from tolerance most flat rows [] all) = walk.reached [] [] (record {
        seen_are = refl;
        orbits_are = refl;
      }) in
      let count : p.count ≡ length whole = sym (orbits_length after p.count)
      ∙ (ap length held.orbits_are ∙ found_length) in
      let is : map (orbit_of (length flat)) (orbits_in after p.count)
      ≡ whole = ap (map (orbit_of (length flat))) held.orbits_are ∙ found in
      rw (is, le-ltb bound (length whole) (omega (arith, walk.room.count_fits))) refl
  walk_answers ws (Err e) after walk =
      let over : (number_of e ≡ 13) × (bound < length (orbits_from tolerance most flat rows [] all)) =
      walk.reached [] [] (record { seen_are = refl; orbits_are = refl }) in
      rw (lt-ltb bound (length whole) (omega (arith, over.1, found_length))) (ap refused over.0)
