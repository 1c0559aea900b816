-- How much is kept of one inner call: from its answer alone. Leans on Amounts and on the sizes of answers of rank 2
-- and 3.
use Rattle.std.specs.Prelude.{◌≡◌}
use Rattle.std.proofs.Common.{◌∙◌, subst}
use Rattle.std.proofs.Math.Path.{ap}
use mathlib.Core.List.{List, [], ◌∷◌, map, zip_with, Memᴰ}
use Prim.Native.Nat.{ℕ, ◌/◌, ◌≤◌}
use native.Mathlib.Omega.{arith}
use Rattle.std.proofs.Math.ListN.{length, get_or, length-map}
use Rattle.std.proofs.lemmas.List.{length-replicate}
use Rattle.definitions.specs.Lists.{Pair, count_from}
use Rattle.definitions.specs.Outcome.{answered}
use Rattle.definitions.specs.Vectors.{Vec}
use Rattle.definitions.specs.Subspace.{Subspace}
use Rattle.definitions.specs.Orbits.{Row}
use Rattle.definitions.specs.Figures.{Figure, rank_of, move_ends, dyad}
use Rattle.definitions.specs.Recursion.{Rules, Entry, Inner}
use Rattle.definitions.specs.Faceting.{faceting, possible_facets}
use Rattle.laws.specs.Lists.{Mem, of_map, count_length}
use Rattle.shapes.specs.Answered.{answered_call}
use Rattle.shapes.specs.Calls.{Given}
use Rattle.shapes.specs.EdgeSets.{polygon}
use Rattle.shapes.specs.Polygons.{ends_via, edge_pairs, polygon_raised, polygon_edges}
use Rattle.shapes.specs.Sizes.{edges_few}
use Rattle.shapes.specs.FewOrbits.{pairs_few}
use Rattle.shapes.specs.LowRanks.{RankTwo, rank_two, few_entries_holds}
use Rattle.shapes.proofs.EntryFigures.{entry_polygon}
use Rattle.shapes.specs.KeptSizes.{two_few}
use Rattle.shapes.proofs.KeptSizes.{answer_sized, few_counts}
use Rattle.shapes.specs.Kept.{kept_of}
use Rattle.layout.specs.Keeps.{ridge_code, ridge_codes}
use Rattle.keep.specs.Rooms.{kept_evenly}
use Rattle.inner_answers.specs.Amounts.{OrbitAmounts, most_at}

zip_few : {A B C : Type 0} (f : A → B → C) (l : List A) (m : List B) → length (zip_with f l m) ≤ length m
unfolding zip_with
zip_few f [] m = omega arith
zip_few f (x ∷ l) [] = omega arith
zip_few f (x ∷ l) (y ∷ m) = let e = zip_few f l m in omega arith

-- the ridges are no more than the counts
module _ (i : Inner) where
  codes_few : length (ridge_codes (kept_of i)) ≤ length i.answer.counts
  unfolding ridge_codes kept_of
  codes_few = zip_few ridge_code (kept_of i).ends i.answer.counts

  -- a facet's places and edges, from its entry
  places_of_holds : (b : ℕ) → ((e : Entry) → Mem e i.answer.entries → length e.list ≤ b) → (l : List ℕ)
      → Mem l (kept_of i).places → length l ≤ b
  unfolding kept_of
  places_of_holds b h l m =
      let r = of_map (λ (e : Entry). map (λ (place : Pair). place.0) e.list) l i.answer.entries m in
      let n = ap length r.2 ∙ length-map r.0.list (λ (place : Pair). place.0) in
      let k = h r.0 r.1 in
      omega arith

  edges_of_holds : (c : ℕ) → ((e : Entry) → Mem e i.answer.entries
      → length (edge_pairs (move_ends (λ (v : ℕ). get_or i.orbit.vertices v 0) e.figure)) ≤ c) → (l : List Pair)
      → Mem l (kept_of i).edges → length l ≤ c
  unfolding kept_of possible_facets
  edges_of_holds c h l m =
      let to : ℕ → ℕ = λ v. get_or i.orbit.vertices v 0 in
      let r = of_map edge_pairs l (possible_facets i) m in
      let q = of_map (λ (e : Entry). move_ends to e.figure) r.0 i.answer.entries r.1 in
      let n = ap length (r.2 ∙ ap edge_pairs q.2) in
      let k = h q.0 q.1 in
      omega arith

-- an inner call of rank 2
pub two_amounts : (rules : Rules) (plane : Subspace) (points : List Vec) (rows : List Row) (budget : ℕ) (i : Inner)
    → faceting 0 rules plane points rows budget ≡ answered i.answer → OrbitAmounts (most_at 0) (kept_of i)
unfolding edge_pairs rank_of move_ends dyad most_at kept_of
two_amounts rules plane points rows budget i e =
    let r = rank_two rules plane points rows budget i.answer e in
    let few = (two_few budget i.answer r).1 in
    let n : length i.answer.counts ≡ r.ends = ap length r.counts ∙ length-replicate r.ends (2 / r.ends) in
    record {
      ridges = let k = codes_few i in omega arith;
      facets =
          let k = length-map i.answer.entries (λ (x : Entry). map (λ (place : Pair). place.0) x.list) in
          let q = ap length r.entries in
          omega arith;
      places = places_of_holds i 2 (λ x m. list_few r few n x (subst (λ (es : List Entry). Mem x es) r.entries m));
      edges = edges_of_holds i 1 (λ x m. edge_one x (subst (λ (es : List Entry). Mem x es) r.entries m));
      edges_many = kept_evenly i;
    }
  where
    list_few : (r : RankTwo budget i.answer) → length i.answer.counts ≤ 2 → length i.answer.counts ≡ r.ends
        → (x : Entry) → Mem x (record {
          list = map (λ (v : ℕ). (v, 0)) (count_from 0 r.ends);
          before = map (λ (v : ℕ). (v, 0)) (count_from 0 r.ends);
          figure = dyad;
        } ∷ []) → length x.list ≤ 2
    list_few r few n x (Memᴰ.head q) =
        let k = ap (λ (y : Entry). length y.list) q in
        let c = length-map {B = Pair} (count_from 0 r.ends) (λ (v : ℕ). (v, 0)) in
        let d = count_length 0 r.ends in
        omega arith
    list_few r few n x (Memᴰ.tail m) = elim m [ ]

    edge_one : {list : List Pair} (x : Entry) → Mem x (record { list = list; before = list; figure = dyad } ∷ [])
        → length (edge_pairs (move_ends (λ (v : ℕ). get_or i.orbit.vertices v 0) x.figure)) ≤ 1
    edge_one x (Memᴰ.head q) =
        let k =
        ap (λ (y : Entry). length (edge_pairs (move_ends (λ (v : ℕ). get_or i.orbit.vertices v 0) y.figure))) q in
        omega arith
    edge_one x (Memᴰ.tail m) = elim m [ ]

-- an inner call of rank 3 on 20 points at most
pub three_amounts : (rules : Rules) (plane : Subspace) (points : List Vec) (rows : List Row) (budget : ℕ) (i : Inner)
    → Given points rows → length points ≤ 20
    → faceting 1 rules plane points rows budget ≡ answered i.answer → rules.bounds.entries ≤ 1024
    → OrbitAmounts (most_at 1) (kept_of i)
unfolding most_at kept_of
three_amounts rules plane points rows budget i given small e bound =
    let few = few_counts 1 rules plane points rows budget i.answer (omega arith) small e in
    let sized = answer_sized 1 rules plane points rows budget i.answer (omega arith) given e in
    let c = answered_call 0 rules plane points rows budget i.answer e in
    let to : ℕ → ℕ = λ v. get_or i.orbit.vertices v 0 in
    record {
      ridges = let k = codes_few i in omega arith;
      facets =
          let k = length-map i.answer.entries (λ (x : Entry). map (λ (place : Pair). place.0) x.list) in
          let q = few_entries_holds 0 rules plane points rows i.answer c in
          omega arith;
      places = places_of_holds i 190 (λ x m. let k = sized.few x m in omega arith);
      edges = edges_of_holds i 190 (λ x m.
          let p = entry_polygon rules plane points rows i.answer given c x m in
          let figure : move_ends to x.figure ≡ polygon (length points) (map (ends_via to) p.0) = ap (move_ends to) p.1
          ∙ polygon_raised to (length points) p.0 in
          let n = ap (λ (f : Figure). length (edge_pairs f)) figure
          ∙ (ap length (polygon_edges (length points) (map (ends_via to) p.0)) ∙ length-map p.0 (ends_via to)) in
          let k = pairs_few (length points) (length p.0) small (edges_few (length points) p.0 p.2) in omega arith);
      edges_many = kept_evenly i;
    }
