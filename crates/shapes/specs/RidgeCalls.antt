-- The ridges of calls of rank 3 and 4: vertices at rank 3, edges at rank 4, so that such a call numbers its ridges by
-- vertices or by pairs of ends (at rank 3 a vertex twice). From what the call has before its search. Leans on Ridges.
use Rattle.std.specs.Prelude.{◌≡◌}
use Rattle.std.proofs.Math.Path.{sym, ap}
use Rattle.std.proofs.Common.{◌∙◌}
use mathlib.Core.List.{List, [], ◌∷◌, map, map-map}
use Prim.Native.Nat.{ℕ, compare, ◌/◌}
use Rattle.std.proofs.Math.ListN.{length, length-replicate}
use Rattle.definitions.specs.Lists.{Pair, compare_pair, count_from}
use Rattle.definitions.specs.Vectors.{Vec}
use Rattle.definitions.specs.Subspace.{Subspace}
use Rattle.definitions.specs.Orbits.{Row, Orbit}
use Rattle.definitions.specs.Figures.{Figure, rank_of}
use Rattle.definitions.specs.Recursion.{Rules, Inner, vertex_ridge, rows_within}
use Rattle.definitions.specs.Faceting.{Prepared, faceting}
use Rattle.laws.specs.Lists.{Mem}
use Rattle.shapes.specs.Answered.{Preparation, answered_call}
use Rattle.shapes.specs.Edges.{edge_figure}
use Rattle.shapes.specs.LowRanks.{inner_rank_two, edge_of, possible_edges}
use Rattle.shapes.specs.Calls.{inner_points}
use Rattle.shapes.specs.Polygons.{edge_via}
use Rattle.shapes.specs.Kept.{ends_of}
use Rattle.shapes.specs.Ridges.{AnyKey, AnyMap, any_keys, key_numbers, ridge_numbers, numbers_by_keys, vertices_keyed}
use Rattle.shapes.specs.Ridges.{edges_keyed, twice}

-- the ridges of an orbit's inner answer as pairs of ends, in the set's positions
unfoldable pub end_keys : Inner → List (List Pair)
end_keys i = map (map ends_of) i.answer.possible

-- ---- rank 3

-- the ends of an orbit's edge, as its inner answer's ridge rows name them: 0, or 0 and 1
unfoldable pub vertex_keys : Inner → List (List ℕ)
vertex_keys i = map (λ (v : ℕ). v ∷ []) (count_from 0 (length i.answer.counts))

module _ (rules : Rules) (plane : Subspace) (points : List Vec) (rows : List Row) (p : Prepared)
    (made : Preparation 0 rules (faceting 0 rules) plane points rows p) where
  pub vertex_ridges : (i : Inner) → Mem i p.inner → i.answer.possible ≡ map (map vertex_ridge) (vertex_keys i)
  unfolding vertex_keys
  vertex_ridges i m =
      let r = (inner_rank_two rules plane points rows p made i m).1 in
      let n : length i.answer.counts ≡ r.ends = ap length r.counts ∙ length-replicate r.ends (2 / r.ends) in
      r.possible
      ∙ sym (map-map (map vertex_ridge) (λ (v : ℕ). v ∷ []) (count_from 0 r.ends))
      ∙ ap (λ (k : ℕ). map (map vertex_ridge) (map (λ (v : ℕ). v ∷ []) (count_from 0 k))) (sym n)

  -- the ridges of a call of rank 3, numbered by vertices
  pub rank_three_vertices : ridge_numbers p.rows p.inner ≡ key_numbers compare (λ to v. to v) p.rows vertex_keys p.inner
  rank_three_vertices =
      numbers_by_keys compare (λ to v. to v) vertex_ridge AnyKey AnyMap vertices_keyed 0 p.rows vertex_keys p.inner
      vertex_ridges (any_keys 0 p.rows vertex_keys p.inner)

  -- a vertex is a pair of equal ends
  pub vertices_as_ends : (i : Inner) → Mem i p.inner → end_keys i ≡ map (map twice) (vertex_keys i)
  unfolding end_keys vertex_keys ends_of rank_of vertex_ridge twice
  vertices_as_ends i m =
      let ends = count_from 0 (length i.answer.counts) in
      ap (map (map ends_of)) (vertex_ridges i m ∙ map-map (map vertex_ridge) (λ (v : ℕ). v ∷ []) ends)
      ∙ map-map (map ends_of) (λ (v : ℕ). vertex_ridge v ∷ []) ends
      ∙ sym (map-map (map twice) (λ (v : ℕ). v ∷ []) ends)

-- ---- rank 4

module _ (rules : Rules) (plane : Subspace) (points : List Vec) (rows : List Row) (p : Prepared)
    (made : Preparation 1 rules (faceting 1 rules) plane points rows p) where
  pub edge_ridges : (i : Inner) → Mem i p.inner → i.answer.possible ≡ map (map edge_figure) (end_keys i)
  unfolding end_keys ends_of rank_of edge_figure
  edge_ridges i m =
      let inner = made.inner.each i m in
      let its = answered_call 0 rules _ (inner_points plane points i)
      (rows_within i.orbit.vertices rows) inner.budget i.answer inner.is in
      let orbits = map (λ (j : Inner). j.orbit) its.before.inner in
      let e : i.answer.possible ≡ map (λ (o : Orbit). edge_figure (edge_of o) ∷ []) orbits =
      possible_edges rules _ (inner_points plane points i) (rows_within i.orbit.vertices rows) i.answer its in
      e
      ∙ sym (map-map (map edge_figure) (λ (o : Orbit). edge_of o ∷ []) orbits)
      ∙ ap (map (map edge_figure)) (sym (map-map (map ends_of) (λ (o : Orbit). edge_figure (edge_of o) ∷ []) orbits))
      ∙ ap (λ (fs : List (List Figure)). map (map edge_figure) (map (map ends_of) fs)) (sym e)

  -- the ridges of a call of rank 4, numbered by pairs of ends
  pub rank_four_ends : ridge_numbers p.rows p.inner ≡ key_numbers compare_pair edge_via p.rows end_keys p.inner
  rank_four_ends =
      numbers_by_keys compare_pair edge_via edge_figure AnyKey AnyMap edges_keyed 0 p.rows end_keys p.inner
      edge_ridges (any_keys 0 p.rows end_keys p.inner)
