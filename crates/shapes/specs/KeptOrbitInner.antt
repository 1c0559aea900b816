-- What a call keeps of an inner call, from what the inner call kept itself and its split lists in order: no figure is
-- read or written. At rank 3 an inner call is one edge; above, its ridges are the inner call's possible facets and
-- its facets the inner call's entries, sent to this call's vertices as they come. Leans on KeptOrbits and
-- KeptOrbitAnswer.
use Rattle.std.specs.Prelude.{◌≡◌, Bool, true, false, cond, get_or, replicate}
use Rattle.std.proofs.Math.Path.{ap}
use mathlib.Core.List.{List, [], ◌∷◌, map, flat_map}
use Prim.Native.Nat.{ℕ, zero, suc}
use Rattle.std.proofs.Math.ListN.{length}
use Rattle.definitions.specs.Lists.{Pair}
use Rattle.definitions.specs.Orbits.{Row, Orbit}
use Rattle.definitions.specs.Figures.{Compound, rank_of, dyad, move_ends}
use Rattle.definitions.specs.Search.{Facet}
use Rattle.definitions.specs.Recursion.{Answer, Inner, vertex_ridge, swapped_ends, separate_ends}
use Rattle.definitions.specs.Faceting.{possible_facets}
use Rattle.shapes.specs.LowRanks.{edge_of}
use Rattle.shapes.specs.Polygons.{edge_pairs}
use Rattle.shapes.specs.LevelMoves.{read_item}
use Rattle.shapes.specs.Nested.{Nested, raise_nested}
use Rattle.shapes.specs.NestedFigures.{read_nested}
use Rattle.shapes.specs.NestedCalls.{Ridge, read_ridge, entry_points}
use Rattle.shapes.specs.RidgeKeys.{send_ridge, ridges_read}
use Rattle.shapes.specs.KeptOrbits.{KeptOrbit, number_over, counts_over, together, keep_by, keep_orbit, orbit_facets}

-- ---- above rank 3

-- from the orbits that an inner call of rank 3 + more kept, and its rows, lists and compounds
unfoldable pub keep_from : {K : Type 0} (more : ℕ) → Orbit → List Row → List (KeptOrbit K (Nested more))
    → List (List Facet) → List Compound → KeptOrbit (Ridge (suc more)) (Nested (suc more))
keep_from {K} more orbit rows kept lists compounds =
    let to : ℕ → ℕ = λ v. get_or orbit.vertices v 0 in
    let lengths = map (λ (k : KeptOrbit K (Nested more)). length k.facets) kept in
    record {
      orbit = orbit;
      ridges =
          flat_map (λ (k : KeptOrbit K (Nested more)). map (λ (x : Nested more).
          (entry_points more (length k.orbit.vertices), raise_nested to more x)) k.facets) kept;
      counts = flat_map (λ (k : KeptOrbit K (Nested more)). replicate (length k.facets) k.orbit.count) kept;
      places = map (map (λ (place : Pair). number_over lengths place.0 place.1)) lists;
      facets = map (λ (parts : List Facet). raise_nested to (suc more) (orbit_facets more rows kept parts)) lists;
      compounds = compounds;
    }

-- ---- rank 3

-- an edge whose ends some row swaps: one ridge, counted twice; and one whose ends are apart: two, once each
unfoldable pub keep_swapped : Orbit → KeptOrbit (Ridge zero) (Nested zero)
keep_swapped o = record {
  orbit = o;
  ridges = get_or o.vertices 0 0 ∷ [];
  counts = 2 ∷ [];
  places = (0 ∷ []) ∷ [];
  facets = edge_of o ∷ [];
  compounds = [];
}

unfoldable pub keep_separate : Orbit → KeptOrbit (Ridge zero) (Nested zero)
keep_separate o = record {
  orbit = o;
  ridges = get_or o.vertices 0 0 ∷ get_or o.vertices 1 0 ∷ [];
  counts = 1 ∷ 1 ∷ [];
  places = (0 ∷ 1 ∷ []) ∷ [];
  facets = edge_of o ∷ [];
  compounds = [];
}

pub keep_edge : (i : Inner) (budget : ℕ) (swapped : Bool)
    → i.answer ≡ cond swapped (swapped_ends budget) (separate_ends budget)
    → keep_orbit zero i ≡ cond swapped (keep_swapped i.orbit) (keep_separate i.orbit)
unfolding keep_orbit keep_by keep_swapped keep_separate swapped_ends separate_ends ridges_read read_ridge send_ridge
    together counts_over number_over possible_facets move_ends dyad read_nested read_item edge_pairs rank_of
    vertex_ridge edge_of flat_map
keep_edge i budget true e = ap (λ (a : Answer). keep_orbit zero (record { orbit = i.orbit; answer = a })) e
keep_edge i budget false e = ap (λ (a : Answer). keep_orbit zero (record { orbit = i.orbit; answer = a })) e
