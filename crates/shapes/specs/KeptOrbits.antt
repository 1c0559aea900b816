-- What a call keeps of its orbits and their inner calls, at every rank from 3, over any keys of ridges and any
-- facets: ridges and places by the number of the inner facet, counted over the inner orbits. What the call makes of
-- that: the table that it searches, and its answer. KeptOrbitTable and KeptOrbitAnswer show that they are the
-- definition's. Leans on Ridges and Nested.
use mathlib.Core.List.{List, [], ◌∷◌, ◌++◌, map, flat_map, zip_with}
use Prim.Native.Nat.{ℕ, zero, suc, ◌+◌, ◌*◌, ◌/◌, Ordering}
use Rattle.std.specs.Prelude.{length, get_or, replicate}
use Rattle.definitions.specs.Lists.{Pair, map_with, sort_by, compare_pair}
use Rattle.definitions.specs.Orbits.{Row, Orbit, image}
use Rattle.definitions.specs.Figures.{Figure, Compound, parts_of, label_irc}
use Rattle.definitions.specs.Search.{Facet, Share, Table, Found}
use Rattle.definitions.specs.Recursion.{Entry, Answer, Inner}
use Rattle.definitions.specs.Faceting.{possible_facets, compare_entries}
use Rattle.shapes.specs.Ridges.{KnownKeys, no_keys, key_held_by, number_or_open_key}
use Rattle.shapes.specs.Nested.{Nested, nested_in_order, move_nested}
use Rattle.shapes.specs.NestedFigures.{nested_figure, no_element, read_nested}
use Rattle.shapes.specs.NestedCalls.{Ridge, entry_points}
use Rattle.shapes.specs.RidgeKeys.{send_ridge, ridges_read}

-- One orbit: the ridges of its inner call, in this call's vertices, each with its inner orbit's count; for each
-- possible facet the numbers of its inner facets in order, and the facet itself in this call's vertices; and the
-- compounds among them.
pub record KeptOrbit (K F : Type 0) : Type 0 where
  pub orbit : Orbit
  pub ridges : List K
  pub counts : List ℕ
  pub places : List (List ℕ)
  pub facets : List F
  pub compounds : List Compound

-- ---- inner facets by one number

-- the number of item b of list a, counted over lists of these lengths
unfoldable pub number_over : List ℕ → ℕ → ℕ → ℕ
number_over [] a b = b
number_over (l ∷ lengths) zero b = b
number_over (l ∷ lengths) (suc a) b = l + number_over lengths a b

-- each list's count, once for each of its items
unfoldable pub counts_over : List ℕ → List ℕ → List ℕ
counts_over [] lengths = []
counts_over (c ∷ counts) [] = []
counts_over (c ∷ counts) (l ∷ lengths) = replicate l c ++ counts_over counts lengths

-- all items of all lists
unfoldable pub together : {A : Type 0} → List (List A) → List A
together lists = flat_map (λ (l : List _). l) lists

-- ---- what is kept

module _ {K F : Type 0} (send : (ℕ → ℕ) → K → K) (keys : Inner → List (List K)) (facets : Inner → List F) where
  unfoldable pub keep_by : Inner → KeptOrbit K F
  keep_by i = record {
    orbit = i.orbit;
    ridges = map (send (λ (v : ℕ). get_or i.orbit.vertices v 0)) (together (keys i));
    counts = counts_over i.answer.counts (map length (keys i));
    places =
        map (λ (e : Entry).
        map (λ (place : Pair). number_over (map length (keys i)) place.0 place.1) e.list) i.answer.entries;
    facets = facets i;
    compounds = i.answer.compounds;
  }

-- by a call of rank 3 + more
unfoldable pub keep_orbit : (more : ℕ) → Inner → KeptOrbit (Ridge more) (Nested more)
keep_orbit more =
    keep_by (send_ridge more) (ridges_read more) (λ (i : Inner). map (read_nested more) (possible_facets i))

-- ---- the table

module _ {K : Type 0} (c : K → K → Ordering) (send : (ℕ → ℕ) → K → K) where
  -- a ridge's number: that of the ridge orbit holding it, or it opens one
  unfoldable pub number_ridge_key : List Row → KnownKeys K → K → ℕ × KnownKeys K
  number_ridge_key rows known k = number_or_open_key c send rows known k (key_held_by c send k known.held)

  -- for each orbit, for each of its ridges, the number; and the ridge orbits' counts
  unfoldable pub orbit_numbers : {F : Type 0} → List Row → List (KeptOrbit K F) → List (List ℕ) × KnownKeys K
  orbit_numbers {F} rows kept =
      map_with (map_with (number_ridge_key rows)) (no_keys K) (map (λ (k : KeptOrbit K F). k.ridges) kept)

module _ {K F : Type 0} where
  -- "floor(facet orbit count × inner count / ridge orbit count)"
  unfoldable pub orbit_share : List ℕ → KeptOrbit K F → List ℕ → ℕ → Share
  orbit_share ridgeCounts k numbers place =
      let ridge = get_or numbers place 0 in
      (ridge, k.orbit.count * get_or k.counts place 0 / get_or ridgeCounts ridge 0)

  unfoldable pub orbit_shares : List ℕ → KeptOrbit K F → List ℕ → List (List Share)
  orbit_shares ridgeCounts k numbers = map (map (orbit_share ridgeCounts k numbers)) k.places

unfoldable pub orbit_table : {K F : Type 0} → (K → K → Ordering) → ((ℕ → ℕ) → K → K) → List Row → List (KeptOrbit K F)
    → Table
orbit_table c send rows kept =
    let numbered = orbit_numbers c send rows kept in
    let ridgeCounts = numbered.1.counts in
    record { shares = zip_with (orbit_shares ridgeCounts) kept numbered.0; ridges = length ridgeCounts }

-- ---- the answer, of facets that are nested sets

-- the facets that a facet is split into
unfoldable pub orbit_parts : {K F : Type 0} → List (KeptOrbit K F) → Facet → List Facet
orbit_parts {K} {F} kept f =
    let compounds = get_or (map (λ (k : KeptOrbit K F). k.compounds) kept) f.0 [] in
    let places = get_or (get_or (map (λ (k : KeptOrbit K F). k.places) kept) f.0 []) f.1 [] in
    map (λ (part : ℕ). (f.0, part)) (parts_of compounds (length places) f.1)

-- a call of rank 3 + more
module _ {K : Type 0} (more : ℕ) where
  -- a facet's element, and all row images of it
  unfoldable pub orbit_facet : List (KeptOrbit K (Nested more)) → Facet → Nested more
  orbit_facet kept f =
      get_or (get_or (map (λ (k : KeptOrbit K (Nested more)). k.facets) kept) f.0 []) f.1 (no_element more)

  unfoldable pub orbit_images : List Row → List (KeptOrbit K (Nested more)) → Facet → List (Nested more)
  orbit_images rows kept f = map (λ (row : Row). move_nested (image row) more (orbit_facet kept f)) rows

  -- the facets of a split list's figure, ascending
  unfoldable pub orbit_facets : List Row → List (KeptOrbit K (Nested more)) → List Facet → Nested (suc more)
  orbit_facets rows kept parts = nested_in_order more (flat_map (orbit_images rows kept) parts)

  unfoldable pub orbit_entry : ℕ → List Row → List (KeptOrbit K (Nested more)) → List Facet → Entry
  orbit_entry n rows kept list =
      let parts = flat_map (orbit_parts kept) list in
      record { list = parts; before = list; figure = nested_figure n (suc more) (orbit_facets rows kept parts) }

  unfoldable pub orbit_possible : KeptOrbit K (Nested more) → List Figure
  orbit_possible k = map (nested_figure (entry_points more (length k.orbit.vertices)) more) k.facets

  unfoldable pub orbit_answer : ℕ → List Row → List (KeptOrbit K (Nested more)) → Found → Answer
  orbit_answer n rows kept found =
      let entries = sort_by compare_entries (map (orbit_entry n rows kept) found.lists) in
      record {
        counts = map (λ (k : KeptOrbit K (Nested more)). k.orbit.count) kept;
        entries = entries;
        possible = map orbit_possible kept;
        compounds = label_irc compare_pair (map (λ (e : Entry). e.list) entries);
        left = found.left;
      }
