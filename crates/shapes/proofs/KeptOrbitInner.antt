-- Theorems on the definitions of specs/KeptOrbitInner.
use Rattle.std.specs.Prelude.{◌≡◌, refl, get_or, replicate}
use Rattle.std.proofs.Math.Path.{sym, ap}
use Rattle.std.proofs.Common.{◌∙◌, subst}
use mathlib.Core.List.{List, [], ◌∷◌, ◌++◌, map, flat_map, map-map}
use Prim.Native.Nat.{ℕ, suc}
use Rattle.std.proofs.Math.ListN.{length}
use Rattle.std.proofs.lemmas.List.{length-map}
use Rattle.definitions.specs.Lists.{Pair}
use Rattle.definitions.specs.Vectors.{Vec}
use Rattle.definitions.specs.Subspace.{Subspace, from_points}
use Rattle.definitions.specs.Orbits.{Row}
use Rattle.definitions.specs.Figures.{move_ends}
use Rattle.definitions.specs.Search.{Facet, Found}
use Rattle.definitions.specs.Recursion.{Rules, Entry, Answer, Inner, rows_within}
use Rattle.definitions.specs.Faceting.{Prepared, possible_facets, compare_entries, split, faceting}
use Rattle.laws.specs.Lists.{Mem, of_map, flat_map_same}
use Rattle.laws.specs.Sorting.{of_sorted}
use Rattle.laws.specs.Places.{map_same, map_flat_map, flat_map_map}
use Rattle.shapes.specs.Answered.{Preparation, AnsweredCall}
use Rattle.shapes.specs.Emitted.{found_facet}
use Rattle.shapes.specs.LowRanks.{facet_orbit}
use Rattle.shapes.specs.Move.{Rising}
use Rattle.shapes.specs.Sets.{set_rising}
use Rattle.shapes.specs.Calls.{Given, inner_points, inner_size, call_set}
use Rattle.shapes.proofs.Calls.{inner_given}
use Rattle.shapes.specs.Nested.{Nested, NestedSet, raise_nested}
use Rattle.shapes.proofs.Nested.{raised_set, raised_moved}
use Rattle.shapes.specs.NestedFigures.{nested_figure, read_nested, nested_read}
use Rattle.shapes.proofs.NestedFigures.{nested_raised}
use Rattle.shapes.specs.NestedCalls.{Ridge, ridge_figure, read_ridge, ridge_read, entry_points}
use Rattle.shapes.proofs.NestedCalls.{found_split_in_call, list_nested}
use Rattle.shapes.specs.RidgeKeys.{send_ridge, ridges_read}
use Rattle.shapes.specs.KeptOrbits.{KeptOrbit, number_over, counts_over, together, keep_by, keep_orbit, orbit_parts}
use Rattle.shapes.specs.KeptOrbits.{orbit_facets, orbit_entry, orbit_possible, orbit_answer}
use Rattle.shapes.specs.KeptOrbitAnswer.{orbit_split, facets_kept_holds}
use Rattle.shapes.proofs.KeptOrbitSizes.{orbit_sized}
use Rattle.shapes.proofs.KeptOrbitAnswer.{orbit_answer_holds}
use Rattle.shapes.specs.KeptOrbitInner.{keep_from}

-- ---- above rank 3

counts_each : {A : Type 0} (count many : A → ℕ) (l : List A)
    → counts_over (map count l) (map many l) ≡ flat_map (λ (x : A). replicate (many x) (count x)) l
unfolding counts_over flat_map
counts_each count many [] = refl
counts_each count many (x ∷ l) = ap (λ (r : List ℕ). replicate (many x) (count x) ++ r) (counts_each count many l)

module _ {K : Type 0} (more n : ℕ) (i : Inner) (rows : List Row) (kept : List (KeptOrbit K (Nested more)))
    (found : Found)
    (is : i.answer ≡ orbit_answer more (length i.orbit.vertices) rows kept found)
    (up : Rising (length i.orbit.vertices) n (λ (v : ℕ). get_or i.orbit.vertices v 0))
    (facet-sets : (k : KeptOrbit K (Nested more)) → Mem k kept → (x : Nested more) → Mem x k.facets
    → NestedSet (length i.orbit.vertices) more x)
    (entry-sets : (l : List Facet) → Mem l found.lists → NestedSet (length i.orbit.vertices) (suc more)
    (orbit_facets more rows kept (flat_map (orbit_parts kept) l))) where
  abbrev inside : ℕ
  inside = length i.orbit.vertices

  abbrev to : ℕ → ℕ
  to v = get_or i.orbit.vertices v 0

  abbrev points_of : KeptOrbit K (Nested more) → ℕ
  points_of k = entry_points more (length k.orbit.vertices)

  -- its ridges: the possible facets that the inner call kept
  read_each : ridges_read (suc more) i
      ≡ map (λ (k : KeptOrbit K (Nested more)). map (λ (x : Nested more). (points_of k, x)) k.facets) kept
  unfolding ridges_read orbit_answer orbit_possible ridge_figure
  read_each =
      ap (λ (a : Answer). map (map (read_ridge (suc more))) a.possible) is
      ∙ map-map (map (read_ridge (suc more))) (orbit_possible more) kept
      ∙ map_same (λ (k : KeptOrbit K (Nested more)). map (read_ridge (suc more)) (orbit_possible more k))
      (λ (k : KeptOrbit K (Nested more)). map (λ (x : Nested more). (points_of k, x)) k.facets) kept
      (λ k m.
      map-map (read_ridge (suc more)) (nested_figure (points_of k) more) k.facets
      ∙ map_same (λ (x : Nested more). read_ridge (suc more) (nested_figure (points_of k) more x))
      (λ (x : Nested more). (points_of k, x)) k.facets
      (λ x j. ridge_read inside (suc more) (points_of k, x) (facet-sets k m x j)))

  read_lengths : map length (ridges_read (suc more) i) ≡ map (λ (k : KeptOrbit K (Nested more)). length k.facets) kept
  read_lengths =
      ap (map length) read_each
      ∙ map-map length (λ (k : KeptOrbit K (Nested more)). map (λ (x : Nested more). (points_of k, x)) k.facets) kept
      ∙ map_same (λ (k : KeptOrbit K (Nested more)). length (map (λ (x : Nested more). (points_of k, x)) k.facets))
      (λ (k : KeptOrbit K (Nested more)). length k.facets) kept
      (λ k m. length-map k.facets (λ (x : Nested more). (points_of k, x)))

  ridges_from : map (send_ridge (suc more) to) (together (ridges_read (suc more) i))
      ≡ flat_map (λ (k : KeptOrbit K (Nested more)).
      map (λ (x : Nested more). (points_of k, raise_nested to more x)) k.facets) kept
  unfolding together send_ridge
  ridges_from =
      let each : KeptOrbit K (Nested more)
      → List (Ridge (suc more)) = λ k. map (λ (x : Nested more). (points_of k, x)) k.facets in
      ap (λ (l : List (List (Ridge (suc more)))).
      map (send_ridge (suc more) to) (flat_map (λ (x : List (Ridge (suc more))). x) l)) read_each
      ∙ ap (map (send_ridge (suc more) to)) (flat_map_map (λ (x : List (Ridge (suc more))). x) each kept)
      ∙ map_flat_map (send_ridge (suc more) to) each kept
      ∙ flat_map_same (λ (k : KeptOrbit K (Nested more)). map (send_ridge (suc more) to) (each k))
      (λ (k : KeptOrbit K (Nested more)).
      map (λ (x : Nested more). (points_of k, raise_nested to more x)) k.facets) kept
      (λ k m.
      map-map (send_ridge (suc more) to) (λ (x : Nested more). (points_of k, x)) k.facets
      ∙ map_same (λ (x : Nested more). send_ridge (suc more) to (points_of k, x))
      (λ (x : Nested more). (points_of k, raise_nested to more x)) k.facets
      (λ x j. let r = raised_moved inside n to up more x (facet-sets k m x j) in λ t. (points_of k, r t)))

  counts_from : counts_over i.answer.counts (map length (ridges_read (suc more) i))
      ≡ flat_map (λ (k : KeptOrbit K (Nested more)). replicate (length k.facets) k.orbit.count) kept
  unfolding orbit_answer
  counts_from =
      (λ t. counts_over (is t).counts (read_lengths t)) ∙ counts_each
      (λ (k : KeptOrbit K (Nested more)). k.orbit.count) (λ (k : KeptOrbit K (Nested more)). length k.facets) kept

  -- its facets: the inner call's entries
  facet_from_holds : (e : Entry) → Mem e i.answer.entries → read_nested (suc more) (move_ends to e.figure)
      ≡ raise_nested to (suc more) (orbit_facets more rows kept e.list)
  unfolding orbit_answer orbit_entry
  facet_from_holds e m =
      let r = of_map (orbit_entry more inside rows kept) e found.lists (of_sorted compare_entries e
      (map (orbit_entry more inside rows kept) found.lists) (subst (λ (a : Answer). Mem e a.entries) is m)) in
      let parts = flat_map (orbit_parts kept) r.0 in
      let x = orbit_facets more rows kept parts in
      let set = entry-sets r.0 r.1 in
      let list = ap (λ (y : Entry). y.list) r.2 in
      ap (λ (y : Entry). read_nested (suc more) (move_ends to y.figure)) r.2
      ∙ ap (read_nested (suc more)) (nested_raised inside n to up inside (suc more) x set)
      ∙ nested_read n inside (suc more) (raise_nested to (suc more) x) (raised_set inside n to up (suc more) x set)
      ∙ ap (λ (l : List Facet). raise_nested to (suc more) (orbit_facets more rows kept l)) (sym list)

  -- what is kept of the inner call
  pub keep_inner : keep_orbit (suc more) i
      ≡ keep_from more i.orbit rows kept (map (λ (e : Entry). e.list) i.answer.entries) i.answer.compounds
  unfolding keep_orbit keep_by keep_from possible_facets
  keep_inner =
      let entries = i.answer.entries in
      let lists = map (λ (e : Entry). e.list) entries in
      let number : List ℕ → Pair → ℕ = λ lengths place. number_over lengths place.0 place.1 in
      let places : map (λ (e : Entry). map (number (map length (ridges_read (suc more) i))) e.list) entries
      ≡ map (map (number (map (λ (k : KeptOrbit K (Nested more)). length k.facets) kept))) lists =
      ap (λ (lengths : List ℕ). map (λ (e : Entry). map (number lengths) e.list) entries) read_lengths
      ∙ sym (map-map (map (number (map (λ (k : KeptOrbit K (Nested more)). length k.facets) kept)))
      (λ (e : Entry). e.list) entries) in
      let facets : map (read_nested (suc more)) (map (λ (e : Entry). move_ends to e.figure) entries)
      ≡ map (λ (parts : List Facet). raise_nested to (suc more) (orbit_facets more rows kept parts)) lists =
      map-map (read_nested (suc more)) (λ (e : Entry). move_ends to e.figure) entries
      ∙ map_same (λ (e : Entry). read_nested (suc more) (move_ends to e.figure))
      (λ (e : Entry). raise_nested to (suc more) (orbit_facets more rows kept e.list)) entries facet_from_holds
      ∙ sym (map-map (λ (parts : List Facet).
      raise_nested to (suc more) (orbit_facets more rows kept parts)) (λ (e : Entry). e.list) entries) in
      λ t. record {
        orbit = i.orbit;
        ridges = ridges_from t;
        counts = counts_from t;
        places = places t;
        facets = facets t;
        compounds = i.answer.compounds;
      }

-- ---- every call above rank 3

-- what a call of rank 4 + more keeps of an inner call, from what that call has before its search and found
pub keep_call : (more : ℕ) (rules : Rules) (plane : Subspace) (points : List Vec) (rows : List Row) (p : Prepared)
    → Given points rows → (made : Preparation (suc more) rules (faceting (suc more) rules) plane points rows p)
    → (i : Inner) (m : Mem i p.inner)
    → (c : AnsweredCall more rules (from_points rules.tolerance (inner_points plane points i))
    (inner_points plane points i) (rows_within i.orbit.vertices rows) i.answer)
    → keep_orbit (suc more) i ≡ keep_from more i.orbit (rows_within i.orbit.vertices rows)
    (map (keep_orbit more) c.before.inner) (map (λ (e : Entry). e.list) i.answer.entries) i.answer.compounds
unfolding keep_orbit
keep_call more rules plane points rows p given made i m c =
    let call = faceting (suc more) rules in
    let its = inner_points plane points i in
    let within = rows_within i.orbit.vertices rows in
    let size = inner_size (suc more) rules call plane points rows p made i in
    let own = inner_given (suc more) rules call plane points rows p made given.rows_good i m in
    let before = c.before in
    let kept = map (keep_orbit more) before.inner in
    let answer = orbit_answer_holds (send_ridge more) (ridges_read more) more rules _ its within own i.answer c in
    keep_inner more p.points i within kept c.found
    (subst (λ (k : ℕ). i.answer ≡ orbit_answer more k within kept c.found) size answer)
    (set_rising p.points i.orbit.vertices (call_set (suc more) rules plane points rows p given made i m))
    (λ k j x l. subst (λ (b : ℕ). NestedSet b more x) size
    ((orbit_sized more rules _ its within before own c.prepared k j).facets_sets x l))
    (λ l j.
    let found = (list_nested more rules _ its within before own c.prepared c.found c.is_found_holds l j).1 in
    let inside = found_split_in_call more rules _ its within before own c.prepared c.found c.is_found_holds l j in
    let same = facets_kept_holds (send_ridge more) (ridges_read more) more rules _ its within own before c.prepared
    (split before l) inside in
    let parts = orbit_split (send_ridge more) (ridges_read more) more before l
    (λ f q. (facet_orbit before.inner f (found_facet rules before c.found c.is_found_holds l j f q)).0) in
    subst (λ (b : ℕ). NestedSet b (suc more) (orbit_facets more within kept (flat_map (orbit_parts kept) l)))
    (c.prepared.points_are ∙ size)
    (subst (λ (fs : List Facet). NestedSet before.points (suc more) (orbit_facets more within kept fs)) (sym parts)
    (subst (NestedSet before.points (suc more)) same found)))
