-- Theorems on the definitions of specs/KeptTable.
use Rattle.std.specs.Prelude.{◌≡◌, refl, ℕ, ◌≤◌, length}
use Rattle.std.proofs.Math.Path.{sym, ap}
use Rattle.std.proofs.Common.{◌∙◌}
use mathlib.Core.List.{List, [], ◌∷◌, map, zip_with, map-map}
use Rattle.std.proofs.lemmas.List.{length-map}
use Rattle.definitions.specs.Lists.{Pair, compare_pair, map_with}
use Rattle.definitions.specs.Vectors.{Vec}
use Rattle.definitions.specs.Subspace.{Subspace}
use Rattle.definitions.specs.Orbits.{Row}
use Rattle.definitions.specs.Figures.{Figure}
use Rattle.definitions.specs.Search.{Share, Table}
use Rattle.definitions.specs.Recursion.{Rules, Inner}
use Rattle.definitions.specs.Faceting.{Prepared, table_for, faceting}
use Rattle.laws.specs.Lists.{Mem}
use Rattle.laws.specs.Places.{map_same}
use Rattle.shapes.specs.Answered.{Preparation}
use Rattle.shapes.specs.Polygons.{edge_via}
use Rattle.shapes.specs.Ridges.{KnownKeys, no_keys, key_numbers, ridge_numbers, numbers_table, table_of_numbers}
use Rattle.shapes.specs.RidgeCalls.{end_keys}
use Rattle.shapes.proofs.RidgeCalls.{ridge_ends}
use Rattle.shapes.specs.KeptOrbits.{KeptOrbit, together, number_ridge_key, orbit_numbers, orbit_share, orbit_shares}
use Rattle.shapes.specs.KeptOrbits.{orbit_table}
use Rattle.shapes.specs.KeptOrbitTable.{PlacesIn, numbers_together}
use Rattle.shapes.proofs.KeptOrbitTable.{places_in_holds, table_together}
use Rattle.shapes.specs.Kept.{Kept, ends_of, kept_of, number_ends, numbers_kept, kept_share, kept_shares, kept_table}
use Rattle.shapes.specs.KeptTable.{as_kept, facet_edges, inner_one_ridge, keep_ends, kept_as}

-- ---- kept by the inner orbit

keys_many : (i : Inner) → map length (end_keys i) ≡ map length i.answer.possible
unfolding end_keys
keys_many i =
    map-map length (map ends_of) i.answer.possible ∙ map_same
    (λ (fs : List Figure). length (map ends_of fs)) length i.answer.possible (λ fs m. length-map fs ends_of)

-- ---- numbers and table

numbers_as : (rows : List Row) (kept : List (KeptOrbit Pair (List Pair)))
    → numbers_kept rows (map as_kept kept) ≡ orbit_numbers compare_pair edge_via rows kept
unfolding numbers_kept number_ends orbit_numbers number_ridge_key
numbers_as rows kept =
    ap (map_with (map_with (number_ends rows)) (no_keys Pair)) (map-map (λ (k : Kept). k.ends) as_kept kept)

table_as : (rows : List Row) (kept : List (KeptOrbit Pair (List Pair)))
    → kept_table rows (map as_kept kept) ≡ orbit_table compare_pair edge_via rows kept
unfolding kept_table orbit_table kept_shares orbit_shares kept_share orbit_share zip_with
table_as rows kept =
    ap {B = Table} (λ (x : List (List ℕ) × KnownKeys Pair). record {
      shares = zip_with (kept_shares x.1.counts) (map as_kept kept) x.0;
      ridges = length x.1.counts;
    }) (numbers_as rows kept)
    ∙ ap {B = Table} (λ (s : List (List (List Share))). record {
      shares = s;
      ridges = length (orbit_numbers compare_pair edge_via rows kept).1.counts;
    })
    (same (orbit_numbers compare_pair edge_via rows kept).1.counts kept
    (orbit_numbers compare_pair edge_via rows kept).0)
  where
    same : (ridgeCounts : List ℕ) (ks : List (KeptOrbit Pair (List Pair))) (ns : List (List ℕ))
        → zip_with (kept_shares ridgeCounts) (map as_kept ks) ns ≡ zip_with (orbit_shares ridgeCounts) ks ns
    same ridgeCounts [] ns = refl
    same ridgeCounts (k ∷ ks) [] = refl
    same ridgeCounts (k ∷ ks) (x ∷ ns) =
        ap (λ (r : List (List (List Share))). orbit_shares ridgeCounts k x ∷ r) (same ridgeCounts ks ns)

module _ (more : ℕ) (rules : Rules) (plane : Subspace) (points : List Vec) (rows : List Row) (p : Prepared)
    (few : more ≤ 1) (made : Preparation more rules (faceting more rules) plane points rows p) where
  inner_places : (i : Inner) → Mem i p.inner → PlacesIn i.answer
  inner_places i m = let inner = made.inner.each i m in places_in_holds more rules _ _ _ inner.budget i.answer inner.is

  -- what is kept by the inner orbit is what is kept by the inner facet
  pub all_kept : map kept_of p.inner ≡ map as_kept (map keep_ends p.inner)
  all_kept =
      map_same kept_of (λ (i : Inner). as_kept (keep_ends i)) p.inner
      (λ i m. kept_as i (inner_one_ridge more rules plane points rows p few made i m) (inner_places i m))
      ∙ sym (map-map as_kept keep_ends p.inner)

  -- the numbers that a call keeps are those of its ridges, list by list
  pub kept_ridges : (numbers_kept p.rows (map kept_of p.inner)).0 ≡ map together (ridge_numbers p.rows p.inner).0
  unfolding key_numbers
  kept_ridges =
      ap (λ (ks : List Kept). (numbers_kept p.rows ks).0) all_kept
      ∙ ap (λ (x : List (List ℕ) × KnownKeys Pair). x.0) (numbers_as p.rows (map keep_ends p.inner)
      ∙ numbers_together compare_pair edge_via end_keys facet_edges p.rows p.inner)
      ∙ ap (λ (x : List (List (List ℕ)) × List ℕ). map together x.0)
      (sym (ridge_ends more rules plane points rows p few made))

  pub kept_counts : (numbers_kept p.rows (map kept_of p.inner)).1.counts ≡ (ridge_numbers p.rows p.inner).1
  unfolding key_numbers
  kept_counts =
      ap (λ (ks : List Kept). (numbers_kept p.rows ks).1.counts) all_kept
      ∙ ap (λ (x : List (List ℕ) × KnownKeys Pair). x.1.counts) (numbers_as p.rows (map keep_ends p.inner)
      ∙ numbers_together compare_pair edge_via end_keys facet_edges p.rows p.inner)
      ∙ ap (λ (x : List (List (List ℕ)) × List ℕ). x.1) (sym (ridge_ends more rules plane points rows p few made))

  -- the table of a call of rank 3 or 4, from what it keeps
  pub kept_table_holds : table_for p ≡ kept_table rows (map kept_of p.inner)
  unfolding table_for
  kept_table_holds =
      table_of_numbers p.rows p.inner
      ∙ ap (numbers_table p.inner) (ridge_ends more rules plane points rows p few made)
      ∙ table_together compare_pair edge_via end_keys facet_edges p.rows p.inner inner_places (λ i m. keys_many i)
      ∙ sym (table_as p.rows (map keep_ends p.inner))
      ∙ (λ t. kept_table (made.rows_are t) (sym all_kept t))
