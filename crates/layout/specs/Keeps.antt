-- What the areas of a layout hold: what is kept of each inner call (`Kept`), in bytes. A pair of vertices is the
-- number 20 v + w, a facet its number among all facets of the call. Leans on what is kept, on pools, on labels and on
-- the orbits found.
use Rattle.std.specs.Prelude.{◌≡◌, ℕ, ◌+◌, ◌*◌, ◌-◌, ◌≤◌, length}
use mathlib.Core.List.{List, [], ◌∷◌, ◌++◌, map, flat_map, zip_with}
use Rattle.std.specs.Prelude.{Option, Some, None}
use Rattle.definitions.specs.Lists.{Pair, map_at, count_from}
use Rattle.definitions.specs.Figures.{components_of}
use Rattle.definitions.specs.Search.{Facet}
use Rattle.laws.specs.Segments.{part}
use Rattle.words.specs.Words.{words}
use Rattle.pool.specs.Pool.{base}
use Rattle.pool.specs.Holds.{Holds}
use Rattle.rows.specs.Codes.{pair_code}
use Rattle.orbits.specs.Numbers.{orbit_of}
use Rattle.orbits.specs.Workspace.{orbits_in}
use Rattle.labels.specs.Labels.{labels_in}
use Rattle.shapes.specs.Kept.{Kept}
use Rattle.layout.specs.declared.KeptLayout.{KeptLayout}

-- ---- lists over all facets

-- all lists, one behind another
abbrev pub joined : {A : Type 0} → List (List A) → List A
joined ls = flat_map (λ l. l) ls

-- how many facets an orbit has
abbrev pub facets_in : Kept → ℕ
facets_in k = length k.places

-- every facet, by orbit and number
unfoldable pub facets_of : List Kept → List Facet
facets_of kept = joined (map_at (λ orbit (k : Kept). map (λ (f : ℕ). (orbit, f)) (count_from 0 (facets_in k))) 0 kept)

-- the orbit of each facet
unfoldable pub owners_of : List Kept → List ℕ
owners_of kept = map (λ (f : Facet). f.0) (facets_of kept)

unfoldable pub places_of : List Kept → List (List ℕ)
places_of kept = flat_map (λ (k : Kept). k.places) kept

unfoldable pub edges_of : List Kept → List (List Pair)
edges_of kept = flat_map (λ (k : Kept). k.edges) kept

-- ---- components

-- a facet's components as facets of the call, its orbit's first facet having this number
unfoldable pub raised : ℕ → Option Pair → Option Pair
raised first None = None
raised first (Some p) = Some (first + p.0, first + p.1)

-- the components of each facet, from the facet with this number on
unfoldable pub labels_from : ℕ → List Kept → List (Option Pair)
labels_from first [] = []
labels_from first (k ∷ kept) =
    map (λ (f : ℕ). raised first (components_of k.compounds f)) (count_from 0 (facets_in k))
    ++ labels_from (first + facets_in k) kept

-- ---- ridges

-- a ridge's ends and its inner orbit's count as one number
unfoldable pub ridge_code : Pair → ℕ → ℕ
ridge_code ends count = pair_code ends + 65536 * count

unfoldable pub ridge_codes : Kept → List ℕ
ridge_codes k = zip_with ridge_code k.ends k.counts

-- ---- areas

abbrev pub edges_part : KeptLayout → List ℕ → List ℕ
edges_part layout s = part layout.edges (layout.labels - layout.edges) s

abbrev pub labels_part : KeptLayout → List ℕ → List ℕ
labels_part layout s = part layout.labels (layout.owners - layout.labels) s

abbrev pub owners_part : KeptLayout → List ℕ → List ℕ
owners_part layout s = part layout.owners (layout.ridges - layout.owners) s

abbrev pub ridges_part : KeptLayout → List ℕ → List ℕ
ridges_part layout s = part layout.ridges (layout.places - layout.ridges) s

abbrev pub places_part : KeptLayout → List ℕ → List ℕ
places_part layout s = part layout.places (layout.end - layout.places) s

-- the areas lie one behind another, each with room for its heads: 256 orbits, 1,024 facets
pub record LayoutFits (layout : KeptLayout) (size : ℕ) : Type 0 where
  pub orbit_room : 2048 ≤ layout.edges
  pub edge_room : layout.edges + base 1024 ≤ layout.labels
  pub label_room : layout.labels + 4096 ≤ layout.owners
  pub owner_room : layout.owners + 2048 ≤ layout.ridges
  pub ridge_room : layout.ridges + base 256 ≤ layout.places
  pub place_room : layout.places + base 1024 ≤ layout.end
  pub ends : layout.end ≤ size

-- a pool with these lists and nothing else
abbrev pub Lists : ℕ → ℕ → List ℕ → List (List ℕ) → Type 0
Lists w most s lists = Holds w most s lists [] (length (joined lists))

-- what outlives the search: the orbits' first sets and counts, each facet's edges, components and orbit
pub record Keeps (n : ℕ) (layout : KeptLayout) (kept : List Kept) (s : List ℕ) : Type 0 where
  pub fits : LayoutFits layout (length s)
  pub orbits : layout.orbits ≡ length kept
  pub facets : layout.facets ≡ length (facets_of kept)
  pub few_orbits : layout.orbits ≤ 256
  pub few_facets : layout.facets ≤ 1024
  pub sets : map (orbit_of n) (orbits_in s layout.orbits) ≡ map (λ (k : Kept). k.orbit) kept
  pub edges : Lists 2 1024 (edges_part layout s) (map (map pair_code) (edges_of kept))
  pub labels : labels_in 0 layout.facets (labels_part layout s) ≡ labels_from 0 kept
  pub owners : words 2 (owners_part layout s) layout.facets ≡ owners_of kept

-- what the search's tables are made from: each orbit's ridges, each facet's places
pub record Ridges (layout : KeptLayout) (kept : List Kept) (s : List ℕ) : Type 0 where
  pub ridges : Lists 4 256 (ridges_part layout s) (map ridge_codes kept)
  pub places : Lists 2 1024 (places_part layout s) (places_of kept)
