-- The share of each place, from the areas that it is read from: the orbits' counts, each facet's orbit, each orbit's
-- ridges with their inner counts and their numbers, each facet's places. Leans on Keeps, Areas and Pool.
use Rattle.std.specs.Prelude.{◌≡◌, List, [], ◌∷◌, ◌++◌, map, ℕ, ◌+◌, ◌*◌, ◌/◌, ◌≤◌, ◌<◌, min, length, get_or, take}
use Rattle.std.proofs.Common.{ap, ◌∙◌, arith, div-le_self, mul-le-mul_left}
use Rattle.std.proofs.lemmas.List.{map-append, length-map}
use Rattle.definitions.specs.Job.{number_at}
use Rattle.definitions.specs.Search.{Share}
use Rattle.laws.specs.Parts.{take_more}
use Rattle.pool.specs.Pool.{count, closed_lists, Sound}
use Rattle.layout.specs.declared.KeptLayout.{KeptLayout}
use Rattle.layout.specs.Keeps.{owners_part, ridges_part, places_part}
use Rattle.layout.specs.declared.TableLayout.{TableLayout}
use Rattle.shares.specs.Areas.{area, area_kept}

-- a share as one number: 4 × ridge orbit + share, the share cut off at 3. A search asks of a share whether it is 1, and
-- cuts off at 3 what a facet adds, a share times how many places have it.
unfoldable pub share_code : Share → ℕ
share_code s = 4 * s.0 + min s.1 3

-- the areas
pub record Sources : Type 0 where
  pub orbits : List ℕ
  pub owners : List ℕ
  pub ridges : List ℕ
  pub places : List ℕ
  pub numbers : List ℕ

unfoldable pub sources_of : KeptLayout → TableLayout → List ℕ → Sources
sources_of layout tables s = record {
  orbits = area 0 2048 s;
  owners = owners_part layout s;
  ridges = ridges_part layout s;
  places = places_part layout s;
  numbers = area tables.numbers tables.shares s;
}

-- an orbit's count, a facet's orbit, an orbit's ridges and their numbers, a facet's places
unfoldable pub count_of : Sources → ℕ → ℕ
count_of src o = number_at src.orbits (8 * o + 4) 4

unfoldable pub owner_of : Sources → ℕ → ℕ
owner_of src x = number_at src.owners (2 * x) 2

abbrev pub ridges_in : Sources → ℕ → List ℕ
ridges_in src o = get_or (closed_lists 4 256 src.ridges) o []

abbrev pub numbers_in : Sources → ℕ → List ℕ
numbers_in src o = get_or (closed_lists 2 256 src.numbers) o []

abbrev pub places_in : Sources → ℕ → List ℕ
places_in src x = get_or (closed_lists 2 1024 src.places) x []

-- [6.8] the share of a place, with its ridge orbit
unfoldable pub code_at : Sources → List ℕ → ℕ → ℕ → ℕ
code_at src counts o a =
    let ridge = get_or (numbers_in src o) a 0 in
    share_code (ridge, count_of src o * (get_or (ridges_in src o) a 0 / 65536) / get_or counts ridge 0)

-- the shares of a facet's places
unfoldable pub facet_codes : Sources → List ℕ → ℕ → List ℕ
facet_codes src counts x = map (code_at src counts (owner_of src x)) (places_in src x)

-- the areas lie one behind another, before the shares
pub record Orders (layout : KeptLayout) (tables : TableLayout) (size : ℕ) : Type 0 where
  pub orbits : 2048 ≤ layout.owners
  pub owners : layout.owners + 2 * layout.facets ≤ layout.ridges
  pub ridges : layout.ridges ≤ layout.places
  pub places : layout.places ≤ layout.end
  pub end : layout.end ≤ tables.numbers
  pub numbers : tables.numbers ≤ tables.shares
  pub inside : tables.shares ≤ size

-- every place names a ridge of its facet's orbit, with small counts, and the ridge orbits are so few that four times
-- their number fits two bytes
pub record SourcesFit (src : Sources) (counts : List ℕ) (facets : ℕ) : Type 0 where
  pub ridges_sound : Sound 4 256 src.ridges
  pub numbers_sound : Sound 2 256 src.numbers
  pub places_sound : Sound 2 1024 src.places
  pub facets_are : facets ≡ count src.places
  pub same_orbits : count src.numbers ≡ count src.ridges
  pub few_counts : length counts ≤ 16383
  pub owner : (x : ℕ) → x < facets → owner_of src x < count src.ridges
  pub orbit_small : (o : ℕ) → o < count src.ridges → count_of src o ≤ 120
  pub inner_small : (o a : ℕ) → a < length (ridges_in src o) → get_or (ridges_in src o) a 0 / 65536 ≤ 120
  pub same_ridges : (o : ℕ) → o < count src.ridges → length (numbers_in src o) ≡ length (ridges_in src o)
  pub ridge_small : (o a : ℕ) → a < length (numbers_in src o) → get_or (numbers_in src o) a 0 < length counts
  pub place_small : (x i : ℕ) → x < facets → i < length (places_in src x)
      → get_or (places_in src x) i 0 < length (ridges_in src (owner_of src x))

-- ---- laws

-- the areas are as they were where only what lies behind is written
pub sources_kept : (layout : KeptLayout) (tables : TableLayout) (s t : List ℕ)
    → Orders layout tables (length s) → take tables.shares t ≡ take tables.shares s
    → sources_of layout tables t ≡ sources_of layout tables s
unfolding sources_of
sources_kept layout tables s t o e =
    let a = area_kept tables.shares 0 2048 s t e (omega arith)
    (omega (arith, o.orbits, o.owners, o.ridges, o.places, o.end, o.numbers)) in
    let b = area_kept tables.shares layout.owners layout.ridges s t e (omega (arith, o.owners))
    (omega (arith, o.ridges, o.places, o.end, o.numbers)) in
    let c = area_kept tables.shares layout.ridges layout.places s t e o.ridges
    (omega (arith, o.places, o.end, o.numbers)) in
    let d = area_kept tables.shares layout.places layout.end s t e o.places (omega (arith, o.end, o.numbers)) in
    let f = area_kept tables.shares tables.numbers tables.shares s t e o.numbers (omega arith) in
    λ i. record { orbits = a i; owners = b i; ridges = c i; places = d i; numbers = f i }

-- a share is small
pub share_small : (c i r : ℕ) → c ≤ 120 → i ≤ 120 → c * i / r ≤ 14400
share_small c i r h k =
    let a : c * i ≤ c * 120 = mul-le-mul_left c k in
    omega (arith, div-le_self (c * i) r)

-- one place more
pub codes_more : (src : Sources) (counts : List ℕ) (x i : ℕ) → i < length (places_in src x)
    → map (code_at src counts (owner_of src x)) (take (i + 1) (places_in src x))
    ≡ map (code_at src counts (owner_of src x)) (take i (places_in src x))
    ++ (code_at src counts (owner_of src x) (get_or (places_in src x) i 0) ∷ [])
codes_more src counts x i h =
    ap (map (code_at src counts (owner_of src x))) (take_more (places_in src x) i 0 h)
    ∙ map-append (code_at src counts (owner_of src x)) (take i (places_in src x)) (get_or (places_in src x) i 0 ∷ [])

pub codes_long : (src : Sources) (counts : List ℕ) (x : ℕ)
    → length (facet_codes src counts x) ≡ length (places_in src x)
unfolding facet_codes
codes_long src counts x = length-map (places_in src x) (code_at src counts (owner_of src x))
