-- What the loops over facets and their places read, and what their shares come to. Leans on Shares, and on the
-- reading of pools.
use mathlib.Core.Path.{◌≡◌, refl, ap, subst, ◌∙◌}
use mathlib.Core.List.{List, [], ◌∷◌, ◌++◌, map, flat_map, append-nil}
use Prim.Native.Nat.{ℕ, zero, suc, ◌+◌, ◌-◌, ◌*◌, ◌/◌, ◌≤◌, ◌<◌, min}
use native.Mathlib.Omega.{arith}
use native.Mathlib.Nat.{div-zero, mul-le-mul_left}
use lib.ListN.{length, get_or, take, length-map, length-append}
use lib.Seq.{take-suc, take_all, length-take-le}
use Rattle.definitions.specs.Job.{number_at}
use Rattle.laws.specs.Lists.{flat_map_append}
use Rattle.laws.specs.Segments.{placed}
use Rattle.pool.specs.Pool.{count, closed_lists, pushed, ended, place_at, length_at, closed_length, base, used}
use Rattle.layout.specs.declared.KeptLayout.{KeptLayout}
use Rattle.layout.specs.Keeps.{owners_part, ridges_part, places_part}
use Rattle.layout.specs.declared.TableLayout.{TableLayout}
use Rattle.shares.specs.Areas.{area, flat, area_kept, AreaEmpty, Joined, AreaGrown, area_long, joined_none, joined_push}
use Rattle.shares.specs.Areas.{joined_end, flat_more, lists_to, push_asks}
use Rattle.shares.specs.Shares.{share_code, Sources, sources_kept, sources_of, count_of, owner_of, ridges_in}
use Rattle.shares.specs.Shares.{numbers_in, places_in, code_at, facet_codes, Orders, SourcesFit, share_small}
use Rattle.shares.specs.Shares.{codes_more, codes_long}
use Rattle.shares.specs.Laying.{length_asks, length_read, item_asks, item_read}

-- ---- one place

module _ (layout : KeptLayout) (tables : TableLayout) (s counts : List ℕ)
    (ord : Orders layout tables (length s))
    (fit : SourcesFit (sources_of layout tables s) counts layout.facets) (o : ℕ)
    (ho : o < count (ridges_part layout s)) where
  pub orbit_few : o < 256
  unfolding sources_of
  orbit_few = omega (arith, fit.ridges_sound.few)

  pub orbit_asks : 8 * o + 4 + 4 ≤ length (area 0 2048 s)
  orbit_asks =
      omega (
        arith,
        orbit_few,
        area_long 0 2048 4 0 s (omega arith) (omega (
          arith,
          ord.orbits,
          ord.owners,
          ord.ridges,
          ord.places,
          ord.end,
          ord.numbers,
          ord.inside,
        )),
      )

  module _ (a : ℕ) (ha : a < length (ridges_in (sources_of layout tables s) o)) where
    number_inside : (o < count (area tables.numbers tables.shares s))
        × (a < length (numbers_in (sources_of layout tables s) o))
    unfolding sources_of
    number_inside = (omega (arith, fit.same_orbits), omega (arith, fit.same_ridges o ho))

    pub ridge_asks : (12 + 4 * o ≤ length (ridges_part layout s))
        × (place_at 4 256 (ridges_part layout s) o a + 4 ≤ length (ridges_part layout s))
    unfolding sources_of
    ridge_asks = item_asks 4 256 (ridges_part layout s) fit.ridges_sound o ho a ha

    pub number_asks : (12 + 4 * o ≤ length (area tables.numbers tables.shares s))
        × (place_at 2 256 (area tables.numbers tables.shares s) o a + 2
        ≤ length (area tables.numbers tables.shares s))
    unfolding sources_of
    number_asks =
        item_asks 2 256
        (area tables.numbers tables.shares s) fit.numbers_sound o number_inside.0 a number_inside.1

    module _ (own code ridge : ℕ) (is-own : own ≡ number_at (area 0 2048 s) (8 * o + 4) 4) (is_code : code
        ≡ number_at (ridges_part layout s) (place_at 4 256 (ridges_part layout s) o a) 4)
        (is-ridge : ridge ≡ number_at (area tables.numbers tables.shares s)
        (place_at 2 256 (area tables.numbers tables.shares s) o a) 2) where
      code_is : code ≡ get_or (ridges_in (sources_of layout tables s) o) a 0
      unfolding sources_of
      code_is = is_code ∙ item_read 4 256 (ridges_part layout s) fit.ridges_sound o ho a ha

      number_is : ridge ≡ get_or (numbers_in (sources_of layout tables s) o) a 0
      unfolding sources_of
      number_is =
          is-ridge ∙ item_read 2 256
          (area tables.numbers tables.shares s) fit.numbers_sound o number_inside.0 a number_inside.1

      own_is : own ≡ count_of (sources_of layout tables s) o
      unfolding sources_of count_of
      own_is = is-own

      pub ridge_inside : ridge < length counts
      ridge_inside = omega (arith, number_is, fit.ridge_small o a number_inside.1)

      pub ridge_small_holds : 4 * ridge + 3 ≤ 65535
      ridge_small_holds = omega (arith, ridge_inside, fit.few_counts)

      own_small : own ≤ 120
      unfolding sources_of
      own_small = omega (arith, own_is, fit.orbit_small o ho)

      inner_small : code / 65536 ≤ 120
      inner_small = let e = ap (λ (c : ℕ). c / 65536) code_is in omega (arith, fit.inner_small o a ha)

      pub product_small : own * (code / 65536) ≤ 14400
      product_small =
          let m : own * (code / 65536) ≤ own * 120 = mul-le-mul_left own inner_small in
          omega (arith, own_small)

      pub part_small : (all : ℕ) → own * (code / 65536) / all ≤ 14400
      part_small all = share_small own (code / 65536) all own_small inner_small

      pub code_made : (all : ℕ) → all ≡ get_or counts ridge 0
          → 4 * ridge + min (own * (code / 65536) / all) 3 ≡ code_at (sources_of layout tables s) counts o a
      unfolding code_at share_code
      code_made all e = rw (e, number_is, own_is, code_is) refl

      pub code_none : (all : ℕ) → all ≡ get_or counts ridge 0 → all ≡ 0
          → 4 * ridge ≡ code_at (sources_of layout tables s) counts o a
      code_none all e z =
          let d : own * (code / 65536) / all ≡ 0 = ap (λ (k : ℕ). own * (code / 65536) / k) z
          ∙ div-zero (own * (code / 65536)) in
          omega (arith, code_made all e)

-- ---- the places of one facet

module _ (layout : KeptLayout) (tables : TableLayout) (s counts : List ℕ)
    (ord : Orders layout tables (length s))
    (fit : SourcesFit (sources_of layout tables s) counts layout.facets) (x : ℕ) (hx : x < layout.facets) where
  src : Sources
  src = sources_of layout tables s

  x_inside : x < count (places_part layout s)
  unfolding sources_of
  x_inside = omega (arith, fit.facets_are)

  pub owner_asks : 2 * x + 2 ≤ length (owners_part layout s)
  owner_asks =
      omega (
        arith,
        ord.owners,
        area_long layout.owners layout.ridges 2 0 s (omega (arith, ord.owners))
            (omega (arith, ord.ridges, ord.places, ord.end, ord.numbers, ord.inside)),
      )

  pub owner_is : (o : ℕ) → o ≡ number_at (owners_part layout s) (2 * x) 2
      → o ≡ owner_of (sources_of layout tables s) x
  unfolding sources_of owner_of
  owner_is o e = e

  pub facet_length_asks : 16 + 4 * x ≤ length (places_part layout s)
  unfolding sources_of
  facet_length_asks = length_asks 2 1024 (places_part layout s) fit.places_sound x x_inside

  pub facet_length : (n : ℕ) → n ≡ length_at (places_part layout s) x
      → n ≡ length (places_in (sources_of layout tables s) x)
  unfolding sources_of
  facet_length n e = e ∙ length_read 2 1024 (places_part layout s) fit.places_sound x x_inside

  pub owner_inside : owner_of (sources_of layout tables s) x < count (ridges_part layout s)
  unfolding sources_of
  owner_inside = fit.owner x hx

  module _ (i : ℕ) (hi : i < length (places_in (sources_of layout tables s) x)) where
    pub place_asks : (12 + 4 * x ≤ length (places_part layout s))
        × (place_at 2 1024 (places_part layout s) x i + 2 ≤ length (places_part layout s))
    unfolding sources_of
    place_asks = item_asks 2 1024 (places_part layout s) fit.places_sound x x_inside i hi

    pub place_is : (a : ℕ) → a ≡ number_at (places_part layout s) (place_at 2 1024 (places_part layout s) x i) 2
        → a ≡ get_or (places_in (sources_of layout tables s) x) i 0
    unfolding sources_of
    place_is a e = e ∙ item_read 2 1024 (places_part layout s) fit.places_sound x x_inside i hi

    -- what `share_code` asks, where only shares were written
    pub place_requires : (t : List ℕ) → length t ≡ length s → take tables.shares t ≡ take tables.shares s
        → (o : ℕ) → o ≡ owner_of (sources_of layout tables s) x → (a : ℕ)
        → a ≡ get_or (places_in (sources_of layout tables s) x) i 0
        → Orders layout tables (length t) × SourcesFit (sources_of layout tables t) counts layout.facets
        × (o < count (ridges_part layout t)) × (a < length (ridges_in (sources_of layout tables t) o))
    place_requires t l e o eo a ea =
        let k = sources_kept layout tables s t ord e in
        let r : ridges_part layout t ≡ ridges_part layout s = area_kept tables.shares layout.ridges
        layout.places s t e ord.ridges (omega (arith, ord.places, ord.end, ord.numbers)) in
        (rw l ord, rw k fit, rw r (omega (arith, owner_inside)), rw (k, eo) (omega (arith, fit.place_small x i hx hi)))

-- the shares of the first i places
module _ (src : Sources) (counts : List ℕ) (x : ℕ) {from to : ℕ} {ws₀ : List ℕ}
    (ready : AreaEmpty from to 2 1024 ws₀ (length (places_in src x)) 1) where
  pub codes_start : Joined from to 2 1024 ws₀ ws₀ (map (code_at src counts (owner_of src x)) (take 0 (places_in src x)))
  codes_start = joined_none ready.space

  module _ {ws : List ℕ} (i : ℕ)
      (j : Joined from to 2 1024 ws₀ ws (map (code_at src counts (owner_of src x)) (take i (places_in src x)))) where
    module _ (h : i < length (places_in src x)) where
      so_far : length (map (code_at src counts (owner_of src x)) (take i (places_in src x))) < length (places_in src x)
      so_far =
          omega (
            arith,
            length-map (take i (places_in src x)) (code_at src counts (owner_of src x)),
            length-take-le i (places_in src x) (omega arith),
          )

      pub codes_asks : (base 1024 + 2 * (used (area from to ws) + 1) ≤ length (area from to ws))
          × (used (area from to ws) + 1 < 4294967296)
      codes_asks = push_asks ready.space j so_far

      pub codes_push : (v : ℕ) → v ≡ code_at src counts (owner_of src x) (get_or (places_in src x) i 0)
          → v < 65536 → (p : List ℕ) → p ≡ pushed 2 1024 (area from to ws) v
          → Joined from to 2 1024 ws₀ (placed from (to - from) ws p)
          (map (code_at src counts (owner_of src x)) (take (i + 1) (places_in src x)))
      codes_push v e small p q =
          rw (codes_more src counts x i h, ← e) (joined_push ready.space j so_far v p (omega arith) q)

    pub codes_end : length (places_in src x) ≤ i → (p : List ℕ) → p ≡ ended (area from to ws)
        → AreaGrown from to 2 1024 ws₀ (placed from (to - from) ws p) (facet_codes src counts x ∷ [])
    unfolding facet_codes
    codes_end h p q =
        subst (λ (l : List ℕ). AreaGrown from to 2 1024 ws₀ (placed from (to - from) ws p)
        (map (code_at src counts (owner_of src x)) l ∷ [])) (take_all i (places_in src x) h)
        (joined_end ready j (omega arith) p q)

-- ---- all facets

codes_flat : (src : Sources) (counts : List ℕ) (n : ℕ) → n ≤ length (closed_lists 2 1024 src.places)
    → length (flat (lists_to (facet_codes src counts) n)) ≡ length (flat (take n (closed_lists 2 1024 src.places)))
unfolding lists_to flat_map
codes_flat src counts zero h = refl
codes_flat src counts (suc n) h =
    let lists = closed_lists 2 1024 src.places in
    let a = ap length
    (flat_map_append (λ (l : List ℕ). l) (lists_to (facet_codes src counts) n) (facet_codes src counts n ∷ [])
    ∙ ap (λ (l : List ℕ). flat (lists_to (facet_codes src counts) n) ++ l) (append-nil (facet_codes src counts n)))
    ∙ length-append (flat (lists_to (facet_codes src counts) n)) (facet_codes src counts n) in
    let e : take (suc n) lists ≡ take n lists ++ (get_or lists n [] ∷ []) = take-suc lists n [] h in
    let b = ap (λ (l : List (List ℕ)). length (flat l)) e
    ∙ (ap length (flat_map_append (λ (l : List ℕ). l) (take n lists) (get_or lists n [] ∷ [])
    ∙ ap (λ (l : List ℕ). flat (take n lists) ++ l) (append-nil (get_or lists n [])))
    ∙ length-append (flat (take n lists)) (get_or lists n [])) in
    omega (arith, codes_flat src counts n (omega arith), codes_long src counts n)

-- room for the shares of one facet more
pub codes_room : (src : Sources) (counts : List ℕ) (x : ℕ) → x < count src.places
    → length (flat (lists_to (facet_codes src counts) x)) + length (places_in src x)
    ≤ length (flat (closed_lists 2 1024 src.places))
codes_room src counts x h =
    let c = closed_length 2 1024 src.places in
    omega (arith, codes_flat src counts x (omega arith), flat_more (closed_lists 2 1024 src.places) x (omega arith))

-- what `share_facet` asks, where only shares were written
pub facet_requires : (layout : KeptLayout) (tables : TableLayout) (s counts : List ℕ)
    → Orders layout tables (length s) → SourcesFit (sources_of layout tables s) counts layout.facets
    → (t : List ℕ) → length t ≡ length s → take tables.shares t ≡ take tables.shares s → (x : ℕ)
    → AreaEmpty tables.shares tables.touched 2 1024 t
    (length (places_in (sources_of layout tables s) x)) 1
    → Orders layout tables (length t) × SourcesFit (sources_of layout tables t) counts layout.facets
    × AreaEmpty tables.shares tables.touched 2 1024 t
    (length (places_in (sources_of layout tables t) x)) 1
facet_requires layout tables s counts ord fit t l e x ready =
    let k = sources_kept layout tables s t ord e in
    (rw l ord, rw k fit, rw k ready)

pub facets_room : (layout : KeptLayout) (tables : TableLayout) (s counts : List ℕ)
    → SourcesFit (sources_of layout tables s) counts layout.facets → (x : ℕ) → x < layout.facets
    → length (flat (lists_to (facet_codes (sources_of layout tables s) counts) x)) + length
    (places_in (sources_of layout tables s) x) ≤ length (flat (closed_lists 2 1024 (places_part layout s)))
unfolding sources_of
facets_room layout tables s counts fit x h =
    codes_room (sources_of layout tables s) counts x (omega (arith, fit.facets_are))
