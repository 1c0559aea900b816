-- What a call keeps, its ridges and facets as other things stand for them, say as numbers: the table that it searches
-- and the parts of its facets are the same, where rows carry what stands for a ridge as they carry the ridge. Leans
-- on KeptOrbits and Ridges.
use Rattle.std.specs.Prelude.{◌≡◌, get_or}
use Rattle.std.proofs.Math.Path.{refl, sym, ap, subst}
use Rattle.std.proofs.Common.{◌∙◌}
use mathlib.Core.List.{List, [], ◌∷◌, map, zip_with, map-map}
use Prim.Native.Nat.{ℕ, Ordering}
use Rattle.std.proofs.Math.ListN.{length}
use Rattle.definitions.specs.Lists.{map_with}
use Rattle.definitions.specs.Orbits.{Row, image}
use Rattle.definitions.specs.Figures.{parts_of}
use Rattle.definitions.specs.Search.{Facet, Share, Table}
use Rattle.laws.specs.Lists.{Mem, of_map}
use Rattle.shapes.specs.Ridges.{KnownKeys, no_keys, Carried, carry_known, HeldOn, map_with_good, map_with_items}
use Rattle.shapes.specs.Ridges.{number_held, number_carried}
use Rattle.shapes.specs.KeptOrbits.{KeptOrbit, number_ridge_key, orbit_numbers, orbit_shares, orbit_share, orbit_table}
use Rattle.shapes.specs.KeptOrbits.{orbit_parts}

module _ {K L F G : Type 0} (write : K → L) (store : F → G) where
  -- ridges and facets as they stand for others
  unfoldable pub recoded : KeptOrbit K F → KeptOrbit L G
  recoded k = record {
    orbit = k.orbit;
    ridges = map write k.ridges;
    counts = k.counts;
    places = k.places;
    facets = map store k.facets;
    compounds = k.compounds;
  }

  -- the parts of a facet
  pub parts_recoded : (kept : List (KeptOrbit K F)) (f : Facet) → orbit_parts (map recoded kept) f ≡ orbit_parts kept f
  unfolding orbit_parts recoded
  parts_recoded kept f =
      let compounds = map-map (λ (k : KeptOrbit L G). k.compounds) recoded kept in
      let places = map-map (λ (k : KeptOrbit L G). k.places) recoded kept in
      λ t. map (λ (part : ℕ). (f.0, part))
      (parts_of (get_or (compounds t) f.0 []) (length (get_or (get_or (places t) f.0 []) f.1 [])) f.1)

  module _ (c : K → K → Ordering) (send : (ℕ → ℕ) → K → K) (d : L → L → Ordering) (move : (ℕ → ℕ) → L → L)
      (Key : ℕ → K → Type 0) (Moves : ℕ → ℕ → (ℕ → ℕ) → Type 0)
      (carried : Carried c send d move write Key Moves) (n : ℕ) (rows : List Row)
      (rows_move : (row : Row) → Mem row rows → Moves n n (image row)) where
    abbrev carry : KnownKeys K → KnownKeys L
    carry = carry_known c send d move write Key Moves carried

    abbrev Held : KnownKeys K → Type 0
    Held = HeldOn c send d move write Key Moves carried n rows rows_move

    -- the numbers of the ridges, and their counts
    pub numbers_recoded : (kept : List (KeptOrbit K F))
        → ((k : KeptOrbit K F) → Mem k kept → (r : K) → Mem r k.ridges → Key n r)
        → orbit_numbers d move rows (map recoded kept)
        ≡ ((orbit_numbers c send rows kept).0, carry (orbit_numbers c send rows kept).1)
    unfolding orbit_numbers number_ridge_key recoded carry_known no_keys
    numbers_recoded kept on =
        let ridges = map (λ (k : KeptOrbit K F). k.ridges) kept in
        let keep : (s : KnownKeys K) (r : K) → Held s → Key n r → Held (number_ridge_key c send rows s r).1 =
        number_held c send d move write Key Moves carried n rows rows_move in
        ap (map_with (map_with (number_ridge_key d move rows)) (no_keys L))
        (map-map (λ (k : KeptOrbit L G). k.ridges) recoded kept
        ∙ sym (map-map (map write) (λ (k : KeptOrbit K F). k.ridges) kept))
        ∙ map_with_items (map_with (number_ridge_key d move rows)) (map_with (number_ridge_key c send rows)) carry
        (map write) Held (λ rs. (r : K) → Mem r rs → Key n r)
        (λ s rs g h. map_with_good (number_ridge_key c send rows) Held (Key n) keep s rs g h)
        (λ s rs g h.
        map_with_items (number_ridge_key d move rows) (number_ridge_key c send rows) carry write Held (Key n) keep
        (number_carried c send d move write Key Moves carried n rows rows_move) s rs g h) (no_keys K) ridges
        (λ h m. elim m [ ]) (λ rs m r j. let q = of_map (λ (k : KeptOrbit K F). k.ridges) rs kept m in
        on q.0 q.1 r (q_in rs q.0.ridges q.2 r j))
      where
        q_in : (rs own : List K) → rs ≡ own → (r : K) → Mem r rs → Mem r own
        q_in rs own e r j = subst (λ (l : List K). Mem r l) e j

    -- the table
    pub table_recoded : (kept : List (KeptOrbit K F))
        → ((k : KeptOrbit K F) → Mem k kept → (r : K) → Mem r k.ridges → Key n r)
        → orbit_table d move rows (map recoded kept) ≡ orbit_table c send rows kept
    unfolding orbit_table carry_known zip_with orbit_shares orbit_share recoded
    table_recoded kept on =
        let numbered = orbit_numbers c send rows kept in
        ap {B = Table} (λ (x : List (List ℕ) × KnownKeys L). record {
          shares = zip_with (orbit_shares x.1.counts) (map recoded kept) x.0;
          ridges = length x.1.counts;
        }) (numbers_recoded kept on)
        ∙ ap {B = Table} (λ (s : List (List (List Share))). record {
          shares = s;
          ridges = length numbered.1.counts;
        }) (zip_recoded numbered.1.counts kept numbered.0)
      where
        zip_recoded : (ridgeCounts : List ℕ) (ks : List (KeptOrbit K F)) (ns : List (List ℕ))
            → zip_with (orbit_shares ridgeCounts) (map recoded ks) ns ≡ zip_with (orbit_shares ridgeCounts) ks ns
        zip_recoded ridgeCounts [] ns = refl
        zip_recoded ridgeCounts (k ∷ ks) [] = refl
        zip_recoded ridgeCounts (k ∷ ks) (x ∷ ns) =
            ap (λ (r : List (List (List Share))). orbit_shares ridgeCounts k x ∷ r) (zip_recoded ridgeCounts ks ns)
