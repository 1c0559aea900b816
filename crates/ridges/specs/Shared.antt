-- The shares made from what is kept and the numbers are those of the definition's table, and what making them reads
-- is in order. Leans on Shares, Facets, Small and Below.
use Rattle.std.specs.Prelude.{◌≡◌, ℕ, ◌+◌, ◌/◌, ◌≤◌, ◌<◌}
use Rattle.std.proofs.Math.Path.{refl, sym, ap}
use Rattle.std.proofs.Common.{subst, ◌∙◌, ⊎_elim, arith}
use mathlib.Core.List.{List, [], ◌∷◌, ◌++◌, map, flat_map, zip_with, map-map}
use Rattle.std.proofs.Math.ListN.{length, get_or}
use Rattle.std.proofs.lemmas.List.{length-map}
use Rattle.definitions.specs.Orbits.{Row}
use Rattle.definitions.specs.Search.{Facet, Share, all_facets, shares_of}
use Rattle.laws.specs.Lists.{Mem, map_at_holds, member_at, of_map}
use Rattle.laws.specs.Places.{map_same}
use Rattle.laws.specs.Segments.{le_or_lt}
use Rattle.pool.specs.Pool.{count, closed_lists, Sound, closed_length}
use Rattle.shapes.specs.Kept.{Kept, numbers_kept, kept_share, kept_shares, kept_table}
use Rattle.layout.specs.Keeps.{facets_in, facets_of, owners_of, places_of, ridge_code, ridge_codes}
use Rattle.shares.specs.Areas.{none_behind}
use Rattle.shares.specs.Shares.{share_code, Sources, count_of, owner_of, ridges_in, numbers_in, places_in, code_at}
use Rattle.shares.specs.Shares.{facet_codes, SourcesFit}
use Rattle.ridges.specs.Facets.{At, item_at_holds, at_map, zip_at, zip_long, facets_from, table_facets, kept_facets}
use Rattle.ridges.specs.Facets.{facets_long, stand}
use Rattle.ridges.specs.Small.{Small, count_of_code}
use Rattle.ridges.specs.Below.{numbers_below, numbers_long, numbers_each}

-- the areas hold what is kept, and the numbers of its ridges
pub record Holding (rows : List Row) (kept : List Kept) (src : Sources) : Type 0 where
  pub ridges_sound : Sound 4 256 src.ridges
  pub numbers_sound : Sound 2 256 src.numbers
  pub places_sound : Sound 2 1024 src.places
  pub ridges : closed_lists 4 256 src.ridges ≡ map ridge_codes kept
  pub numbers : closed_lists 2 256 src.numbers ≡ (numbers_kept rows kept).0
  pub places : closed_lists 2 1024 src.places ≡ places_of kept
  pub owners : (x : ℕ) → x < length (facets_of kept) → owner_of src x ≡ get_or (owners_of kept) x 0
  pub counts : (o : ℕ) → o < length kept → count_of src o ≡ get_or (map (λ (k : Kept). k.orbit.count) kept) o 0

-- ---- the facets of what is kept

-- each orbit's facets, by their places
abbrev place_lists : List Kept → List (List (List ℕ))
place_lists kept = map (λ (k : Kept). k.places) kept

places_flat : (kept : List Kept) → places_of kept ≡ flat_map (λ (l : List (List ℕ)). l) (place_lists kept)
unfolding places_of flat_map
places_flat [] = refl
places_flat (k ∷ kept) = ap (λ (l : List (List ℕ)). k.places ++ l) (unfolded kept)
  where
    unfolded : (kept : List Kept)
        → flat_map (λ (k : Kept). k.places) kept ≡ flat_map (λ (l : List (List ℕ)). l) (place_lists kept)
    unfolded [] = refl
    unfolded (k ∷ kept) = ap (λ (l : List (List ℕ)). k.places ++ l) (unfolded kept)

facets_flat : (kept : List Kept) → facets_of kept ≡ facets_from 0 (map length (place_lists kept))
facets_flat kept = kept_facets kept ∙ ap (facets_from 0) (sym (map-map length (λ (k : Kept). k.places) kept))

pub facets_many : (kept : List Kept) → length (facets_of kept) ≡ length (places_of kept)
facets_many kept =
    ap length (facets_flat kept) ∙ (facets_long 0 (place_lists kept) ∙ sym (ap length (places_flat kept)))

-- facet x: its orbit, and its places
pub record KeptAt (kept : List Kept) (x : ℕ) : Type 0 where
  pub orbit : ℕ
  pub number : ℕ
  pub inside : orbit < length kept
  pub at : At kept orbit
  pub facet_is : get_or (facets_of kept) x (0, 0) ≡ (orbit, number)
  pub number_few : number < length at.item.places
  pub places_are : get_or (places_of kept) x [] ≡ get_or at.item.places number []

pub kept_at_holds : (kept : List Kept) (x : ℕ) → x < length (facets_of kept) → KeptAt kept x
kept_at_holds kept x h =
    let s = stand 0 (place_lists kept) x (omega (arith, facets_many kept, ap length (places_flat kept))) in
    let i : s.orbit < length kept = omega (arith, s.orbit_few, length-map kept (λ (k : Kept). k.places)) in
    let r = item_at_holds kept s.orbit i in
    let e : get_or (place_lists kept) s.orbit []
    ≡ r.item.places = at_map (λ (k : Kept). k.places) kept s.orbit i r [] in
    record {
      orbit = s.orbit;
      number = s.number;
      inside = i;
      at = r;
      facet_is =
          ap (λ (l : List Facet). get_or l x (0, 0)) (facets_flat kept)
          ∙ (s.facet_is ∙ (let z : 0 + s.orbit ≡ s.orbit = omega arith in λ t. (z t, s.number)));
      number_few = omega (arith, s.number_few [], ap length e);
      places_are =
          ap (λ (l : List (List ℕ)). get_or l x []) (places_flat kept)
          ∙ (s.item_is [] [] ∙ ap (λ (l : List (List ℕ)). get_or l s.number []) e);
    }

owner_at : (kept : List Kept) (x : ℕ) → x < length (facets_of kept) → (r : KeptAt kept x)
    → get_or (owners_of kept) x 0 ≡ r.orbit
unfolding owners_of
owner_at kept x h r =
    map_at_holds (λ (f : Facet). f.0) (facets_of kept) x 0 (0, 0) h ∙ ap (λ (f : Facet). f.0) r.facet_is

-- ---- what is read is in order

module _ (n most : ℕ) (n_fits : n ≤ 20) (rows : List Row) (kept : List Kept) (small : Small n most kept)
    (src : Sources) (hold : Holding rows kept src) where
  many : count src.ridges ≡ length kept
  many = sym (closed_length 4 256 src.ridges) ∙ (ap length hold.ridges ∙ length-map kept ridge_codes)

  ridge_list : (o : ℕ) (h : o < length kept) (r : At kept o) → ridges_in src o ≡ ridge_codes r.item
  ridge_list o h r = ap (λ (l : List (List ℕ)). get_or l o []) hold.ridges ∙ at_map ridge_codes kept o h r []

  codes_long : (o : ℕ) (h : o < length kept) (r : At kept o) → length (ridges_in src o) ≡ length r.item.ends
  unfolding ridge_codes
  codes_long o h r =
      ap length (ridge_list o h r) ∙ zip_long ridge_code r.item.ends r.item.counts (small.long r.item r.member)

  -- the inner count of a ridge
  inner_is : (o : ℕ) (h : o < length kept) (r : At kept o) (a : ℕ) → a < length r.item.ends
      → get_or (ridges_in src o) a 0 / 65536 ≡ get_or r.item.counts a 0
  unfolding ridge_codes
  inner_is o h r a k =
      let l = small.long r.item r.member in
      let b = small.ends r.item r.member (get_or r.item.ends a (0, 0)) (member_at r.item.ends a (0, 0) k) in
      ap (λ (l : List ℕ). get_or l a 0 / 65536) (ridge_list o h r)
      ∙ (ap (λ (c : ℕ). c / 65536) (zip_at ridge_code r.item.ends r.item.counts a k (omega arith) (0, 0) 0 0)
      ∙ count_of_code (get_or r.item.ends a (0, 0)) (get_or r.item.counts a 0) (omega (arith, b.0))
      (omega (arith, b.1)))

  number_list : (o : ℕ) → numbers_in src o ≡ get_or (numbers_kept rows kept).0 o []
  number_list o = ap (λ (l : List (List ℕ)). get_or l o []) hold.numbers

  numbers_same : (o : ℕ) (h : o < length kept) (r : At kept o) → length (numbers_in src o) ≡ length r.item.ends
  numbers_same o h r =
      ap length (number_list o) ∙ (numbers_each rows kept o ∙ ap length (at_map (λ (k : Kept). k.ends) kept o h r []))

  number_small : (o a : ℕ) → a < length (numbers_in src o)
      → get_or (numbers_in src o) a 0 < length (numbers_kept rows kept).1.counts
  number_small o a h = ⊎_elim
      (λ k. absurd (let e = ap length (number_list o ∙ none_behind (numbers_kept rows kept).0 o [] k) in omega arith))
      (λ k. rw (number_list o) (numbers_below rows kept (get_or (numbers_kept rows kept).0 o [])
      (member_at (numbers_kept rows kept).0 o [] k) (get_or (get_or (numbers_kept rows kept).0 o []) a 0)
      (member_at (get_or (numbers_kept rows kept).0 o []) a 0 (omega (arith, ap length (number_list o))))))
      (le_or_lt (length (numbers_kept rows kept).0) o)

  place_list : (x : ℕ) (r : KeptAt kept x) → places_in src x ≡ get_or r.at.item.places r.number []
  place_list x r = ap (λ (l : List (List ℕ)). get_or l x []) hold.places ∙ r.places_are

  place_below : (x : ℕ) (r : KeptAt kept x) (a : ℕ) → Mem a (get_or r.at.item.places r.number [])
      → a < length r.at.item.ends
  place_below x r a m =
      small.places r.at.item r.at.member (get_or r.at.item.places r.number [])
      (member_at r.at.item.places r.number [] r.number_few) a m

  owner_is : (x : ℕ) → x < length (facets_of kept) → (r : KeptAt kept x) → owner_of src x ≡ r.orbit
  owner_is x h r = hold.owners x h ∙ owner_at kept x h r

  count_is : (o : ℕ) (h : o < length kept) (r : At kept o) → count_of src o ≡ r.item.orbit.count
  count_is o h r = hold.counts o h ∙ at_map (λ (k : Kept). k.orbit.count) kept o h r 0

  inner_fits : (o a : ℕ) → a < length (ridges_in src o) → get_or (ridges_in src o) a 0 / 65536 ≤ 120
  inner_fits o a h = ⊎_elim
      (λ k. absurd (let e = ap length (ap (λ (l : List (List ℕ)). get_or l o []) hold.ridges
      ∙ none_behind (map ridge_codes kept) o [] (omega (arith, length-map kept ridge_codes))) in omega arith))
      (λ k.
      let r = item_at_holds kept o k in
      let l = small.long r.item r.member in
      let s : a < length r.item.ends = omega (arith, codes_long o k r) in
      omega (
        arith,
        inner_is o k r a s,
        small.counts r.item r.member (get_or r.item.counts a 0) (member_at r.item.counts a 0 (omega arith)),
      ))
      (le_or_lt (length kept) o)

  pub sources_fit : (counts : List ℕ) (facets : ℕ) → facets ≡ length (facets_of kept)
      → length (numbers_kept rows kept).1.counts ≤ length counts → length counts ≤ 16383 → SourcesFit src counts facets
  sources_fit counts facets f few fewer = record {
    ridges_sound = hold.ridges_sound;
    numbers_sound = hold.numbers_sound;
    places_sound = hold.places_sound;
    facets_are = f ∙ (facets_many kept ∙ (sym (ap length hold.places) ∙ closed_length 2 1024 src.places));
    same_orbits =
        sym (closed_length 2 256 src.numbers) ∙ (ap length hold.numbers ∙ (numbers_long rows kept ∙ sym many));
    owner =
        λ x h. let r = kept_at_holds kept x (omega arith) in
        omega (arith, many, owner_is x (omega arith) r, r.inside);
    orbit_small =
        λ o h. let k : o < length kept = omega (arith, many) in let r = item_at_holds kept o k in
        omega (arith, count_is o k r, small.orbit r.item r.member);
    few_counts = fewer;
    inner_small = inner_fits;
    same_ridges =
        λ o h. let k : o < length kept = omega (arith, many) in let r = item_at_holds kept o k in
        numbers_same o k r ∙ sym (codes_long o k r);
    ridge_small = λ o a h. omega (arith, number_small o a h);
    place_small = λ x i h k.
        let r = kept_at_holds kept x (omega arith) in
        let e = place_list x r in
        let b = place_below x r (get_or (get_or r.at.item.places r.number []) i 0)
        (member_at (get_or r.at.item.places r.number []) i 0 (omega (arith, ap length e))) in
        let c = ap (λ (l : List ℕ). get_or l i 0) e in
        rw (owner_is x (omega arith) r) (omega (arith, codes_long r.orbit r.inside r.at));
  }

  -- ---- the shares

  module _ (counts : List ℕ) (are : counts ≡ (numbers_kept rows kept).1.counts) where
    code_is : (o : ℕ) (h : o < length kept) (r : At kept o) (a : ℕ) → a < length r.item.ends
        → code_at src counts o a
        ≡ share_code (kept_share (numbers_kept rows kept).1.counts r.item (get_or (numbers_kept rows kept).0 o []) a)
    unfolding code_at kept_share
    code_is o h r a k =
        let rc = (numbers_kept rows kept).1.counts in
        let ridge = get_or (numbers_in src o) a 0 in
        let e : get_or counts ridge 0 ≡ get_or rc ridge 0 = ap (λ (l : List ℕ). get_or l ridge 0) are in
        rw (e, count_is o h r, inner_is o h r a k, number_list o) refl

    -- facet x of the table
    facet_shares_holds : (x : ℕ) → x < length (facets_of kept) → (r : KeptAt kept x)
        → facet_codes src counts x ≡ map share_code (map (kept_share (numbers_kept rows kept).1.counts r.at.item
        (get_or (numbers_kept rows kept).0 r.orbit [])) (get_or r.at.item.places r.number []))
    unfolding facet_codes
    facet_shares_holds x h r =
        let share =
        kept_share (numbers_kept rows kept).1.counts r.at.item (get_or (numbers_kept rows kept).0 r.orbit []) in
        let own = owner_is x h r in
        ap (λ (o : ℕ). map (code_at src counts o) (places_in src x)) own
        ∙ (ap (map (code_at src counts r.orbit)) (place_list x r)
        ∙ (map_same (code_at src counts r.orbit) (λ (a : ℕ). share_code (share a))
        (get_or r.at.item.places r.number []) (λ a m. code_is r.orbit r.inside r.at a (place_below x r a m))
        ∙ sym (map-map share_code share (get_or r.at.item.places r.number []))))

    shares_at_holds : (o : ℕ) (h : o < length kept) (r : At kept o) → get_or (kept_table rows kept).shares o []
        ≡ kept_shares (numbers_kept rows kept).1.counts r.item (get_or (numbers_kept rows kept).0 o [])
    unfolding kept_table
    shares_at_holds o h r =
        zip_at (kept_shares (numbers_kept rows kept).1.counts) kept (numbers_kept rows kept).0 o h
        (omega (arith, numbers_long rows kept)) r.item [] []
        ∙ ap (λ (k : Kept). kept_shares (numbers_kept rows kept).1.counts k (get_or (numbers_kept rows kept).0 o []))
        (r.is r.item)

    table_shares : (x : ℕ) (r : KeptAt kept x)
        → shares_of (kept_table rows kept) (get_or (facets_of kept) x (0, 0))
        ≡ map (kept_share (numbers_kept rows kept).1.counts r.at.item (get_or (numbers_kept rows kept).0 r.orbit []))
        (get_or r.at.item.places r.number [])
    unfolding shares_of kept_shares
    table_shares x r =
        let share =
        kept_share (numbers_kept rows kept).1.counts r.at.item (get_or (numbers_kept rows kept).0 r.orbit []) in
        ap (shares_of (kept_table rows kept)) r.facet_is
        ∙ (ap (λ (l : List (List Share)). get_or l r.number []) (shares_at_holds r.orbit r.inside r.at)
        ∙ map_at_holds (map share) r.at.item.places r.number [] [] r.number_few)

    -- the shares made for a facet are the table's
    pub codes_are : (x : ℕ) → x < length (facets_of kept) → facet_codes src counts x
        ≡ map share_code (shares_of (kept_table rows kept) (get_or (facets_of kept) x (0, 0)))
    codes_are x h =
        let r = kept_at_holds kept x h in
        facet_shares_holds x h r ∙ ap (map share_code) (sym (table_shares x r))

    -- they name ridge orbits of the table
    pub shares_below : (x : ℕ) → x < length (facets_of kept) → (s : Share)
        → Mem s (shares_of (kept_table rows kept) (get_or (facets_of kept) x (0, 0))) → s.0 < length counts
    unfolding kept_share
    shares_below x h s m =
        let r = kept_at_holds kept x h in
        let share =
        kept_share (numbers_kept rows kept).1.counts r.at.item (get_or (numbers_kept rows kept).0 r.orbit []) in
        let q = of_map share s (get_or r.at.item.places r.number [])
        (subst (λ (l : List Share). Mem s l) (table_shares x r) m) in
        let b = place_below x r q.0 q.1 in
        let e : s.0 ≡ get_or (get_or (numbers_kept rows kept).0 r.orbit []) q.0 0 = ap (λ (z : Share). z.0) q.2 in
        let f = ap (λ (l : List ℕ). get_or l q.0 0) (number_list r.orbit) in
        omega (arith, ap length are, number_small r.orbit q.0 (omega (arith, numbers_same r.orbit r.inside r.at)))

-- ---- the table's facets

lengths_same : (rc : List ℕ) (kept : List Kept) (numbers : List (List ℕ)) → length kept ≡ length numbers
    → map length (zip_with (kept_shares rc) kept numbers) ≡ map facets_in kept
unfolding zip_with kept_shares
lengths_same rc [] numbers e = refl
lengths_same rc (k ∷ kept) [] e = absurd (omega arith)
lengths_same rc (k ∷ kept) (l ∷ numbers) e =
    let p : length (map (map (kept_share rc k l)) k.places)
    ≡ length k.places = length-map k.places (map (kept_share rc k l)) in
    let q = lengths_same rc kept numbers (omega arith) in
    λ t. p t ∷ q t

module _ (rows : List Row) (kept : List Kept) where
  pub facets_same : all_facets (kept_table rows kept) ≡ facets_of kept
  unfolding kept_table
  facets_same =
      table_facets (kept_table rows kept)
      ∙ (ap (facets_from 0) (lengths_same (numbers_kept rows kept).1.counts kept (numbers_kept rows kept).0
      (sym (numbers_long rows kept))) ∙ sym (kept_facets kept))

  pub orbits_same : length (kept_table rows kept).shares ≡ length kept
  unfolding kept_table
  orbits_same =
      zip_long (kept_shares (numbers_kept rows kept).1.counts) kept (numbers_kept rows kept).0
      (sym (numbers_long rows kept))

  pub ridges_same : (kept_table rows kept).ridges ≡ length (numbers_kept rows kept).1.counts
  unfolding kept_table
  ridges_same = refl
