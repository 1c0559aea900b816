-- From what a call keeps to the inputs of its search: what `lay_tables` is given, what each of its steps asks, and
-- what they come to. Leans on all specs of this crate.
use Rattle.std.specs.Prelude.{◌≡◌, ℕ, zero, suc, ◌+◌, ◌-◌, ◌*◌, ◌%◌, ◌≤◌, ◌<◌, take}
use Rattle.std.proofs.Math.Path.{sym, ap}
use Rattle.std.proofs.Common.{◌∙◌, mul-le-mul_right}
use mathlib.Core.List.{List, [], ◌∷◌, ◌++◌, map, map-map}
use Rattle.std.proofs.Math.Logic.{⊎_elim}
use native.Mathlib.Omega.{arith}
use Rattle.std.proofs.Math.ListN.{length, get_or, get_or-append}
use Rattle.std.proofs.lemmas.List.{length-map}
use Rattle.definitions.specs.Lists.{Pair}
use Rattle.definitions.specs.Orbits.{Orbit}
use Rattle.definitions.specs.Job.{number_at}
use Rattle.laws.specs.Lists.{Mem, map_at_holds, member_at, of_map, of_flat_map, at_member}
use Rattle.laws.specs.Segments.{le_or_lt}
use Rattle.words.specs.Words.{get_d_words, number_at_take}
use Rattle.pool.specs.Pool.{base, count, closed_lists, Sound, closed_length}
use Rattle.pool.specs.Holds.{holds_count}
use Rattle.rows.specs.Rows.{rows_in, RowsFit}
use Rattle.rows.specs.Codes.{pair_of}
use Rattle.orbits.specs.Numbers.{orbit_of}
use Rattle.orbits.specs.Workspace.{orbits_in, orbits_length}
use Rattle.shapes.specs.Ridges.{KnownKeys, no_keys}
use Rattle.shapes.specs.Kept.{Kept, numbers_kept}
use Rattle.layout.specs.declared.KeptLayout.{KeptLayout}
use Rattle.layout.specs.Keeps.{Keeps, Ridges, facets_of, places_of, ridge_code, ridge_codes, owners_part, ridges_part}
use Rattle.layout.specs.Keeps.{places_part}
use Rattle.facets.specs.declared.Areas.{Areas}
use Rattle.layout.specs.declared.TableLayout.{TableLayout}
use Rattle.shares.specs.Areas.{area, flat, Space, Made, area_kept, take_kept, flat_few, lists_to, lists_long}
use Rattle.shares.specs.Areas.{lists_at_holds, last_at, none_behind}
use Rattle.numbering.specs.Numbering.{Sent}
use Rattle.shares.specs.Ends.{Reads, ridges_at, all_numbered, AllNumbered}
use Rattle.ridges.specs.Codes.{touched_of}
use Rattle.shares.specs.Shares.{sources_of, count_of, owner_of, facet_codes, Orders, SourcesFit, codes_long}
use Rattle.ridges.specs.Facets.{At, item_at_holds, at_map, zip_at, zip_long}
use Rattle.ridges.specs.Small.{Small, ends_of_code, numbers_are}
use Rattle.ridges.specs.Shared.{Holding, facets_many, sources_fit}
use Rattle.ridges.specs.Codes as made

-- the areas of the tables lie behind what is kept, with room for 256 orbits of so many ridges, 1,024 facets of so
-- many places, so many ridge orbits, and 1,024 emitted lists
pub record TableLayoutFits (layout : KeptLayout) (tables : TableLayout) (most ridges size : ℕ) : Type 0 where
  pub few_places_holds : most ≤ 190
  pub few_ridges_holds : ridges ≤ 190
  pub before : layout.end ≤ tables.numbers
  pub number_room : tables.numbers + (base 256 + 512 * most) ≤ tables.shares
  pub share_room : tables.shares + (base 1024 + 2048 * most) ≤ tables.touched
  pub touched_room : tables.touched + (base 1024 + 2048 * ridges) ≤ tables.ones
  pub ones_room : tables.ones + (base ridges + 2048 * most) ≤ tables.frames
  pub frame_room : tables.frames + 4112 ≤ tables.totals
  pub total_room : tables.totals + (256 + ridges) ≤ tables.lists
  pub list_room : tables.lists + (4108 + 2048 * layout.orbits) ≤ tables.end
  pub ends : tables.end ≤ size

-- what `lay_tables` is given
pub record Given (n most ridges m : ℕ) (rows : List ℕ) (kept : List Kept) (layout : KeptLayout)
    (tables : TableLayout) (s : List ℕ) : Type 0 where
  pub keeps : Keeps n layout kept s
  pub made : Ridges layout kept s
  pub rows_fit_holds : RowsFit n m rows
  pub rows_few : m ≤ 120
  pub small : Small n most kept
  pub few : length (numbers_kept (rows_in n m rows) kept).1.counts ≤ ridges
  pub fits : TableLayoutFits layout tables most ridges (length s)

-- the areas for the search, which begins at the owners
unfoldable pub areas_of : KeptLayout → TableLayout → ℕ → Areas
areas_of layout tables known = record {
  facets = layout.facets;
  ridges = known;
  orbits = layout.orbits;
  bound = 1024;
  touched = tables.touched - layout.owners;
  ones = tables.ones - layout.owners;
  frames = tables.frames - layout.owners;
  totals = tables.totals - layout.owners;
  used = tables.totals - layout.owners + known;
  lists = tables.lists - layout.owners;
  end = tables.end - layout.owners;
}

-- areas made so say themselves for how many ridge orbits they are
pub areas_laid : (layout : KeptLayout) (tables : TableLayout) (known : ℕ) (r : Areas)
    → r ≡ areas_of layout tables known → r ≡ areas_of layout tables r.ridges
unfolding areas_of
areas_laid layout tables known r e = e ∙ ap (areas_of layout tables) (sym (ap (λ (a : Areas). a.ridges) e))

-- ---- lists of bounded length

flat_bound : (lists : List (List ℕ)) (most many : ℕ) → ((l : List ℕ) → Mem l lists → length l ≤ most)
    → length lists ≤ many → length (flat lists) ≤ many * most
flat_bound lists most many h k =
    let a = flat_few lists most (λ i l. h (get_or lists i []) (member_at lists i [] l)) in
    let b : length lists * most ≤ many * most = mul-le-mul_right most k in
    omega arith

-- the counts of the orbits found
orbit_at_holds : (s : List ℕ) (k o : ℕ) → o < k
    → get_or (orbits_in s k) o (0, 0) ≡ (number_at s (8 * o) 4, number_at s (8 * o + 4) 4)
unfolding orbits_in
orbit_at_holds s zero o h = absurd (omega arith)
orbit_at_holds s (suc k) o h = ⊎_elim
    (λ l.
    let e : o ≡ length (orbits_in s k) = omega (arith, orbits_length s k) in
    let f : k ≡ o = omega arith in
    ap (λ (j : ℕ). get_or (orbits_in s k ++ ((number_at s (8 * k) 4, number_at s (8 * k + 4) 4) ∷ [])) j (0, 0)) e
    ∙ (last_at (orbits_in s k) (number_at s (8 * k) 4, number_at s (8 * k + 4) 4) (0, 0)
    ∙ ap (λ (j : ℕ). (number_at s (8 * j) 4, number_at s (8 * j + 4) 4)) f))
    (λ l. get_or-append (orbits_in s k) ((number_at s (8 * k) 4, number_at s (8 * k + 4) 4) ∷ []) (0, 0) o
    (omega (arith, orbits_length s k)) ∙ orbit_at_holds s k o l)
    (le_or_lt k o)

module _ (n most ridges m : ℕ) (rows : List ℕ) (kept : List Kept) (layout : KeptLayout) (tables : TableLayout)
    (s : List ℕ) (g : Given n most ridges m rows kept layout tables s) where
  -- the areas lie in order
  pub table_layout_order : (tables.shares ≤ tables.touched) × (tables.touched ≤ tables.ones)
      × (tables.ones ≤ tables.frames) × (tables.frames ≤ tables.totals)
      × (tables.totals + 190 ≤ tables.lists) × (tables.lists ≤ tables.end)
      × (layout.owners ≤ tables.touched)
  table_layout_order =
      let f = g.fits in
      let k = g.keeps.fits in (
        omega (arith, f.share_room),
        omega (arith, f.touched_room),
        omega (arith, f.ones_room),
        omega (arith, f.frame_room),
        omega (arith, f.total_room),
        omega (arith, f.list_room),
        omega (arith, k.owner_room, k.ridge_room, k.place_room, f.before, f.number_room, f.share_room),
      )

  -- ---- the ridges

  orbits_many : length kept ≡ layout.orbits
  orbits_many = sym g.keeps.orbits

  ridges_count : count (ridges_part layout s) ≡ length kept
  ridges_count =
      sym (closed_length 4 256 (ridges_part layout s))
      ∙ (ap length g.made.ridges.lists_are ∙ length-map kept ridge_codes)

  code_list : (o : ℕ) (h : o < length kept) (r : At kept o) → ridges_at layout s o ≡ ridge_codes r.item
  code_list o h r = ap (λ (l : List (List ℕ)). get_or l o []) g.made.ridges.lists_are ∙ at_map ridge_codes kept o h r []

  codes_long_is : (k : Kept) → Mem k kept → length (ridge_codes k) ≡ length k.ends
  unfolding ridge_codes
  codes_long_is k i = zip_long ridge_code k.ends k.counts (g.small.long k i)

  sent_is : (o i : ℕ) → i < length (ridges_at layout s o)
      → Sent m rows (pair_of (get_or (ridges_at layout s o) i 0 % 65536))
  unfolding ridge_codes
  sent_is o i h = ⊎_elim
      (λ k. absurd (let e = ap length (none_behind (closed_lists 4 256 (ridges_part layout s)) o [] (omega (
        arith,
        closed_length 4 256 (ridges_part layout s),
        ridges_count,
      ))) in omega arith))
      (λ k.
      let r = item_at_holds kept o k in
      let l = g.small.long r.item r.member in
      let e = code_list o k r in
      let j : i < length r.item.ends = omega (arith, ap length e, codes_long_is r.item r.member) in
      let p = get_or r.item.ends i (0, 0) in
      let b = g.small.ends r.item r.member p (member_at r.item.ends i (0, 0) j) in
      let n20 = g.rows_fit_holds.n_fits in
      let c : pair_of (get_or (ridges_at layout s o) i 0 % 65536) ≡ p =
      ap (λ (l : List ℕ). pair_of (get_or l i 0 % 65536)) e
      ∙ (ap (λ (c : ℕ). pair_of (c % 65536)) (zip_at ridge_code r.item.ends r.item.counts i j (omega arith) (0, 0) 0 0)
      ∙ ends_of_code p (get_or r.item.counts i 0) (omega (arith, b.0)) (omega (arith, b.1))) in
      rw c (record {
        first_small = omega (arith, b.0);
        second_small = omega (arith, b.1);
        first = record { below = λ q l. omega (arith, (g.rows_fit_holds.images p.0 b.0).below q l) };
        second = record { below = λ q l. omega (arith, (g.rows_fit_holds.images p.1 b.1).below q l) };
      }))
      (le_or_lt (length kept) o)

  pub numbers_same : all_numbered (rows_in 32 m rows) (no_keys Pair) (closed_lists 4 256 (ridges_part layout s))
      ≡ numbers_kept (rows_in n m rows) kept
  numbers_same =
      ap (all_numbered (rows_in 32 m rows) (no_keys Pair)) g.made.ridges.lists_are
      ∙ numbers_are n m rows g.rows_fit_holds most kept g.small

  ridges_few : length (flat (closed_lists 4 256 (ridges_part layout s))) ≤ 256 * most
  ridges_few =
      let e = ap (λ (l : List (List ℕ)). length (flat l)) g.made.ridges.lists_are in
      let b = flat_bound (map ridge_codes kept) most 256
      (λ l i. let r = of_map ridge_codes l kept i in
      omega (arith, ap length r.2, codes_long_is r.0 r.1, g.small.few_ends r.0 r.1))
      (omega (arith, length-map kept ridge_codes, g.keeps.orbits, g.keeps.few_orbits)) in
      omega arith

  -- what `number_ridges` asks
  pub numbering_asks : Reads m rows layout s tables.numbers × (layout.orbits ≡ count (ridges_part layout s))
      × Space tables.numbers tables.shares 2 256 (length s)
      (length (flat (closed_lists 4 256 (ridges_part layout s)))) layout.orbits
      × (length (all_numbered (rows_in 32 m rows) (no_keys Pair) (closed_lists 4 256 (ridges_part layout s))).1.counts
      ≤ 190)
  numbering_asks =
      let f = g.fits in
      let k = g.keeps.fits in (
        record {
          rows_few = g.rows_few;
          order = omega (arith, k.ridge_room);
          before = omega (arith, k.place_room, f.before);
          inside =
              omega (
                arith,
                f.number_room,
                f.share_room,
                f.touched_room,
                f.ones_room,
                f.frame_room,
                f.total_room,
                f.list_room,
                f.ends,
              );
          sound = g.made.ridges.sound;
          sent = sent_is;
        },
        orbits_many_is,
        record {
          order = omega (arith, f.number_room);
          inside =
              omega
              (arith, f.share_room, f.touched_room, f.ones_room, f.frame_room, f.total_room, f.list_room, f.ends);
          room = omega (arith, f.number_room, ridges_few);
          small = omega (arith, ridges_few, f.few_places_holds);
          few = g.keeps.few_orbits;
          most_few = omega arith;
        },
        omega (
          arith,
          ap (λ (r : List (List ℕ) × KnownKeys Pair). length r.1.counts) numbers_same,
          g.few,
          f.few_ridges_holds,
        ),
      )
    where
      orbits_many_is : layout.orbits ≡ count (ridges_part layout s)
      orbits_many_is = omega (arith, orbits_many, ridges_count)

  -- ---- the shares

  module _ (s1 counts : List ℕ) (a : AllNumbered m rows tables.numbers tables.shares
      (closed_lists 4 256 (ridges_part layout s)) s s1 counts) where
    pub known_is : length counts ≡ length (numbers_kept (rows_in n m rows) kept).1.counts
    known_is = ap length a.counts_are ∙ ap (λ (r : List (List ℕ) × KnownKeys Pair). length r.1.counts) numbers_same

    pub known_few : (length counts ≤ ridges) × (length counts ≤ 190)
    known_few = (omega (arith, known_is, g.few), omega (arith, known_is, g.few, g.fits.few_ridges_holds))

    kept_area : (b c : ℕ) → b ≤ c → c ≤ layout.end → area b c s1 ≡ area b c s
    kept_area b c o h = area_kept tables.numbers b c s s1 a.front o (omega (arith, g.fits.before))

    pub orders : Orders layout tables (length s1)
    orders =
        let f = g.fits in
        let k = g.keeps.fits in
        record {
          orbits = omega (arith, k.orbit_room, k.edge_room, k.label_room);
          owners = omega (arith, k.owner_room, g.keeps.few_facets);
          ridges = omega (arith, k.ridge_room);
          places = omega (arith, k.place_room);
          end = f.before;
          numbers = omega (arith, f.number_room);
          inside =
              omega (
                arith,
                a.long,
                f.share_room,
                f.touched_room,
                f.ones_room,
                f.frame_room,
                f.total_room,
                f.list_room,
                f.ends,
              );
        }

    pub holding : Holding (rows_in n m rows) kept (sources_of layout tables s1)
    unfolding sources_of count_of owner_of orbit_of
    holding =
        let k = g.keeps.fits in
        let r : ridges_part layout s1 ≡ ridges_part layout s =
        kept_area layout.ridges layout.places (omega (arith, k.ridge_room)) (omega (arith, k.place_room)) in
        let p : places_part layout s1
        ≡ places_part layout s = kept_area layout.places layout.end (omega (arith, k.place_room)) (omega arith) in
        let w : owners_part layout s1 ≡ owners_part layout s = kept_area layout.owners layout.ridges
        (omega (arith, k.owner_room)) (omega (arith, k.ridge_room, k.place_room)) in
        let z : area 0 2048 s1 ≡ area 0 2048 s = kept_area 0 2048 (omega arith)
        (omega (arith, k.orbit_room, k.edge_room, k.label_room, k.owner_room, k.ridge_room, k.place_room)) in
        record {
          ridges_sound = rw r g.made.ridges.sound;
          numbers_sound = a.numbers.sound;
          places_sound = rw p g.made.places.sound;
          ridges = rw r g.made.ridges.lists_are;
          numbers = a.numbers.lists_are ∙ ap (λ (r : List (List ℕ) × KnownKeys Pair). r.0) numbers_same;
          places = rw p g.made.places.lists_are;
          owners =
              λ x h. rw w (sym (get_d_words 2 (owners_part layout s) layout.facets x (omega (arith, g.keeps.facets)))
              ∙ ap (λ (l : List ℕ). get_or l x 0) g.keeps.owners);
          counts = λ o h. rw z (count_at o h);
        }
      where
        count_at : (o : ℕ) → o < length kept
            → number_at (area 0 2048 s) (8 * o + 4) 4 ≡ get_or (map (λ (k : Kept). k.orbit.count) kept) o 0
        count_at o h =
            let found = orbits_in s layout.orbits in
            let few : o < 256 = omega (arith, g.keeps.orbits, g.keeps.few_orbits) in
            let e : map (λ (p : Pair). p.1) found ≡ map (λ (k : Kept). k.orbit.count) kept =
            by_orbits found g.keeps.sets in
            number_at_take s 2048 (8 * o + 4) 4 (omega arith)
            ∙ (sym (map_at_holds (λ (p : Pair). p.1) found o 0 (0, 0)
            (omega (arith, orbits_length s layout.orbits, g.keeps.orbits))
            ∙ ap (λ (p : Pair). p.1) (orbit_at_holds s layout.orbits o (omega (arith, g.keeps.orbits))))
            ∙ ap (λ (l : List ℕ). get_or l o 0) e)
          where
            by_orbits : (found : List Pair) → map (orbit_of n) found ≡ map (λ (k : Kept). k.orbit) kept
                → map (λ (p : Pair). p.1) found ≡ map (λ (k : Kept). k.orbit.count) kept
            by_orbits found q =
                counts_of found ∙ (ap (map (λ (o : Orbit). o.count)) q
                ∙ map-map (λ (o : Orbit). o.count) (λ (k : Kept). k.orbit) kept)
              where
                counts_of : (found : List Pair)
                    → map (λ (p : Pair). p.1) found ≡ map (λ (o : Orbit). o.count) (map (orbit_of n) found)
                counts_of found = sym (map-map (λ (o : Orbit). o.count) (orbit_of n) found)

    pub facets_are : layout.facets ≡ length (facets_of kept)
    facets_are = g.keeps.facets

    pub shares_fit : SourcesFit (sources_of layout tables s1) counts layout.facets
    shares_fit =
        sources_fit n most g.rows_fit_holds.n_fits (rows_in n m rows) kept g.small
        (sources_of layout tables s1) holding counts layout.facets facets_are (omega (arith, known_is))
        (omega (arith, known_few.1))

    place_short : (l : List ℕ) → Mem l (places_of kept) → length l ≤ most
    unfolding places_of
    place_short l i = let r = of_flat_map (λ (k : Kept). k.places) l kept i in g.small.few_places_holds r.0 r.1 l r.2

    places_few : length (flat (closed_lists 2 1024 (places_part layout s1))) ≤ 1024 * most
    unfolding sources_of
    places_few =
        let e = ap (λ (l : List (List ℕ)). length (flat l)) holding.places in
        let b = flat_bound (places_of kept) most 1024 place_short
        (omega (arith, facets_many kept, facets_are, g.keeps.few_facets)) in
        omega arith

    -- what `share_facets` asks
    pub sharing_space : Space tables.shares tables.touched 2 1024 (length s1)
        (length (flat (closed_lists 2 1024 (places_part layout s1)))) layout.facets
    sharing_space =
        let f = g.fits in
        record {
          order = omega (arith, f.share_room);
          inside = omega (arith, a.long, f.touched_room, f.ones_room, f.frame_room, f.total_room, f.list_room, f.ends);
          room = omega (arith, f.share_room, places_few);
          small = omega (arith, places_few, f.few_places_holds);
          few = g.keeps.few_facets;
          most_few = omega arith;
        }

    -- ---- the tables

    module _ (s2 : List ℕ) (b : Made tables.shares tables.touched 2 1024 s1 s2
        (lists_to (facet_codes (sources_of layout tables s1) counts) layout.facets)) where
      pub facets_count : layout.facets ≡ count (area tables.shares tables.touched s2)
      facets_count =
          sym (holds_count b.pool ∙ lists_long (facet_codes (sources_of layout tables s1) counts) layout.facets)

      pub touching_space : Space tables.touched tables.ones 2 layout.facets (length s2)
          (layout.facets * length counts) layout.facets
      touching_space =
          let f = g.fits in
          let k = g.keeps.few_facets in
          let p : layout.facets * length counts ≤ 1024 * length counts = mul-le-mul_right (length counts) k in
          record {
            order = omega (arith, f.touched_room);
            inside = omega (arith, b.long, a.long, f.ones_room, f.frame_room, f.total_room, f.list_room, f.ends);
            room = omega (arith, f.touched_room, known_few.0);
            small = omega (arith, known_few.1);
            few = omega arith;
            most_few = omega arith;
          }

      codes_few : length (flat (lists_to (facet_codes (sources_of layout tables s1) counts) layout.facets))
          ≤ 1024 * most
      unfolding sources_of
      codes_few =
          flat_bound (lists_to (facet_codes (sources_of layout tables s1) counts) layout.facets) most 1024 short
          (omega (
            arith,
            lists_long (facet_codes (sources_of layout tables s1) counts) layout.facets,
            g.keeps.few_facets,
          ))
        where
          few_places_at : (x : ℕ) → x < layout.facets
              → length (facet_codes (sources_of layout tables s1) counts x) ≤ most
          few_places_at x h =
              let l : x < length (places_of kept) = omega (arith, facets_many kept, facets_are) in
              let e = ap (λ (l : List (List ℕ)). length (get_or l x [])) holding.places in
              omega (
                arith,
                codes_long (sources_of layout tables s1) counts x,
                place_short (get_or (places_of kept) x []) (member_at (places_of kept) x [] l),
              )

          short : (l : List ℕ)
              → Mem l (lists_to (facet_codes (sources_of layout tables s1) counts) layout.facets)
              → length l ≤ most
          short l i =
              let r = at_member l
              (lists_to (facet_codes (sources_of layout tables s1) counts) layout.facets) [] i in
              let h : r.0 < layout.facets = omega
              (arith, r.1, lists_long (facet_codes (sources_of layout tables s1) counts) layout.facets) in
              let e = ap length (sym r.2 ∙ lists_at_holds
              (facet_codes (sources_of layout tables s1) counts) layout.facets r.0 [] h) in
              omega (arith, few_places_at r.0 h)

      module _ (s3 : List ℕ)
          (c : Made tables.touched tables.ones 2 layout.facets s2 s3 (lists_to (touched_of (length counts)
          (closed_lists 2 1024 (area tables.shares tables.touched s2))) layout.facets)) where
        pub shares_kept : area tables.shares tables.touched s3
            ≡ area tables.shares tables.touched s2
        shares_kept =
            area_kept tables.touched tables.shares tables.touched s2 s3 c.front
            (omega (arith, g.fits.share_room)) (omega arith)

        -- what `lay_ones` asks
        pub ones_asks : Sound 2 1024 (area tables.shares tables.touched s3)
            × (layout.facets ≡ count (area tables.shares tables.touched s3))
            × Space tables.ones tables.frames 2 (length counts) (length s3)
            (length (flat (closed_lists 2 1024 (area tables.shares tables.touched s3)))) (length counts)
        ones_asks =
            let f = g.fits in
            let e : length (flat (closed_lists 2 1024 (area tables.shares tables.touched s2))) ≤ 1024
            * most = omega (arith, ap (λ (l : List (List ℕ)). length (flat l)) b.pool.lists_are, codes_few) in
            rw shares_kept (
              b.pool.sound,
              facets_count,
              record {
                order = omega (arith, f.ones_room);
                inside = omega (arith, c.long, b.long, a.long, f.frame_room, f.total_room, f.list_room, f.ends);
                room = omega (arith, f.ones_room, known_few.0, e);
                small = omega (arith, e, f.few_places_holds);
                few = omega arith;
                most_few = omega (arith, known_few.1);
              },
            )

        module _ (s4 : List ℕ) (d : Made tables.ones tables.frames 2 (length counts) s3 s4 (lists_to
            (made.ones_of (closed_lists 2 1024 (area tables.shares tables.touched s3)) layout.facets)
            (length counts))) where
          -- what is kept is as it was
          pub layout_kept : take layout.end s4 ≡ take layout.end s
          layout_kept =
              let f = g.fits in
              let x = take_kept tables.ones layout.end s3 s4 d.front
              (omega (arith, f.before, f.number_room, f.share_room, f.touched_room)) in
              let y = take_kept tables.touched layout.end s2 s3 c.front
              (omega (arith, f.before, f.number_room, f.share_room)) in
              let z = take_kept tables.shares layout.end s1 s2 b.front (omega (arith, f.before, f.number_room)) in
              x ∙ (y ∙ (z ∙ take_kept tables.numbers layout.end s s1 a.front f.before))
