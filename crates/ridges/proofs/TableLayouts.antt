-- Theorems on the definitions of specs/TableLayouts.
use Rattle.std.specs.Prelude.{◌≡◌, ℕ, ◌+◌, ◌-◌, ◌≤◌, ◌<◌, take, drop}
use Rattle.std.proofs.Math.Path.{refl, sym, ap}
use Rattle.std.proofs.Common.{◌∙◌, drop-drop}
use mathlib.Core.List.{List, [], map}
use native.Mathlib.Omega.{arith}
use Rattle.std.proofs.Math.ListN.{length, get_or, length-drop}
use Rattle.definitions.specs.Lists.{Pair}
use Rattle.definitions.specs.Search.{Facet, all_facets, shares_of}
use Rattle.laws.specs.Segments.{part}
use Rattle.words.specs.Words.{words, words_take}
use Rattle.pool.specs.Pool.{closed_lists}
use Rattle.rows.specs.Rows.{rows_in}
use Rattle.shapes.specs.Ridges.{KnownKeys}
use Rattle.shapes.specs.Kept.{Kept, numbers_kept, kept_table}
use Rattle.layout.specs.declared.KeptLayout.{KeptLayout}
use Rattle.layout.specs.Keeps.{facets_of, owners_of, owners_part, ridges_part}
use Rattle.facets.specs.Layout.{Inputs, facet_of}
use Rattle.layout.specs.declared.TableLayout.{TableLayout}
use Rattle.shares.specs.Areas.{area, flat, Made, area_kept, lists_to, lists_at_holds}
use Rattle.shares.specs.Ends.{AllNumbered}
use Rattle.ridges.specs.Codes.{touched_of}
use Rattle.shares.specs.Shares.{share_code, sources_of, facet_codes}
use Rattle.ridges.specs.Shared.{codes_are, facets_same, orbits_same, ridges_same}
use Rattle.ridges.proofs.Laid.{tables_hold}
use Rattle.facets.specs.Layout as areas
use Rattle.ridges.specs.Codes as made
use Rattle.ridges.specs.TableLayouts.{Given, areas_of, facets_are, holding, known_few, known_is, numbers_same}
use Rattle.ridges.specs.TableLayouts.{shares_kept, layout_kept}

-- an area, counted from a place before it
part_shift : (o a b : ℕ) (l : List ℕ) → o ≤ a → a ≤ b → part (a - o) (b - o - (a - o)) (drop o l) ≡ area a b l
part_shift o a b l h k =
    let e : o + (a - o) ≡ a = omega arith in
    let f : b - o - (a - o) ≡ b - a = omega arith in
    ap (take (b - o - (a - o))) (drop-drop (a - o) o l ∙ ap (λ (i : ℕ). drop i l) e)
    ∙ ap (λ (i : ℕ). take i (drop a l)) f

module _ (n most ridges m : ℕ) (rows : List ℕ) (kept : List Kept) (layout : KeptLayout) (tables : TableLayout)
    (s : List ℕ) (g : Given n most ridges m rows kept layout tables s) where
  -- ---- the shares

  module _ (s1 counts : List ℕ) (a : AllNumbered m rows tables.numbers tables.shares
      (closed_lists 4 256 (ridges_part layout s)) s s1 counts) where
    counts_are : counts ≡ (numbers_kept (rows_in n m rows) kept).1.counts
    counts_are =
        a.counts_are ∙ ap (λ (r : List (List ℕ) × KnownKeys Pair). r.1.counts)
        (numbers_same n most ridges m rows kept layout tables s g)

    -- ---- the tables

    module _ (s2 : List ℕ) (b : Made tables.shares tables.touched 2 1024 s1 s2
        (lists_to (facet_codes (sources_of layout tables s1) counts) layout.facets)) where
      module _ (s3 : List ℕ)
          (c : Made tables.touched tables.ones 2 layout.facets s2 s3 (lists_to (touched_of (length counts)
          (closed_lists 2 1024 (area tables.shares tables.touched s2))) layout.facets)) where
        module _ (s4 : List ℕ) (d : Made tables.ones tables.frames 2 (length counts) s3 s4 (lists_to
            (made.ones_of (closed_lists 2 1024 (area tables.shares tables.touched s3)) layout.facets)
            (length counts))) where
          all_long : length s4 ≡ length s
          all_long = d.long ∙ (c.long ∙ (b.long ∙ a.long))

          lists : List (List ℕ)
          lists = closed_lists 2 1024 (area tables.shares tables.touched s2)

          facet_is : (x : ℕ) → facet_of (kept_table (rows_in n m rows) kept) x ≡ get_or (facets_of kept) x (0, 0)
          unfolding facet_of
          facet_is x = ap (λ (l : List Facet). get_or l x (0, 0)) (facets_same (rows_in n m rows) kept)

          same : (x : ℕ) → x < layout.facets → get_or lists x [] ≡ map share_code
              (shares_of (kept_table (rows_in n m rows) kept) (facet_of (kept_table (rows_in n m rows) kept) x))
          unfolding lists
          same x h =
              ap (λ (l : List (List ℕ)). get_or l x []) b.pool.lists_are
              ∙ (lists_at_holds (facet_codes (sources_of layout tables s1) counts) layout.facets x [] h
              ∙ (codes_are n most g.rows_fit_holds.n_fits (rows_in n m rows) kept g.small
              (sources_of layout tables s1) (holding n most ridges m rows kept layout tables s g s1 counts a) counts
              counts_are x (omega (arith, facets_are n most ridges m rows kept layout tables s g s1 counts a))
              ∙ ap (λ (f : Facet). map share_code (shares_of (kept_table (rows_in n m rows) kept) f))
              (sym (facet_is x))))

          owners_are : words 2 (drop layout.owners s4) layout.facets
              ≡ map (λ (f : Facet). f.0) (all_facets (kept_table (rows_in n m rows) kept))
          unfolding owners_of
          owners_are =
              let k = g.keeps.fits in
              let e : owners_part layout s4 ≡ owners_part layout s = area_kept layout.end layout.owners layout.ridges
              s s4 (layout_kept n most ridges m rows kept layout tables s g s1 counts a s2 b s3 c s4 d)
              (omega (arith, k.owner_room)) (omega (arith, k.ridge_room, k.place_room)) in
              sym (words_take 2 (drop layout.owners s4) (layout.ridges - layout.owners) layout.facets
              (omega (arith, k.owner_room, g.keeps.few_facets)))
              ∙ (ap (λ (p : List ℕ). words 2 p layout.facets) e
              ∙ (g.keeps.owners ∙ ap (map (λ (f : Facet). f.0)) (sym (facets_same (rows_in n m rows) kept))))

          behind : (layout.owners + 2048 ≤ tables.touched) × (tables.touched ≤ tables.ones)
              × (tables.ones ≤ tables.frames)
          behind =
              let f = g.fits in
              let k = g.keeps.fits in (
                omega (arith, k.owner_room, k.ridge_room, k.place_room, f.before, f.number_room, f.share_room),
                omega (arith, f.touched_room),
                omega (arith, f.ones_room),
              )

          touched_area : areas.touched_part (areas_of layout tables (length counts)) (drop layout.owners s4)
              ≡ area tables.touched tables.ones s3
          unfolding areas_of
          touched_area =
              part_shift layout.owners tables.touched tables.ones s4 (omega (arith, behind.0)) behind.1
              ∙ area_kept tables.ones tables.touched tables.ones s3 s4 d.front behind.1 (omega arith)

          ones_area : areas.ones_part (areas_of layout tables (length counts)) (drop layout.owners s4)
              ≡ area tables.ones tables.frames s4
          unfolding areas_of
          ones_area =
              part_shift layout.owners tables.ones tables.frames s4
              (omega (arith, behind.0, behind.1)) behind.2

          search_fits : areas.AreasFit (areas_of layout tables (length counts)) (length (drop layout.owners s4))
          unfolding areas_of
          search_fits =
              let f = g.fits in
              let l = length-drop layout.owners s4 in
              let few = g.keeps.few_orbits in
              let many = g.keeps.few_facets in
              record {
                few_facets = omega arith;
                few_ridges = omega (arith, (known_few n most ridges m rows kept layout tables s g s1 counts a).1);
                few_orbits = omega arith;
                few_items = omega arith;
                few_lists = omega arith;
                orbit_room = omega (arith, behind.0);
                touched_room = omega (arith, behind.0, behind.1);
                ones_room = omega (arith, behind.0, behind.1, behind.2);
                frame_room = omega (arith, behind.0, behind.1, behind.2, f.frame_room);
                total_room = refl;
                used_room =
                    omega (
                      arith,
                      behind.0,
                      behind.1,
                      behind.2,
                      f.frame_room,
                      f.total_room,
                      (known_few n most ridges m rows kept layout tables s g s1 counts a).0,
                    );
                list_room = omega (arith, behind.0, behind.1, behind.2, f.frame_room, f.total_room, f.list_room);
                ends = omega (arith, f.ends, all_long);
              }

          -- the search's inputs
          pub inputs_are : Inputs (kept_table (rows_in n m rows) kept) (areas_of layout tables (length counts))
              (drop layout.owners s4)
          unfolding areas_of lists
          inputs_are = record {
            fits = search_fits;
            holds =
                tables_hold (kept_table (rows_in n m rows) kept) lists layout.facets same
                (areas_of layout tables (length counts)) (words 2 (drop layout.owners s4) layout.facets)
                (areas.touched_part (areas_of layout tables (length counts)) (drop layout.owners s4))
                (areas.ones_part (areas_of layout tables (length counts)) (drop layout.owners s4))
                (length (flat (lists_to (touched_of (length counts) lists) layout.facets)))
                (length (flat (lists_to (made.ones_of lists layout.facets) (length counts))))
                refl (facets_are n most ridges m rows kept layout tables s g s1 counts a
                ∙ sym (ap length (facets_same (rows_in n m rows) kept)))
                (known_is n most ridges m rows kept layout tables s g s1 counts a
                ∙ sym (ridges_same (rows_in n m rows) kept))
                (g.keeps.orbits ∙ sym (orbits_same (rows_in n m rows) kept)) owners_are (rw touched_area c.pool)
                (rw ones_area (rw
                (shares_kept n most ridges m rows kept layout tables s g s1 counts a s2 b s3 c) at d.pool));
          }
