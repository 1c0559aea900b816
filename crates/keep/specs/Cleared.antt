-- A layout with nothing kept: its three pools emptied one after another. Leans on AreasHold and Storing.
use Rattle.std.specs.Prelude.{◌≡◌, refl, ℕ, ◌+◌, ◌-◌, ◌≤◌, length}
use Rattle.std.proofs.Common.{ap, ◌∙◌, inl, arith}
use mathlib.Core.List.{List, [], flat_map}
use Rattle.definitions.specs.Lists.{map_at}
use Rattle.laws.specs.Segments.{part, placed, part_length, part_placed}
use Rattle.words.specs.Words.{words, put_length}
use Rattle.pool.specs.Pool.{base, emptied}
use Rattle.pool.specs.Holds.{Holds, holds_none}
use Rattle.orbits.specs.Workspace.{orbits_in}
use Rattle.labels.specs.Labels.{labels_in}
use Rattle.layout.specs.declared.KeptLayout.{KeptLayout}
use Rattle.layout.specs.Keeps.{Keeps, Ridges, LayoutFits, facets_of, owners_of, places_of, edges_of, labels_from}
use Rattle.layout.specs.Keeps.{edges_part, ridges_part, places_part}
use Rattle.keep.specs.Storing.{Beside, beside_both, beside_wider, beside_part, beside_placed}
use Rattle.keep.specs.AreasHold.{KeptWritten}

emptied_length : (l : List ℕ) → length (emptied l) ≡ length l
unfolding emptied
emptied_length l = simp put_length

-- one pool is emptied
module _ (w most a n : ℕ) (s p : List ℕ) (inside : a + n ≤ length s) (room : base most ≤ n)
    (e : p ≡ emptied (part a n s)) where
  cleared_long : length p ≡ n
  cleared_long = ap length e ∙ (emptied_length (part a n s) ∙ part_length a n s inside)

  cleared_beside : Beside a n s (placed a n s p)
  cleared_beside = beside_placed a n s p inside cleared_long

  cleared_holds : Holds w most (part a n (placed a n s p)) [] [] 0
  cleared_holds =
      rw (part_placed a n s p (omega arith) cleared_long)
      (holds_none w most (part a n s) p e (omega (arith, part_length a n s inside)))

module _ (layout : KeptLayout) (s p q r : List ℕ) (f : LayoutFits layout (length s)) where
  abbrev s1 : List ℕ
  s1 = placed layout.edges (layout.labels - layout.edges) s p

  abbrev s2 : List ℕ
  s2 = placed layout.ridges (layout.places - layout.ridges) s1 q

  abbrev s3 : List ℕ
  s3 = placed layout.places (layout.end - layout.places) s2 r

  module _ (e1 : p ≡ emptied (edges_part layout s)) (e2 : q ≡ emptied (ridges_part layout s1))
      (e3 : r ≡ emptied (places_part layout s2)) where
    -- the areas in their order
    order : (layout.edges + base 1024 ≤ layout.labels) × (layout.labels ≤ layout.ridges)
        × (layout.ridges + base 256 ≤ layout.places) × (layout.places + base 1024 ≤ layout.end)
        × (layout.end ≤ length s)
    order = (f.edge_room, omega (arith, f.label_room, f.owner_room), f.ridge_room, f.place_room, f.ends)

    b1 : Beside layout.edges (layout.labels - layout.edges) s s1
    b1 =
        let o = order in
        cleared_beside 2 1024 layout.edges (layout.labels - layout.edges) s p (omega (arith, o.0, o.1, o.2, o.3, o.4))
        (omega (arith, o.0)) e1

    b2 : Beside layout.ridges (layout.places - layout.ridges) s1 s2
    b2 =
        let o = order in
        cleared_beside 4 256 layout.ridges (layout.places - layout.ridges) s1 q
        (omega (arith, o.2, o.3, o.4, b1.long)) (omega (arith, o.2)) e2

    b3 : Beside layout.places (layout.end - layout.places) s2 s3
    b3 =
        let o = order in
        cleared_beside 2 1024 layout.places (layout.end - layout.places) s2 r
        (omega (arith, o.3, o.4, b1.long, b2.long)) (omega (arith, o.3)) e3

    pub cleared_within : KeptWritten layout s s3
    cleared_within =
        let o = order in
        let w1 : KeptWritten layout s s1 = beside_wider b1 (omega arith) (omega (arith, o.0, o.1, o.2, o.3)) in
        let w2 : KeptWritten layout s s2 =
        beside_both w1 b2 (omega (arith, o.0, o.1)) (omega (arith, o.0, o.1, o.2, o.3)) in
        beside_both w2 b3 (omega (arith, o.0, o.1, o.2)) (omega (arith, o.0, o.1, o.2, o.3))

    edges_none : Holds 2 1024 (edges_part layout s3) [] [] 0
    edges_none =
        let o = order in
        let h = cleared_holds 2 1024 layout.edges (layout.labels - layout.edges) s p
        (omega (arith, o.0, o.1, o.2, o.3, o.4)) (omega (arith, o.0)) e1 in
        let same : edges_part layout s3 ≡ edges_part layout s1 =
        beside_part b3 layout.edges (layout.labels - layout.edges) (inl (omega (arith, o.0, o.1, o.2)))
        ∙ beside_part b2 layout.edges (layout.labels - layout.edges) (inl (omega (arith, o.0, o.1))) in
        rw same h

    ridges_none : Holds 4 256 (ridges_part layout s3) [] [] 0
    ridges_none =
        let o = order in
        let h = cleared_holds 4 256 layout.ridges (layout.places - layout.ridges) s1 q
        (omega (arith, o.2, o.3, o.4, b1.long)) (omega (arith, o.2)) e2 in
        rw (beside_part b3 layout.ridges (layout.places - layout.ridges) (inl (omega (arith, o.2)))) h

    places_none : Holds 2 1024 (places_part layout s3) [] [] 0
    places_none =
        let o = order in
        cleared_holds 2 1024 layout.places (layout.end - layout.places) s2 r
        (omega (arith, o.3, o.4, b1.long, b2.long)) (omega (arith, o.3)) e3

    pub cleared_keeps : (n : ℕ) → layout.orbits ≡ 0 → layout.facets ≡ 0 → Keeps n layout [] s3 × Ridges layout [] s3
    unfolding facets_of owners_of places_of edges_of labels_from labels_in words orbits_in flat_map map_at
    cleared_keeps n o x = (
      record {
        fits = rw cleared_within.long f;
        orbits = o;
        facets = x;
        few_orbits = omega arith;
        few_facets = omega arith;
        sets = rw o refl;
        edges = edges_none;
        labels = rw x refl;
        owners = rw x refl;
      },
      record { ridges = ridges_none; places = places_none },
    )
