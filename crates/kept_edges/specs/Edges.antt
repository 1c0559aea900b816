-- What is kept of an orbit of a call of rank 3: an edge between its set's first two vertices, each end a ridge of its
-- own or both one. Leans on Adding.
use Rattle.std.specs.Prelude.{◌≡◌, refl, Bool, true, false, cond, not, ℕ, ◌+◌, ◌*◌, ◌-◌, ◌≤◌, ◌<◌, min, max, length}
use Rattle.std.specs.Prelude.{get_or}
use Rattle.std.proofs.Common.{sym, ◌∙◌, arith}
use Rattle.std.proofs.Math.Path.{ap}
use mathlib.Core.List.{List, [], ◌∷◌, ◌++◌, map, zip_with}
use Rattle.std.specs.Prelude.{Option, None}
use Rattle.std.proofs.lemmas.List.{length-map}
use Rattle.definitions.specs.Lists.{Pair, count_from}
use Rattle.definitions.specs.Job.{number_at}
use Rattle.definitions.specs.Orbits.{Orbit}
use Rattle.definitions.specs.Figures.{rank_of, dyad, move_ends, components_of}
use Rattle.definitions.specs.Recursion.{Answer, Inner, vertex_ridge, swapped_ends, separate_ends}
use Rattle.definitions.specs.Faceting.{possible_facets}
use Rattle.laws.specs.Sets.{vertices_of}
use Rattle.words.specs.Words.{put}
use Rattle.labels.specs.Labels.{label_of}
use Rattle.rows.specs.Codes.{pair_code}
use Rattle.orbits.specs.Numbers.{orbit_of}
use Rattle.shapes.specs.Polygons.{edge_via, edge_pairs}
use Rattle.shapes.specs.Kept.{Kept, kept_of, ends_of}
use Rattle.layout.specs.declared.KeptLayout.{KeptLayout}
use Rattle.layout.specs.Keeps.{Keeps, Ridges, LayoutFits, places_of, edges_of, raised, ridge_code, ridge_codes}
use Rattle.layout.specs.Keeps.{labels_from, owners_of}
use Rattle.keep.specs.Short.{one_or_two}
use Rattle.keep.specs.Storing.{ListRoom, Stored}
use Rattle.keep.specs.AreasHold.{AreasHold, KeptWritten, within_both, edges_within, ridges_within, places_within}
use Rattle.keep.specs.AreasHold.{areas_hold_edges, areas_hold_ridges, areas_hold_places, areas_hold_facet, put_within}
use Rattle.keep.specs.Adding.{AreasHoldKept, areas_hold_with, with_facets, orbit_at, orbit_labels, labels_length}
use Rattle.keep.specs.Adding.{owners_length, areas_hold_more, kept_more}
use Rattle.keep.specs.Rooms.{RoomFor, room_edges, room_ridges, room_places, places_number, edges_number, codes_items}

-- the vertex at a position of an orbit's set
abbrev pub vertex_of : Orbit → ℕ → ℕ
vertex_of o p = get_or o.vertices p 0

-- [6.3] what a call of rank 2 answers: one orbit of two ends, or two of one
unfoldable pub edge_kept : Bool → Orbit → Kept
edge_kept swapped o = record {
  orbit = o;
  ends =
      cond swapped ((vertex_of o 0, vertex_of o 0) ∷ [])
      ((vertex_of o 0, vertex_of o 0) ∷ (vertex_of o 1, vertex_of o 1) ∷ []);
  counts = cond swapped (2 ∷ []) (1 ∷ 1 ∷ []);
  places = one_or_two (not swapped) 0 1 ∷ [];
  edges = ((vertex_of o 0, vertex_of o 1) ∷ []) ∷ [];
  compounds = [];
}

unfoldable pub edge_answer : Bool → ℕ → Answer
edge_answer swapped left = cond swapped (swapped_ends left) (separate_ends left)

twice : (v : ℕ) → ◌≡◌ {A = Pair} (min v v, max v v) (v, v)
twice v = let a : min v v ≡ v = omega arith in let b : max v v ≡ v = omega arith in λ t. (a t, b t)

pub edge_kept_holds : (swapped : Bool) (left : ℕ) (i : Inner) → i.answer ≡ edge_answer swapped left
    → kept_of i ≡ edge_kept swapped i.orbit
unfolding edge_answer edge_kept kept_of swapped_ends separate_ends possible_facets edge_pairs edge_via ends_of rank_of
    vertex_ridge dyad move_ends one_or_two
edge_kept_holds swapped left i e = ap (λ (a : Answer). kept_of (record { orbit = i.orbit; answer = a })) e ∙ go swapped
  where
    go : (b : Bool) → kept_of (record { orbit = i.orbit; answer = edge_answer b left }) ≡ edge_kept b i.orbit
    go true =
        ap (λ (p : Pair). record {
          orbit = i.orbit;
          ends = p ∷ [];
          counts = 2 ∷ [];
          places = (0 ∷ []) ∷ [];
          edges = ((vertex_of i.orbit 0, vertex_of i.orbit 1) ∷ []) ∷ [];
          compounds = [];
        }) (twice (vertex_of i.orbit 0))
    go false =
        let a = twice (vertex_of i.orbit 0) in
        let b = twice (vertex_of i.orbit 1) in
        λ t. record {
          orbit = i.orbit;
          ends = a t ∷ b t ∷ [];
          counts = 1 ∷ 1 ∷ [];
          places = (0 ∷ 1 ∷ []) ∷ [];
          edges = ((vertex_of i.orbit 0, vertex_of i.orbit 1) ∷ []) ∷ [];
          compounds = [];
        }

-- ---- as it is written

-- a vertex twice, as a ridge with a count
pub ridge_code_holds : (v count : ℕ) → ridge_code (v, v) count ≡ 21 * v + 65536 * count
unfolding ridge_code pair_code
ridge_code_holds v count = omega arith

pub edge_ridges : (swapped : Bool) (o : Orbit) (count : ℕ) → count ≡ cond swapped 2 1
    → ridge_codes (edge_kept swapped o)
    ≡ one_or_two (not swapped) (21 * vertex_of o 0 + 65536 * count) (21 * vertex_of o 1 + 65536 * count)
unfolding edge_kept ridge_codes one_or_two zip_with
edge_ridges swapped o count e = rw e (go swapped)
  where
    go : (b : Bool) → ridge_codes (edge_kept b o)
        ≡ one_or_two (not b) (21 * vertex_of o 0 + 65536 * cond b 2 1) (21 * vertex_of o 1 + 65536 * cond b 2 1)
    go true = let a = ridge_code_holds (vertex_of o 0) 2 in λ t. a t ∷ []
    go false =
        let a = ridge_code_holds (vertex_of o 0) 1 in
        let b = ridge_code_holds (vertex_of o 1) 1 in
        λ t. a t ∷ b t ∷ []

-- ---- stored

-- the ends of an edge as ridges
abbrev end_ridges : Bool → ℕ → ℕ → List ℕ
end_ridges swapped v w =
    one_or_two (not swapped) (21 * v + 65536 * cond swapped 2 1) (21 * w + 65536 * cond swapped 2 1)

-- t is s with the ends of an edge as ridges, and the edge's places among them
pub record EndsStored (layout : KeptLayout) (swapped : Bool) (v w : ℕ) (s t : List ℕ) : Type 0 where
  pub within : KeptWritten layout s t
  pub areas_hold : (edges : List (List ℕ)) (labels : List (Option Pair)) (owners : List ℕ)
      (ridges places : List (List ℕ))
      → AreasHold layout edges labels owners ridges places s
      → AreasHold layout edges labels owners (ridges ++ (end_ridges swapped v w ∷ []))
      (places ++ (one_or_two (not swapped) 0 1 ∷ [])) t

pub ends_stored : (layout : KeptLayout) (swapped : Bool) (v w : ℕ) (s t u : List ℕ) → LayoutFits layout (length s)
    → Stored 4 256 layout.ridges (layout.places - layout.ridges) s t (end_ridges swapped v w)
    → Stored 2 1024 layout.places (layout.end - layout.places) t u (one_or_two (not swapped) 0 1)
    → EndsStored layout swapped v w s u
ends_stored layout swapped v w s t u f r p =
    let now : LayoutFits layout (length t) = rw r.beside.long f in
    record {
      within = within_both layout (ridges_within f r) (places_within now p);
      areas_hold = λ edges labels owners ridges places k. areas_hold_places (areas_hold_ridges k r) p;
    }

-- what the areas hold with an edge more
abbrev WithEdge : KeptLayout → List Kept → Bool → ℕ → ℕ → List ℕ → Type 0
WithEdge layout kept swapped v w s =
    AreasHold layout (map (map pair_code) (edges_of kept) ++ (((20 * v + w) ∷ []) ∷ []))
    (labels_from 0 kept ++ (None ∷ [])) (owners_of kept ++ (length kept ∷ []))
    (map ridge_codes kept ++ (end_ridges swapped v w ∷ []))
    (places_of kept ++ (one_or_two (not swapped) 0 1 ∷ [])) s

edge_areas_hold : (layout : KeptLayout) (kept : List Kept) (swapped : Bool) (o : Orbit) (t : List ℕ)
    → WithEdge layout kept swapped (vertex_of o 0) (vertex_of o 1) t
    → AreasHoldKept layout (kept ++ (edge_kept swapped o ∷ [])) t
unfolding edge_kept orbit_labels components_of raised count_from pair_code
edge_areas_hold layout kept swapped o t areas_held =
    areas_hold_more kept (edge_kept swapped o) (rw (edge_ridges swapped o (cond swapped 2 1) refl) areas_held)

-- the steps of `keep_edge`: the ends, the edge, then label and owner
module _ (layout : KeptLayout) (swapped : Bool) (v w : ℕ) (s t u : List ℕ) (one : EndsStored layout swapped v w s t)
    (two : Stored 2 1024 layout.edges (layout.labels - layout.edges) t u ((20 * v + w) ∷ [])) where
  -- the label and the owner of the edge
  abbrev last : ℕ → List ℕ
  last owner = put 2 (put 4 u (layout.labels + 4 * layout.facets) 0) (layout.owners + 2 * layout.facets) owner

  module _ {n : ℕ} {kept : List Kept} (keeps : Keeps n layout kept s) (ridges : Ridges layout kept s)
      (few : layout.orbits < 256) (room : layout.facets + 1 ≤ 1024) where
    edge_listed : AreasHold layout (map (map pair_code) (edges_of kept) ++ (((20 * v + w) ∷ []) ∷ []))
        (labels_from 0 kept) (owners_of kept) (map ridge_codes kept ++ (end_ridges swapped v w ∷ []))
        (places_of kept ++ (one_or_two (not swapped) 0 1 ∷ [])) u
    edge_listed = areas_hold_edges (one.areas_hold _ _ _ _ _ (areas_hold_with keeps ridges)) two

    labels_there : length (labels_from 0 kept) ≡ layout.facets
    labels_there = labels_length kept ∙ sym keeps.facets

    owners_there : length (owners_of kept) ≡ layout.facets
    owners_there = owners_length kept ∙ sym keeps.facets

    edge_facet : WithEdge layout kept swapped v w (last layout.orbits)
    unfolding label_of
    edge_facet =
        let r = areas_hold_facet edge_listed layout.facets 0 layout.orbits labels_there owners_there (omega arith)
        (omega arith) (omega arith) in
        rw (← keeps.orbits) r

    pub edge_within : KeptWritten layout s (last layout.orbits)
    edge_within =
        let f : LayoutFits layout (length t) = rw one.within.long keeps.fits in
        let now : LayoutFits layout (length u) = rw two.beside.long f in
        within_both layout (within_both layout one.within (edges_within f two))
        (put_within layout u layout.facets 0 layout.orbits now (omega arith))

    -- one edge more is kept
    pub edge_more : (left : ℕ) (i : Inner) → v ≡ get_or (vertices_of n (number_at s (8 * layout.orbits) 4)) 0 0
        → w ≡ get_or (vertices_of n (number_at s (8 * layout.orbits) 4)) 1 0
        → i.orbit ≡ orbit_of n (orbit_at s layout.orbits) → i.answer ≡ edge_answer swapped left
        → Keeps n (with_facets layout 1) (kept ++ (kept_of i ∷ [])) (last layout.orbits)
        × Ridges (with_facets layout 1) (kept ++ (kept_of i ∷ [])) (last layout.orbits)
    unfolding edge_kept orbit_at orbit_of
    edge_more left i first second is-orbit answers =
        let a : v ≡ vertex_of i.orbit 0 = first ∙ ap (λ (o : Orbit). vertex_of o 0) (sym is-orbit) in
        let b : w ≡ vertex_of i.orbit 1 = second ∙ ap (λ (o : Orbit). vertex_of o 1) (sym is-orbit) in
        let areas_held : WithEdge layout kept swapped (vertex_of i.orbit 0) (vertex_of i.orbit 1)
        (last layout.orbits) = rw (← a, ← b) edge_facet in
        rw (edge_kept_holds swapped left i answers) (kept_more keeps (edge_kept swapped i.orbit) edge_within few room
        is-orbit (edge_areas_hold layout kept swapped i.orbit (last layout.orbits) areas_held))

-- room for each of them
module _ {n : ℕ} {layout : KeptLayout} {kept : List Kept} {s : List ℕ} (keeps : Keeps n layout kept s)
    (ridges : Ridges layout kept s) (room : RoomFor layout kept 1 1 2 2) where
  pub end_rooms : ListRoom 4 256 layout.ridges (layout.places - layout.ridges) s 2
      × ListRoom 2 1024 layout.places (layout.end - layout.places) s 2
  end_rooms =
      let areas_held = areas_hold_with keeps ridges in (
        room_ridges areas_held room.small 2
            (omega (arith, room.orbit_room, keeps.orbits, length-map kept ridge_codes)) room.ridge_room,
        room_places areas_held room.small 2
            (omega (arith, room.facet_room, keeps.facets, places_number kept)) room.place_room,
      )

  pub edge_room_holds : {swapped : Bool} {v w : ℕ} {t : List ℕ} → EndsStored layout swapped v w s t
      → ListRoom 2 1024 layout.edges (layout.labels - layout.edges) t 1
  edge_room_holds one =
      let areas_held = one.areas_hold _ _ _ _ _ (areas_hold_with keeps ridges) in
      room_edges areas_held room.small 1 (omega (arith, room.facet_room, keeps.facets, edges_number kept room.evenly))
      (rw (codes_items (edges_of kept)) room.edge_room)
