-- One orbit more of a call of rank 4, whole: its ridges and its facets stored, it keeps what `kept_of` says. Leans on
-- Polygons, Labels and Facets.
use Rattle.std.specs.Prelude.{◌≡◌, ℕ, ◌+◌, ◌*◌, ◌-◌, ◌/◌, ◌%◌, ◌≤◌, ◌<◌, length, drop}
use Rattle.std.proofs.Math.Path.{refl, sym, ap}
use Rattle.std.proofs.Common.{◌∙◌}
use mathlib.Core.List.{List, [], ◌∷◌, ◌++◌, map, zip_with}
use native.Mathlib.Omega.{arith}
use Rattle.std.proofs.Math.ListN.{get_or}
use Rattle.definitions.specs.Job.{number_at}
use Rattle.definitions.specs.Orbits.{Orbit}
use Rattle.definitions.specs.Recursion.{Answer, Inner}
use Rattle.laws.specs.Lists.{Mem, here, there}
use Rattle.laws.specs.Places.{map_same}
use Rattle.laws.specs.Sets.{vertices_of}
use Rattle.rows.specs.Rows.{rows_in}
use Rattle.rows.specs.Codes.{pair_code}
use Rattle.orbits.specs.Numbers.{orbit_of}
use Rattle.order.specs.Areas.{lists_length}
use Rattle.shapes.specs.Polygons.{ends_via}
use Rattle.shapes.specs.Kept.{Kept, kept_of}
use Rattle.layout.specs.declared.KeptLayout.{KeptLayout}
use Rattle.layout.specs.declared.Level.{Level}
use Rattle.layout.specs.Keeps.{Keeps, Ridges, joined, facets_of, edges_of, places_of, owners_of, labels_from}
use Rattle.layout.specs.Keeps.{ridge_code, ridge_codes, raised}
use Rattle.layout.specs.Leaves.{answer_left, lists_left}
use Rattle.keep.specs.Storing.{Stored}
use Rattle.keep.specs.AreasHold.{AreasHold, KeptWritten, within_both, ridges_within, areas_hold_ridges}
use Rattle.keep.specs.Adding.{AreasHoldKept, areas_hold_with, areas_hold_more, kept_more, with_facets, orbit_at}
use Rattle.keep.specs.Adding.{orbit_labels, labels_length, owners_length}
use Rattle.keep.specs.Rooms.{RoomFor, places_number, edges_number, codes_items}
use Rattle.kept_polygons.specs.Labels.{labels_raised}
use Rattle.sets.specs.Vertices.{vertex_below, vertex_rises}
use Rattle.left_edges.specs.Polygons.{edge_in, OneEdge, EdgesLeft, entry_edges, polygon_kept, polygon_kept_holds}
use Rattle.left_edges.specs.Reading.{moved_code, HasVertex, ridges_moved, lists_below}
use Rattle.left_edges.proofs.Reading.{entry_codes}
use Rattle.kept_polygons.specs.Facets.{Source, FacetsStored, FacetsRoom, codes_of, labels_left, labels_long, all_codes}
use Rattle.kept_polygons.specs.Facets.{all_labels, all_lists, source_kept, behind_same}

-- the vertices of the next orbit's set
abbrev pub next_vertices : ℕ → KeptLayout → List ℕ → List ℕ
next_vertices n layout s = vertices_of n (number_at s (8 * layout.orbits) 4)

-- the vertex at a position
abbrev pub vertex_in : List ℕ → ℕ → ℕ
vertex_in vertices p = get_or vertices p 0

-- the next orbit's inner call, of rank 3 on the set's points, has left its answer from a place on
abbrev pub InnerLeft : ℕ → KeptLayout → ℕ → ℕ → List Kept → Level → List ℕ → List ℕ → Type 0
InnerLeft n layout at m inner level rows s =
    EdgesLeft (length (next_vertices n layout s)) m inner level rows (drop at s)

-- the answer
abbrev pub inner_answer : ℕ → KeptLayout → ℕ → ℕ → List Kept → Level → List ℕ → List ℕ → ℕ → Answer
inner_answer n layout at m inner level rows s left =
    answer_left 0 (length (next_vertices n layout s)) (rows_in (length (next_vertices n layout s)) m rows) inner level
    (drop at s) left

-- room for its entries as facets: their edges, one ridge for each of its orbits, their places
abbrev pub PolygonRoom : ℕ → KeptLayout → ℕ → ℕ → List Kept → List Kept → Level → List ℕ → List ℕ → Type 0
PolygonRoom n layout at m kept inner level rows s =
    RoomFor layout kept level.count (length (joined (map (entry_edges (vertex_in (next_vertices n layout s))
    (rows_in (length (next_vertices n layout s)) m rows) inner) (lists_left level (drop at s)))))
    (length inner) (length (joined (lists_left level (drop at s))))

-- ---- the ridges

ridges_zipped : (to : ℕ → ℕ) (inner : List Kept) → zip_with ridge_code
    (map (λ (k : Kept). ends_via to (edge_in k)) inner) (map (λ (k : Kept). k.orbit.count) inner)
    ≡ map (λ (k : Kept). ridge_code (ends_via to (edge_in k)) k.orbit.count) inner
unfolding zip_with
ridges_zipped to [] = refl
ridges_zipped to (k ∷ inner) =
    ap (λ (l : List ℕ). ridge_code (ends_via to (edge_in k)) k.orbit.count ∷ l) (ridges_zipped to inner)

module _ (N : ℕ) (inner : List Kept) (each : (k : Kept) → Mem k inner → OneEdge N k) (to : ℕ → ℕ) (vertices : List ℕ)
    (same : (p : ℕ) → p < N → get_or vertices p 0 ≡ to p) (few : N ≤ 20) where
  ridge_same : (k : Kept) → OneEdge N k → ridge_code (ends_via to (edge_in k)) k.orbit.count
      ≡ moved_code vertices (pair_code (edge_in k)) + 65536 * k.orbit.count
  unfolding ridge_code pair_code ends_via
  ridge_same k one =
      let e = edge_in k in
      let r = one.proper.rises in
      let b = one.proper.below in
      let p : (20 * e.0 + e.1) / 20 ≡ e.0 = omega arith in
      let q : (20 * e.0 + e.1) % 20 ≡ e.1 = omega arith in
      rw (p, q, same e.0 (omega arith), same e.1 b) refl

  pub ridges_moved_holds : zip_with ridge_code (map (λ (k : Kept). ends_via to (edge_in k)) inner)
      (map (λ (k : Kept). k.orbit.count) inner) ≡ ridges_moved vertices inner
  unfolding ridges_moved
  ridges_moved_holds =
      ridges_zipped to inner
      ∙ map_same (λ (k : Kept). ridge_code (ends_via to (edge_in k)) k.orbit.count) (λ (k : Kept).
      moved_code vertices (pair_code (edge_in k)) + 65536 * k.orbit.count) inner (λ k m. ridge_same k (each k m))

-- ---- the steps of `keep_polygons`: the ridges, then the facets

module _ (n : ℕ) (layout : KeptLayout) (m : ℕ) (inner : List Kept) (level : Level) (rows : List ℕ) (at : ℕ)
    (s : List ℕ) (vs : List ℕ) (holds : vs ≡ next_vertices n layout s) (fits : n ≤ 20)
    (left : EdgesLeft (length (next_vertices n layout s)) m inner level rows (drop at s)) (inside : at ≤ length s)
    (behind : layout.end ≤ at) where
  abbrev N : ℕ
  N = length (next_vertices n layout s)

  abbrev to : ℕ → ℕ
  to = vertex_in (next_vertices n layout s)

  pub vertex_same : (p : ℕ) → p < N → get_or vs p 0 ≡ to p
  vertex_same p h = ap (λ (l : List ℕ). get_or l p 0) holds

  pub vertex_small : (p : ℕ) → p < N → HasVertex vs p
  vertex_small p h = omega (arith, vertex_same p h, vertex_below n (number_at s (8 * layout.orbits) 4) p h)

  pub source_here : Source N m inner level rows at vs s
  source_here = record { left = left; inside = inside; small = vertex_small }

  -- each entry's edges, as codes
  codes_are : map (map pair_code) (map (entry_edges to (rows_in N m rows) inner) (lists_left level (drop at s)))
      ≡ all_codes layout N m inner level rows at vs s
  unfolding codes_of
  codes_are = twice (lists_left level (drop at s)) (λ l i. i)
    where
      twice : (ls : List (List ℕ)) → ((l : List ℕ) → Mem l ls → Mem l (lists_left level (drop at s)))
          → map (map pair_code) (map (entry_edges to (rows_in N m rows) inner) ls)
          ≡ map (codes_of N m rows inner vs) ls
      twice [] h = refl
      twice (l ∷ ls) h =
          let one = entry_codes N m rows inner l left.rows_fit left.each
          (lists_below left l (h l (here refl))) vs to vertex_same in
          let more = twice ls (λ x i. h x (there i)) in
          λ t. one t ∷ more t

  module _ {kept : List Kept} (keeps : Keeps n layout kept s) (ridges : Ridges layout kept s) where
    order : layout.edges ≤ layout.end
    order = let f = keeps.fits in omega (arith, f.edge_room, f.label_room, f.owner_room, f.ridge_room, f.place_room)

    module _ {t : List ℕ}
        (one : Stored 4 256 layout.ridges (layout.places - layout.ridges) s t (ridges_moved vs inner)) where
      pub ridges_near : KeptWritten layout s t
      ridges_near = ridges_within keeps.fits one

      ridges_areas_hold : AreasHold layout (map (map pair_code) (edges_of kept)) (labels_from 0 kept) (owners_of kept)
          (map ridge_codes kept ++ (ridges_moved vs inner ∷ [])) (places_of kept) t
      ridges_areas_hold = areas_hold_ridges (areas_hold_with keeps ridges) one

      tail : drop at t ≡ drop at s
      tail = behind_same layout at order behind ridges_near

      pub source_then : Source N m inner level rows at vs t
      source_then = source_kept layout order behind ridges_near source_here

      labels_there : length (labels_from 0 kept) ≡ layout.facets
      labels_there = labels_length kept ∙ sym keeps.facets

      owners_there : length (owners_of kept) ≡ layout.facets
      owners_there = owners_length kept ∙ sym keeps.facets

      -- room for the facets
      pub facets_room : {r : ℕ} → RoomFor layout kept level.count
          (length (joined (map (entry_edges to (rows_in N m rows) inner) (lists_left level (drop at s))))) r
          (length (joined (lists_left level (drop at s)))) → FacetsRoom layout N m inner level rows at vs t
      facets_room room =
          let items : length (joined (all_codes layout N m inner level rows at vs s))
          ≡ length (joined (map (entry_edges to (rows_in N m rows) inner) (lists_left level (drop at s)))) =
          ap (λ (l : List (List ℕ)). length (joined l)) (sym codes_are)
          ∙ codes_items (map (entry_edges to (rows_in N m rows) inner) (lists_left level (drop at s))) in
          record {
            edges = map (map pair_code) (edges_of kept);
            labels = labels_from 0 kept;
            owners = owners_of kept;
            ridges = map ridge_codes kept ++ (ridges_moved vs inner ∷ []);
            places = places_of kept;
            areas_held = ridges_areas_hold;
            small = room.small;
            labelled = labels_there;
            owned = owners_there;
            few_edges = omega (arith, edges_number kept room.evenly, keeps.facets, room.facet_room);
            few_places = omega (arith, places_number kept, keeps.facets, room.facet_room);
            edge_room = rw tail (omega (arith, items, codes_items (edges_of kept), room.edge_room));
            place_room = rw tail room.place_room;
          }

      module _ {u : List ℕ}
          (two : FacetsStored layout level.count (all_codes layout N m inner level rows at vs t)
          (all_labels layout N m inner level rows at vs t)
          (all_lists layout N m inner level rows at vs t) t u) where
        pub polygons_within : KeptWritten layout s u
        polygons_within = within_both layout ridges_near two.within

        -- what is kept of the orbit
        abbrev k : Orbit → Kept
        k o = polygon_kept o (rows_in N m rows) inner (lists_left level (drop at s)) (labels_left level at s)

        lists_long : length (lists_left level (drop at s)) ≡ level.count
        lists_long = lists_length 1024 level.bytes level.count (drop level.lists (drop at s))

        polygons_areas_hold : (o : Orbit) → o.vertices ≡ next_vertices n layout s
            → AreasHoldKept layout (kept ++ (k o ∷ [])) u
        unfolding polygon_kept ridge_codes
        polygons_areas_hold o e =
            let areas_held = rw tail at (two.areas_hold _ _ _ _ _ ridges_areas_hold labels_there owners_there) in
            let r : ridge_codes (k o) ≡ ridges_moved vs inner =
            ap (λ (l : List ℕ). zip_with ridge_code (map (λ (g : Kept). ends_via (vertex_in l) (edge_in g)) inner)
            (map (λ (g : Kept). g.orbit.count) inner)) e
            ∙ ridges_moved_holds N inner left.each to vs vertex_same left.rows_fit.n_fits in
            let c : map (map pair_code) (k o).edges ≡ all_codes layout N m inner level rows at vs s =
            ap (λ (l : List ℕ). map (map pair_code)
            (map (entry_edges (vertex_in l) (rows_in N m rows) inner) (lists_left level (drop at s)))) e
            ∙ codes_are in
            let b : orbit_labels (length (facets_of kept)) (k o) ≡ all_labels layout N m inner level rows at vs s =
            labels_raised (length (facets_of kept)) (k o) (labels_left level at s) refl
            (lists_long ∙ sym (labels_long layout N m inner level rows at vs s))
            ∙ ap (λ (first : ℕ). map (raised first) (labels_left level at s)) (sym keeps.facets) in
            areas_hold_more kept (k o) (rw (r, c, b, lists_long, ← keeps.orbits) areas_held)

        -- one orbit more is kept
        pub polygons_more : (room : layout.facets + level.count ≤ 1024) → layout.orbits < 256
            → (left_over : ℕ) (i : Inner) → i.orbit ≡ orbit_of n (orbit_at s layout.orbits)
            → i.answer ≡ answer_left 0 N (rows_in N m rows) inner level (drop at s) left_over
            → Keeps n (with_facets layout level.count) (kept ++ (kept_of i ∷ [])) u
            × Ridges (with_facets layout level.count) (kept ++ (kept_of i ∷ [])) u
        unfolding orbit_of orbit_at polygon_kept
        polygons_more room few left_over i is-orbit answers =
            let v : i.orbit.vertices ≡ next_vertices n layout s = ap (λ (o : Orbit). o.vertices) is-orbit in
            let rises : (x y : ℕ) → x < y → y < N → get_or i.orbit.vertices x 0 < get_or i.orbit.vertices y 0 =
            λ x y h j. rw v (vertex_rises n (number_at s (8 * layout.orbits) 4) x y h j) in
            let e = polygon_kept_holds N (rows_in N m rows) inner level
            (drop at s) left_over i answers left.each rises (lists_below left) in
            let done = kept_more keeps (k i.orbit) polygons_within few (rw lists_long room) is-orbit
            (polygons_areas_hold i.orbit v) in
            rw e (rw lists_long at done)
