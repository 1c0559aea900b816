-- Theorems on the definitions of specs/KeptAnswer.
use Rattle.std.specs.Prelude.{◌≡◌, refl, length, get_or}
use Rattle.std.proofs.Math.Path.{sym}
use Rattle.std.proofs.Common.{ap, ◌∙◌, subst, arith}
use mathlib.Core.List.{List, [], ◌∷◌, map, flat_map, map-map, append-nil}
use Prim.Native.Nat.{ℕ, zero, suc, ◌≤◌, ◌<◌}
use Rattle.std.proofs.lemmas.List.{length-map}
use Rattle.definitions.specs.Lists.{Pair, compare_pair, sort_by}
use Rattle.definitions.specs.Outcome.{answered}
use Rattle.definitions.specs.Vectors.{Vec}
use Rattle.definitions.specs.Subspace.{Subspace}
use Rattle.definitions.specs.Orbits.{Row, pair_image}
use Rattle.definitions.specs.Figures.{Figure, parts_of, label_irc}
use Rattle.definitions.specs.Search.{Facet, Found}
use Rattle.definitions.specs.Recursion.{Rules, Entry, Answer, Inner}
use Rattle.definitions.specs.Faceting.{Prepared, possible_facets, split_in, at_orbit, split, entry_of, entries_of}
use Rattle.definitions.specs.Faceting.{compare_entries, search_from, finish, faceting}
use Rattle.laws.specs.Lists.{Mem, in_map, of_map, in_flat_map, of_flat_map, flat_map_same}
use Rattle.laws.specs.Orders.{pairs}
use Rattle.laws.specs.Ascending.{SameItems, in_in_order, of_in_order, in_order_same}
use Rattle.laws.specs.Places.{map_same, map_self}
use Rattle.shapes.specs.Answered.{Preparation, AnsweredCall}
use Rattle.shapes.specs.Edges.{edge_figure}
use Rattle.shapes.specs.LowRanks.{inner_at, at_orbit_holds}
use Rattle.shapes.specs.Calls.{Given}
use Rattle.shapes.specs.EdgeSets.{edges_in_order, polygons_in_order, polygon, polyhedron}
use Rattle.shapes.specs.Polygons.{edge_via, edge_pairs, polygon_edges}
use Rattle.shapes.specs.Nested.{move_nested}
use Rattle.shapes.specs.NestedCalls.{entry_points, facet_element, nested_images, nested_facets}
use Rattle.shapes.proofs.NestedCalls.{found_split_in_call, facet_nested, possible_nested, list_nested}
use Rattle.shapes.specs.EntryFigures.{edge_nested, polygon_nested, polygon_images, polygons_of_list}
use Rattle.shapes.proofs.EntryFigures.{possible_polygon, rank_four_figure}
use Rattle.shapes.specs.Kept.{Kept, kept_of, kept_at, kept_possible, kept_parts, kept_edge_images, kept_polygons}
use Rattle.shapes.specs.Kept.{kept_figure, kept_entry, kept_answer}
use Rattle.shapes.specs.KeptSizes.{edge_alone}
use Rattle.shapes.specs.KeptAnswer.{found_in_orbits, kept_at_holds, kept_edges, kept_of_orbit}

-- ---- split lists

same_items : (entries : List Entry) (facet : ℕ)
    → length (get_or (map (λ (e : Entry). map (λ (place : Pair). place.0) e.list) entries) facet [])
    ≡ length (get_or (map (λ (e : Entry). e.list) entries) facet [])
same_items [] facet = refl
same_items (e ∷ entries) zero = length-map e.list (λ (place : Pair). place.0)
same_items (e ∷ entries) (suc facet) = same_items entries facet

parts_kept : (p : Prepared) (f : Facet) → f.0 < length p.inner
    → kept_parts (map kept_of p.inner) f ≡ at_orbit (λ (i : Inner). split_in i f) p.inner f.0
unfolding kept_parts split_in kept_of
parts_kept p f h =
    let own = inner_at p.inner f.0 in
    let compounds : get_or (map (λ (k : Kept). k.compounds) (map kept_of p.inner)) f.0 []
    ≡ own.answer.compounds = kept_of_orbit (λ (k : Kept). k.compounds) p.inner f.0 h in
    let items : length (kept_at (λ (k : Kept). k.places) (map kept_of p.inner) f)
    ≡ length (get_or (map (λ (e : Entry). e.list) own.answer.entries) f.1 []) =
    ap length (kept_at_holds (λ (k : Kept). k.places) p.inner f h) ∙ same_items own.answer.entries f.1 in
    (λ t. map (λ (part : ℕ). (f.0, part)) (parts_of (compounds t) (items t) f.1))
    ∙ sym (at_orbit_holds (λ (i : Inner). split_in i f) p.inner f.0 h)

-- a list of facets of the call's orbits
pub kept_split : (p : Prepared) (list : List Facet) → ((f : Facet) → Mem f list → f.0 < length p.inner)
    → flat_map (kept_parts (map kept_of p.inner)) list ≡ split p list
unfolding split
kept_split p list h =
    flat_map_same (kept_parts (map kept_of p.inner))
    (λ (f : Facet). at_orbit (λ (i : Inner). split_in i f) p.inner f.0) list (λ f m. parts_kept p f (h f m))

-- ---- figures

three_figure : (rules : Rules) (plane : Subspace) (points : List Vec) (rows : List Row) (p : Prepared)
    → Given points rows → (made : Preparation 0 rules (faceting 0 rules) plane points rows p)
    → (found : Found) → search_from rules p ≡ answered found → (l : List Facet) → Mem l found.lists
    → (entry_of p l).figure ≡ kept_figure 0 (length points) rows (map kept_of p.inner) (split p l)
unfolding kept_figure nested_facets nested_images kept_edge_images move_nested pair_image edge_via flat_map entry_points
three_figure rules plane points rows p given made found is_found_holds l m =
    let kept = map kept_of p.inner in
    let parts = split p l in
    let inside = found_split_in_call 0 rules plane points rows p given made found is_found_holds l m in
    let alone : (f : Facet) → Mem f parts → facet_element 0 p f ∷ [] ≡ kept_at (λ (k : Kept). k.edges) kept f = λ f i.
    sym (kept_edges p f ∙ ap edge_pairs ((facet_nested 0 rules plane points rows p given made f (inside f i)).0
    ∙ edge_nested (facet_element 0 p f)) ∙ edge_alone (facet_element 0 p f)) in
    let images : (f : Facet) → Mem f parts → nested_images 0 p f ≡ kept_edge_images p.rows kept f = λ f i.
    sym (append-nil (map (pair_image (facet_element 0 p f)) p.rows))
    ∙ ap (flat_map (λ (e : Pair). map (pair_image e) p.rows)) (alone f i) in
    (list_nested 0 rules plane points rows p given made found is_found_holds l m).0
    ∙ polygon_nested p.points (nested_facets 0 p parts)
    ∙ ap (λ (es : List Pair). polygon p.points (edges_in_order es))
    (flat_map_same (nested_images 0 p) (kept_edge_images p.rows kept) parts images)
    ∙ (λ t. polygon (made.points_are t) (edges_in_order (flat_map (kept_edge_images (made.rows_are t) kept) parts)))

-- all row images of a facet's edges are the edges of all row images of its edge set
same_edges : (rows : List Row) (kept : List Kept) (parts : List Facet)
    → SameItems (flat_map (λ (s : List Pair). s) (flat_map (kept_polygons rows kept) parts))
    (flat_map (kept_edge_images rows kept) parts)
unfolding kept_polygons kept_edge_images
same_edges rows kept parts = record {
  into = λ e m.
      let r = of_flat_map (λ (s : List Pair). s) e (flat_map (kept_polygons rows kept) parts) m in
      let q = of_flat_map (kept_polygons rows kept) r.0 parts r.1 in
      let edges = kept_at (λ (k : Kept). k.edges) kept q.0 in
      let w = of_map (λ (row : Row). edges_in_order (map (λ (d : Pair). pair_image d row) edges)) r.0 rows q.2 in
      let images = map (λ (d : Pair). pair_image d w.0) edges in
      let d = of_map (λ (d : Pair). pair_image d w.0) e edges
      (of_in_order compare_pair pairs e images (subst (λ (s : List Pair). Mem e s) w.2 r.2)) in
      in_flat_map (kept_edge_images rows kept) e q.0 parts q.1
      (in_flat_map (λ (x : Pair). map (pair_image x) rows) e d.0 edges d.1
      (subst (λ (x : Pair). Mem x (map (pair_image d.0) rows)) (sym d.2) (in_map (pair_image d.0) w.0 rows w.1)));
  back = λ e m.
      let q = of_flat_map (kept_edge_images rows kept) e parts m in
      let edges = kept_at (λ (k : Kept). k.edges) kept q.0 in
      let d = of_flat_map (λ (x : Pair). map (pair_image x) rows) e edges q.2 in
      let w = of_map (pair_image d.0) e rows d.2 in
      let images = map (λ (x : Pair). pair_image x w.0) edges in
      let own : Mem e images =
      subst (λ (x : Pair). Mem x images) (sym w.2) (in_map (λ (x : Pair). pair_image x w.0) d.0 edges d.1) in
      in_flat_map (λ (s : List Pair). s) e (edges_in_order images) (flat_map (kept_polygons rows kept) parts)
      (in_flat_map (kept_polygons rows kept) (edges_in_order images) q.0 parts q.1
      (in_map (λ (row : Row). edges_in_order (map (λ (x : Pair). pair_image x row) edges)) w.0 rows w.1))
      (in_in_order compare_pair pairs e images own);
}

polygons_kept : (p : Prepared) (l : List Facet)
    → polygons_of_list p l ≡ flat_map (kept_polygons p.rows (map kept_of p.inner)) (split p l)
unfolding polygons_of_list polygon_images kept_polygons
polygons_kept p l =
    flat_map_same (polygon_images p) (kept_polygons p.rows (map kept_of p.inner)) (split p l)
    (λ f m. ap (λ (edges : List Pair). map
    (λ (row : Row). edges_in_order (map (λ (e : Pair). pair_image e row) edges)) p.rows) (sym (kept_edges p f)))

four_figure : (rules : Rules) (plane : Subspace) (points : List Vec) (rows : List Row) (p : Prepared)
    → Given points rows → (made : Preparation 1 rules (faceting 1 rules) plane points rows p)
    → (found : Found) → search_from rules p ≡ answered found → (l : List Facet) → Mem l found.lists
    → (entry_of p l).figure ≡ kept_figure 1 (length points) rows (map kept_of p.inner) (split p l)
unfolding kept_figure
four_figure rules plane points rows p given made found is_found_holds l m =
    let kept = map kept_of p.inner in
    let parts = split p l in
    rank_four_figure rules plane points rows p given made found is_found_holds l m
    ∙ ap (λ (sets : List (List Pair)). polyhedron p.points (edges_in_order (flat_map (λ (s : List Pair). s) sets))
    (polygons_in_order sets)) (polygons_kept p l)
    ∙ ap (λ (edges : List Pair).
    polyhedron p.points edges (polygons_in_order (flat_map (kept_polygons p.rows kept) parts)))
    (in_order_same compare_pair pairs (flat_map (λ (s : List Pair). s) (flat_map (kept_polygons p.rows kept) parts))
    (flat_map (kept_edge_images p.rows kept) parts) (same_edges p.rows kept parts))
    ∙ (λ t. polyhedron (made.points_are t) (edges_in_order (flat_map (kept_edge_images (made.rows_are t) kept) parts))
    (polygons_in_order (flat_map (kept_polygons (made.rows_are t) kept) parts)))

-- ---- possible facets

three_possible : (rules : Rules) (plane : Subspace) (points : List Vec) (rows : List Row) (p : Prepared)
    → Given points rows → Preparation 0 rules (faceting 0 rules) plane points rows p
    → (i : Inner) → Mem i p.inner → possible_facets i ≡ kept_possible 0 (kept_of i)
unfolding kept_possible kept_of entry_points
three_possible rules plane points rows p given made i m =
    let first : List Pair → Figure = λ edges. edge_figure (get_or edges 0 (0, 0)) in
    sym (map-map first edge_pairs (possible_facets i)
    ∙ map_self (λ (f : Figure). first (edge_pairs f)) (possible_facets i)
    (λ f k.
    let r = possible_nested 0 rules plane points rows p given made i m f k in
    let is : f ≡ edge_figure r.0 = r.1 ∙ edge_nested r.0 in
    ap (λ (g : Figure). first (edge_pairs g)) is ∙ ap first (edge_alone r.0) ∙ sym is))

four_possible : (rules : Rules) (plane : Subspace) (points : List Vec) (rows : List Row) (p : Prepared)
    → Given points rows → Preparation 1 rules (faceting 1 rules) plane points rows p
    → (i : Inner) → Mem i p.inner → possible_facets i ≡ kept_possible 1 (kept_of i)
unfolding kept_possible kept_of
four_possible rules plane points rows p given made i m =
    let size = length i.orbit.vertices in
    sym (map-map (polygon size) edge_pairs (possible_facets i)
    ∙ map_self (λ (f : Figure). polygon size (edge_pairs f)) (possible_facets i)
    (λ f k. let r = possible_polygon rules plane points rows p given made i m f k in
    ap (λ (g : Figure). polygon size (edge_pairs g)) r.1 ∙ ap (polygon size) (polygon_edges size r.0) ∙ sym r.1))

-- ---- the answer

module _ (more : ℕ) (rules : Rules) (plane : Subspace) (points : List Vec) (rows : List Row) (few : more ≤ 1)
    (given : Given points rows) where
  -- an entry, from a list found
  pub kept_entry_holds : (p : Prepared) → Preparation more rules (faceting more rules) plane points rows p
      → (found : Found) → search_from rules p ≡ answered found
      → (l : List Facet) → Mem l found.lists
      → entry_of p l ≡ kept_entry more (length points) rows (map kept_of p.inner) l
  unfolding entry_of kept_entry
  kept_entry_holds p made found is_found_holds l m =
      let kept = map kept_of p.inner in
      let figure = at_rank more few made in
      let parts = sym (kept_split p l (found_in_orbits rules p found is_found_holds l m)) in
      (λ t. record { list = split p l; before = l; figure = figure t })
      ∙ (λ t. record { list = parts t; before = l; figure = kept_figure more (length points) rows kept (parts t) })
    where
      at_rank : (more : ℕ) → more ≤ 1 → Preparation more rules (faceting more rules) plane points rows p
          → (entry_of p l).figure ≡ kept_figure more (length points) rows (map kept_of p.inner) (split p l)
      at_rank zero few made = three_figure rules plane points rows p given made found is_found_holds l m
      at_rank (suc zero) few made = four_figure rules plane points rows p given made found is_found_holds l m
      at_rank (suc (suc more)) few made = absurd (omega arith)

  pub kept_possible_holds : (p : Prepared) → Preparation more rules (faceting more rules) plane points rows p
      → (i : Inner) → Mem i p.inner → possible_facets i ≡ kept_possible more (kept_of i)
  kept_possible_holds p made i m = at_rank more few made
    where
      at_rank : (more : ℕ) → more ≤ 1 → Preparation more rules (faceting more rules) plane points rows p
          → possible_facets i ≡ kept_possible more (kept_of i)
      at_rank zero few made = three_possible rules plane points rows p given made i m
      at_rank (suc zero) few made = four_possible rules plane points rows p given made i m
      at_rank (suc (suc more)) few made = absurd (omega arith)

  -- the answer, once the search has ended
  pub kept_finish : (p : Prepared) → Preparation more rules (faceting more rules) plane points rows p
      → (found : Found) → search_from rules p ≡ answered found
      → finish p found ≡ kept_answer more (length points) rows (map kept_of p.inner) found
  unfolding finish entries_of kept_answer kept_of
  kept_finish p made found is_found_holds =
      let counts = sym (map-map (λ (k : Kept). k.orbit.count) kept_of p.inner) in
      let entries = map_same (entry_of p) (kept_entry more (length points) rows (map kept_of p.inner)) found.lists
      (kept_entry_holds p made found is_found_holds) in
      let possible = map_same possible_facets (λ (i : Inner). kept_possible more (kept_of i)) p.inner
      (kept_possible_holds p made) ∙ sym (map-map (kept_possible more) kept_of p.inner) in
      λ t.
      let sorted = sort_by compare_entries (entries t) in
      record {
        counts = counts t;
        entries = sorted;
        possible = possible t;
        compounds = label_irc compare_pair (map (λ (e : Entry). e.list) sorted);
        left = found.left;
      }

  pub kept_answer_holds : (a : Answer) (c : AnsweredCall more rules plane points rows a)
      → a ≡ kept_answer more (length points) rows (map kept_of c.before.inner) c.found
  kept_answer_holds a c = c.is ∙ kept_finish c.before c.prepared c.found c.is_found_holds
