-- What an inner call answers is kept: what is asked before, at rank 3 and at rank 4, and that the loop has come one
-- turn further. Leans on AnswerMatches.
use Rattle.std.specs.Prelude.{◌≡◌, Bool, true, false, take, drop}
use Rattle.std.proofs.Math.Path.{refl, ap, subst}
use Rattle.std.proofs.Common.{sym, ◌∙◌}
use mathlib.Core.List.{List, [], ◌∷◌, ◌++◌, map}
use Prim.Native.Nat.{ℕ, zero, suc, ◌+◌, ◌*◌, ◌≤◌, ◌<◌}
use native.Mathlib.Omega.{arith}
use Rattle.std.proofs.Math.ListN.{length, length-map}
use Rattle.definitions.specs.Outcome.{refused, answered}
use Rattle.definitions.specs.Job.{number_at}
use Rattle.definitions.specs.Subspace.{flatten}
use Rattle.definitions.specs.Orbits.{Row, point_at}
use Rattle.definitions.specs.Recursion.{Answer, Inner, swapped_ends, separate_ends}
use Rattle.definitions.specs.Faceting.{plain_way, prepare, faceting, faceting_with}
use Rattle.laws.specs.Sets.{vertices_of}
use Rattle.stabilizers.specs.Places.{vertices_few}
use Rattle.orbits.specs.Numbers.{orbit_of}
use Rattle.rows.specs.Rows.{rows_in}
use Rattle.shapes.specs.Answered.{Preparation, plain_takes, preparation_with}
use Rattle.shapes.specs.Calls.{Given}
use Rattle.shapes.specs.Kept.{Kept, kept_of}
use Rattle.shapes.proofs.KeptSizes.{few_counts}
use Rattle.layout.specs.Keeps.{Keeps, Ridges, joined}
use Rattle.layout.specs.Leaves.{Leaves, answer_left, entry_left, lists_left, both_left, both_length}
use Rattle.layout.specs.declared.KeptLayout.{KeptLayout}
use Rattle.layout.specs.declared.Level.{Level}
use Rattle.layout.specs.Capacities.{capacities_three, capacities_four, capacities_of, layout_for, bounded_rank}
use Rattle.calls.specs.declared.Called.{Called}
use Rattle.calls.specs.declared.Called.TheVariants.{Ends, Left}
use Rattle.refusals.specs.declared.Refusal.{Refusal}
use Rattle.std.specs.Prelude.{Result, Ok}
use Rattle.keep.specs.Adding.{orbit_at}
use Rattle.kept_edges.specs.Edges.{edge_answer}
use Rattle.keep.specs.Rooms.{RoomFor}
use Rattle.kept_polygons.specs.Whole.{next_vertices, vertex_in, PolygonRoom}
use Rattle.left_edges.specs.Polygons.{EdgesLeft, polygon_kept, polygon_kept_holds, entry_edges}
use Rattle.left_edges.specs.Reading.{lists_below, lists_many}
use Rattle.sets.specs.Vertices.{vertex_rises}
use Rattle.kept_polygons.specs.Totals.{joined_few}
use Rattle.labels.specs.Labels.{labels_in}
use Rattle.inner_answers.specs.InnerLeft.{edges_left}
use Rattle.inner_answers.specs.Amounts.{Amounts, OrbitAmounts, most_at}
use Rattle.inner_answers.specs.InnerAmounts.{two_amounts, three_amounts}
use Rattle.inner_answers.specs.State as state
use Rattle.inner_answers.specs.OrbitSteps as orbit_steps
use Rattle.inner_answers.specs.Spaces.{Laid, facets_few, room_for}
use Rattle.inner_answers.specs.AnswerMatches.{OuterCall, Step, AnswerMatches, AnswerHeld, OuterState, outer_orbits}
use Rattle.inner_answers.specs.AnswerMatches.{outer_orbit, outer_points, outer_plane, outer_rows, outer_whole}

module _ (g : OuterCall) (layout : KeptLayout) (left i : ℕ) (called : Result Called Refusal) (rows : List ℕ) (m : ℕ)
    (s : List ℕ) (t : Step g layout left i called rows m s) where
  abbrev n : ℕ
  n = length g.points

  abbrev kept : List Kept
  kept = map kept_of t.state_is.done

  pub orbits_so_far : layout.orbits ≡ i
  orbits_so_far = t.state_is.keeps.orbits ∙ (length-map t.state_is.done kept_of ∙ t.state_is.many)

  -- the set of the next orbit has two vertices at least
  pub two_vertices : 2 ≤ length (vertices_of n (number_at s (8 * layout.orbits) 4))
  unfolding orbit_of orbit_at
  two_vertices =
      let e = ap (λ (k : ℕ). length (vertices_of n (number_at s (8 * k) 4))) orbits_so_far in
      let q : 2 ≤ length (outer_points g i s) = t.given.two in
      let l : length (outer_points g i s) ≡ length (vertices_of n (number_at s (8 * i) 4)) =
      length-map (outer_orbit g i s).vertices (point_at (map (flatten g.plane) g.points)) in
      omega arith

  -- refusal 15
  pub too_many : (a : Answer)
      → faceting g.more g.rules (outer_plane g i s) (outer_points g i s) (outer_rows g i s) left ≡ answered a
      → g.rules.bounds.facets < layout.facets + length a.entries → outer_whole g ≡ refused 15
  too_many a is k =
      orbit_steps.step_full g.way g.more g.rules g.plane g.points g.rows g.budget n layout left i s t.state_is t.below
      t.fits a is k

  pub inner_refusal : (number : ℕ)
      → faceting g.more g.rules (outer_plane g i s) (outer_points g i s) (outer_rows g i s) left ≡ refused number
      → outer_whole g ≡ refused number
  inner_refusal number e =
      orbit_steps.step_refused g.way g.more g.rules g.plane g.points g.rows g.budget n layout left i s t.state_is
      t.below t.fits number e

  -- the answer is kept
  pub next_state : (a : Answer)
      → faceting g.more g.rules (outer_plane g i s) (outer_points g i s) (outer_rows g i s) left ≡ answered a
      → layout.facets + length a.entries ≤ g.rules.bounds.facets
      → OrbitAmounts (most_at g.more) (kept_of (record { orbit = outer_orbit g i s; answer = a }))
      → (r : KeptLayout) (u : List ℕ)
      → Keeps n r (kept ++ (kept_of (record { orbit = outer_orbit g i s; answer = a }) ∷ [])) u
      → Ridges r (kept ++ (kept_of (record { orbit = outer_orbit g i s; answer = a }) ∷ [])) u
      → take 2048 u ≡ take 2048 s
      → OuterState g r a.left (i + 1) u
  next_state a is room amounts r u keeps ridges front =
      let more = g.more in
      state.state_next g.way more g.rules g.plane g.points g.rows g.budget n layout left i s t.state_is t.below
      (record { orbit = outer_orbit g i s; answer = a })
      (orbit_steps.step_answered g.way more g.rules g.plane g.points g.rows g.budget n layout left i s t.state_is
      t.below t.fits a is)
      (orbit_steps.step_room g.way more g.rules g.plane g.points g.rows g.budget n layout left i s t.state_is t.below
      t.fits a is room) r u keeps ridges front t.fitting.few_orbits_holds amounts

-- ---- rank 3

one_entry : (swapped : Bool) (rest : ℕ)
    → (length (edge_answer swapped rest).entries ≡ 1) × ((edge_answer swapped rest).left ≡ rest)
unfolding edge_answer swapped_ends separate_ends
one_entry true rest = (refl, refl)
one_entry false rest = (refl, refl)

module _ (g : OuterCall) (layout : KeptLayout) (left i : ℕ) (swapped : Bool) (rest : ℕ) (rows : List ℕ) (m : ℕ)
    (s : List ℕ) (t : Step g layout left i (Ok (Ends swapped rest)) rows m s) where
  -- only the inner calls of rank 3 answer with ends alone
  pub ends_three : (g.more ≡ 0)
      × (faceting g.more g.rules (outer_plane g i s) (outer_points g i s) (outer_rows g i s) left
      ≡ answered (edge_answer swapped rest))
  unfolding AnswerMatches faceting_with faceting prepare
  ends_three = go g.more t.says
    where
      go : (more : ℕ) → AnswerMatches plain_way more g.rules (outer_plane g i s) (outer_points g i s)
          (outer_rows g i s) left (Ok (Ends swapped rest)) (drop layout.end s)
          → (more ≡ 0) × (faceting more g.rules (outer_plane g i s) (outer_points g i s) (outer_rows g i s) left
          ≡ answered (edge_answer swapped rest))
      go zero e = (refl, e)
      go (suc more) e = absurd e

  ends_amounts : OrbitAmounts (most_at g.more) (kept_of (record {
    orbit = outer_orbit g i s;
    answer = edge_answer swapped rest;
  }))
  ends_amounts =
      let e = ends_three in
      subst (λ (more : ℕ). OrbitAmounts (most_at more) (kept_of (record {
        orbit = outer_orbit g i s;
        answer = edge_answer swapped rest;
      }))) (sym e.0)
      (two_amounts g.rules (outer_plane g i s) (outer_points g i s) (outer_rows g i s) left (record {
        orbit = outer_orbit g i s;
        answer = edge_answer swapped rest;
      })
      (subst (λ (more : ℕ). faceting more g.rules (outer_plane g i s) (outer_points g i s) (outer_rows g i s) left
      ≡ answered (edge_answer swapped rest)) e.0 e.1))

  laid_three : Laid layout (layout_for 3)
  laid_three = subst (Laid layout) (ap (λ (more : ℕ). layout_for (3 + more)) ends_three.0) t.laid

  -- there is room for the edge
  pub ends_room : length (outer_orbits g) ≤ 190 → RoomFor layout (map kept_of t.state_is.done) 1 1 2 2
  unfolding most_at layout_for capacities_of capacities_three
  ends_room few =
      let e = orbits_so_far g layout left i (Ok (Ends swapped rest)) rows m s t in
      let b = t.below in
      let amounts : Amounts (most_at 0) (map kept_of t.state_is.done) =
      subst (λ (more : ℕ). Amounts (most_at more) (map kept_of t.state_is.done)) ends_three.0 t.state_is.amounts in
      let below : layout.orbits < 190 = omega arith in
      let facets = facets_few (length g.points) layout t.state_is.done s t.state_is.keeps (most_at 0) amounts in
      room_for (length g.points) layout t.state_is.done s t.state_is.keeps (capacities_of 3) (most_at 0)
      (bounded_rank 3)
      refl refl (omega arith) (omega arith) (omega arith) amounts laid_three below 1 1 2 2
      (omega (arith, facets, below)) (omega arith) (omega arith) (omega arith)

  pub ends_full : g.rules.bounds.facets < layout.facets + 1 → outer_whole g ≡ refused 15
  ends_full k =
      too_many g layout left i (Ok (Ends swapped rest)) rows m s t (edge_answer swapped rest) ends_three.1 (let e =
      (one_entry swapped rest).0 in omega arith)

  pub ends_kept : layout.facets + 1 ≤ g.rules.bounds.facets → (r : KeptLayout) (u : List ℕ)
      → Keeps (length g.points) r (map kept_of t.state_is.done
      ++ (kept_of (record { orbit = outer_orbit g i s; answer = edge_answer swapped rest }) ∷ [])) u
      → Ridges r (map kept_of t.state_is.done
      ++ (kept_of (record { orbit = outer_orbit g i s; answer = edge_answer swapped rest }) ∷ [])) u
      → take 2048 u ≡ take 2048 s → OuterState g r rest (i + 1) u
  ends_kept room r u keeps ridges front =
      subst (λ (x : ℕ). OuterState g r x (i + 1) u) (one_entry swapped rest).1
      (next_state g layout left i (Ok (Ends swapped rest)) rows m s t (edge_answer swapped rest) ends_three.1 (let e =
      (one_entry swapped rest).0 in omega arith) ends_amounts r u keeps ridges front)

-- ---- rank 4

module _ (g : OuterCall) (layout : KeptLayout) (left : ℕ) (level : Level) (rest : ℕ) (rows : List ℕ) (m : ℕ)
    (s : List ℕ) (t : Step g layout left layout.orbits (Ok (Left level rest)) rows m s) where
  abbrev i₀ : ℕ
  i₀ = layout.orbits

  abbrev behind : List ℕ
  behind = drop layout.end s

  abbrev width : ℕ
  width = length (next_vertices (length g.points) layout s)

  many_points : length (outer_points g i₀ s) ≡ width
  unfolding orbit_of orbit_at
  many_points = length-map (outer_orbit g i₀ s).vertices (point_at (map (flatten g.plane) g.points))

  -- only the inner calls of rank 4 leave their answer in the workspace
  pub left_four : (g.more ≡ 1) × AnswerHeld plain_way 0 g.rules (outer_plane g i₀ s) (outer_points g i₀ s)
      (outer_rows g i₀ s) left level rest behind
  unfolding AnswerMatches
  left_four = go g.more t.fitting.few_more t.says
    where
      go : (more : ℕ) → more ≤ 1 → AnswerMatches plain_way more g.rules (outer_plane g i₀ s) (outer_points g i₀ s)
          (outer_rows g i₀ s) left (Ok (Left level rest)) behind
          → (more ≡ 1) × AnswerHeld plain_way 0 g.rules (outer_plane g i₀ s) (outer_points g i₀ s)
          (outer_rows g i₀ s) left level rest behind
      go zero few e = absurd e
      go (suc zero) few e = (refl, e)
      go (suc (suc more)) few e = absurd (omega arith)

  -- what the inner call kept
  abbrev pub inner_kept : List Kept
  inner_kept = map kept_of left_four.1.before.inner

  abbrev pub left_answer : Answer
  left_answer = answer_left 0 width (rows_in width m rows) inner_kept level behind rest

  own_rows : outer_rows g i₀ s ≡ rows_in width m rows
  own_rows = t.rows_are ∙ ap (λ (k : ℕ). rows_in k m rows) many_points

  -- the inner call's answer lies behind what is kept
  pub left_answer_holds : faceting g.more g.rules (outer_plane g i₀ s) (outer_points g i₀ s) (outer_rows g i₀ s) left
      ≡ answered left_answer
  unfolding faceting_with faceting prepare
  left_answer_holds =
      ap (λ (more : ℕ).
      faceting more g.rules (outer_plane g i₀ s) (outer_points g i₀ s) (outer_rows g i₀ s) left) left_four.0
      ∙ (left_four.1.is ∙ (λ q. answered (answer_left 0 (many_points q) (own_rows q) inner_kept level behind rest)))

  pub left_edges : EdgesLeft width m inner_kept level rows behind
  unfolding faceting_with faceting prepare
  left_edges =
      let st = left_four.1 in
      let R = rows_in (length (outer_points g i₀ s)) m rows in
      let e = t.rows_are in
      let prep = preparation_with plain_way plain_takes 0 g.rules (faceting 0 g.rules) (outer_plane g i₀ s)
      (outer_points g i₀ s) (outer_rows g i₀ s) left st.before st.prepared in
      subst (λ (k : ℕ). EdgesLeft k m inner_kept level rows behind) many_points
      (edges_left g.rules (outer_plane g i₀ s) (outer_points g i₀ s) rows m left st.before level behind rest
      (subst (Given (outer_points g i₀ s)) e t.given)
      (subst (λ (x : List Row). Preparation 0 g.rules (faceting 0 g.rules) (outer_plane g i₀ s)
      (outer_points g i₀ s) x st.before) e prep) t.rows_fit_holds t.rows_few
      (subst (λ (x : List Row). Leaves 0 (length (outer_points g i₀ s)) x inner_kept level behind) e st.leaves)
      (subst (λ (x : List Row). faceting 1 g.rules (outer_plane g i₀ s) (outer_points g i₀ s) x left
      ≡ answered (answer_left 0 (length (outer_points g i₀ s)) x inner_kept level behind rest)) e st.is))

  abbrev pub left_made : Inner
  left_made = record { orbit = outer_orbit g i₀ s; answer = left_answer }

  few_vertices : width ≤ length g.points
  unfolding vertices_of
  few_vertices = vertices_few 0 (length g.points) (number_at s (8 * layout.orbits) 4)

  few_inner_points : length (outer_points g i₀ s) ≤ 20
  few_inner_points = let e = many_points in let k = few_vertices in omega (arith, t.fitting.few_points)

  left_one : faceting 1 g.rules (outer_plane g i₀ s) (outer_points g i₀ s) (outer_rows g i₀ s) left
      ≡ answered left_answer
  left_one =
      subst (λ (more : ℕ). faceting more g.rules (outer_plane g i₀ s) (outer_points g i₀ s) (outer_rows g i₀ s) left
      ≡ answered left_answer) left_four.0 left_answer_holds

  left_amounts : OrbitAmounts (most_at g.more) (kept_of left_made)
  left_amounts =
      subst (λ (more : ℕ). OrbitAmounts (most_at more) (kept_of left_made)) (sym left_four.0)
      (three_amounts g.rules (outer_plane g i₀ s) (outer_points g i₀ s)
      (outer_rows g i₀ s) left left_made t.given few_inner_points left_one t.fitting.few_entries_holds)

  few_inner : length inner_kept ≤ 190
  unfolding answer_left
  few_inner =
      let k = few_counts 1 g.rules (outer_plane g i₀ s) (outer_points g i₀ s) (outer_rows g i₀ s) left left_answer
      (omega arith) few_inner_points left_one in
      let e = length-map inner_kept (λ (x : Kept). x.orbit.count) in
      omega arith

  -- what is kept of it, from what it left
  made_is : kept_of left_made ≡ polygon_kept (outer_orbit g i₀ s) (rows_in width m rows) inner_kept
      (lists_left level behind) (labels_in (level.bytes + 2048) level.count (drop level.lists behind))
  unfolding orbit_of orbit_at
  made_is =
      polygon_kept_holds width (rows_in width m rows) inner_kept level behind rest left_made refl left_edges.each
      (λ x y h k. vertex_rises (length g.points) (number_at s (8 * layout.orbits) 4) x y h k) (lists_below left_edges)

  entries_many : length left_answer.entries ≡ level.count
  unfolding answer_left
  entries_many =
      length-map (both_left level behind) (entry_left 0 width (rows_in width m rows) inner_kept)
      ∙ both_length level behind

  laid_four : Laid layout (layout_for 4)
  laid_four = subst (Laid layout) (ap (λ (more : ℕ). layout_for (3 + more)) left_four.0) t.laid

  -- there is room for its entries
  pub left_room : layout.facets + level.count ≤ g.rules.bounds.facets
      → PolygonRoom (length g.points) layout layout.end m (map kept_of t.state_is.done) inner_kept level rows s
  unfolding polygon_kept most_at orbit_of orbit_at layout_for capacities_of capacities_four
  left_room room =
      let one = left_four.0 in
      let o : OrbitAmounts (most_at 1) (polygon_kept (outer_orbit g i₀ s) (rows_in width m rows) inner_kept
      (lists_left level behind) (labels_in (level.bytes + 2048) level.count (drop level.lists behind))) =
      subst (OrbitAmounts (most_at 1)) made_is
      (subst (λ (more : ℕ). OrbitAmounts (most_at more) (kept_of left_made)) one left_amounts) in
      let lists = lists_left level behind in
      let n = lists_many left_edges in
      let edges =
      map (entry_edges (vertex_in (next_vertices (length g.points) layout s)) (rows_in width m rows) inner_kept)
      lists in
      let ne = length-map lists
      (entry_edges (vertex_in (next_vertices (length g.points) layout s)) (rows_in width m rows) inner_kept) in
      let e = joined_few 190 edges o.edges in
      let p = joined_few 190 lists o.places in
      let below : layout.orbits < 256 = let b = t.below in omega (arith, t.fitting.few_orbits_holds) in
      room_for (length g.points) layout t.state_is.done s t.state_is.keeps (capacities_of 4) (most_at 1)
      (bounded_rank 4)
      refl refl (omega arith) (omega arith) (omega arith)
      (subst (λ (more : ℕ). Amounts (most_at more) (map kept_of t.state_is.done)) one t.state_is.amounts)
      laid_four below level.count (length (joined edges)) (length inner_kept) (length (joined lists))
      (omega (arith, t.fitting.few_facets_holds)) (omega arith) few_inner (omega arith)

  pub left_full : g.rules.bounds.facets < layout.facets + level.count → outer_whole g ≡ refused 15
  left_full k =
      too_many g layout left i₀ (Ok (Left level rest)) rows m s t left_answer left_answer_holds (let e =
      entries_many in omega arith)

  pub left_kept : layout.facets + level.count ≤ g.rules.bounds.facets → (r : KeptLayout) (u : List ℕ)
      → Keeps (length g.points) r (map kept_of t.state_is.done ++ (kept_of left_made ∷ [])) u
      → Ridges r (map kept_of t.state_is.done ++ (kept_of left_made ∷ [])) u → take 2048 u ≡ take 2048 s
      → OuterState g r rest (i₀ + 1) u
  unfolding answer_left
  left_kept room r u keeps ridges front =
      next_state g layout left i₀ (Ok (Left level rest)) rows m s t left_answer left_answer_holds (let e =
      entries_many in omega arith) left_amounts r u keeps ridges front
