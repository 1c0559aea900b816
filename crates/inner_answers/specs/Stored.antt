-- What became of an inner call: a refusal of the whole, or the loop one turn further. What `keep_edge` and
-- `keep_polygons` are asked and what follows of what they ensure, for any number that is the number of points. Leans
-- on Keeping.
use Rattle.std.specs.Prelude.{◌≡◌, refl, Bool, List, [], ◌∷◌, ◌++◌, map, ℕ, zero, suc, ◌+◌, ◌*◌, ◌≤◌, ◌<◌, length, drop}
use Rattle.std.proofs.Common.{sym, ap, subst, arith}
use Rattle.definitions.specs.Outcome.{refused}
use Rattle.definitions.specs.Job.{number_at}
use Rattle.definitions.specs.Recursion.{Inner}
use Rattle.definitions.specs.Faceting.{plain_way, orbits_of, prepare, faceting, faceting_with}
use Rattle.shapes.specs.Answered.{TakesSome}
use Rattle.laws.specs.Sets.{vertices_of}
use Rattle.orbits.specs.Numbers.{orbit_of}
use Rattle.shapes.specs.FewOrbits.{pairs_few}
use Rattle.shapes.proofs.CallOrbits.{call_orbits_few}
use Rattle.shapes.specs.Kept.{Kept, kept_of}
use Rattle.layout.specs.Keeps.{Keeps, Ridges}
use Rattle.layout.specs.declared.KeptLayout.{KeptLayout}
use Rattle.layout.specs.declared.Level.{Level}
use Rattle.calls.specs.declared.Called.TheVariants.{Ends, Left}
use Rattle.refusals.specs.declared.Refusal.{Refusal}
use Rattle.refusals.specs.Refused.{number_of}
use Rattle.std.specs.Prelude.{Result, Ok, Err}
use Rattle.keep.specs.Adding.{orbit_at, with_facets}
use Rattle.kept_edges.specs.Edges.{edge_answer}
use Rattle.keep.specs.Rooms.{RoomFor}
use Rattle.keep.specs.Storing.{beside_take}
use Rattle.keep.specs.AreasHold.{KeptWritten}
use Rattle.kept_polygons.specs.Whole.{InnerLeft, inner_answer, PolygonRoom}
use Rattle.inner_answers.specs.Spaces.{Laid}
use Rattle.inner_answers.specs.AnswerMatches.{OuterCall, Step, AnswerMatches, OuterState, all_orbits, outer_orbits}
use Rattle.inner_answers.specs.AnswerMatches.{outer_orbit, outer_points, outer_plane, outer_rows, outer_whole}
use Rattle.inner_answers.specs.Keeping as keeping
use Rattle.inner_answers.specs.declared.Stored.{Stored}

-- what is stored: one orbit more in a layout whose areas lie as before
pub record OneMore (g : OuterCall) (layout : KeptLayout) (r : KeptLayout) (rest : ℕ) (u : List ℕ) : Type 0 where
  pub state_is : OuterState g r rest (layout.orbits + 1) u
  pub laid : Laid r layout

unfoldable pub Storing : OuterCall → KeptLayout → Result Stored Refusal → List ℕ → Type 0
Storing g layout (Err e) u = outer_whole g ≡ refused (number_of e)
Storing g layout (Ok stored) u = OneMore g layout stored.layout stored.left u

-- the orbits of a call of rank 3 are 190 at most
few_three : (g : OuterCall) → TakesSome g.way → g.more ≡ 0 → length g.points ≤ 20 → length (outer_orbits g) ≤ 190
few_three g takes e few =
    let all = pairs_few (length g.points) (length (all_orbits g)) few
    (subst (λ (more : ℕ). 2 * length (orbits_of more g.rules g.plane g.points g.rows) + length g.points
    ≤ length g.points * length g.points) (sym e)
    (call_orbits_few g.rules g.plane g.points g.rows)) in
    let fewer = takes.no_more (all_orbits g) in
    omega arith

laid_more : (layout : KeptLayout) (k : ℕ) → Laid (with_facets layout k) layout
unfolding with_facets
laid_more layout k = record { edges = refl; labels = refl; owners = refl; ridges = refl; places = refl; end = refl }

-- the inner call's refusal is the whole's
pub refusal_stored : (g : OuterCall) (layout : KeptLayout) (left : ℕ) (e : Refusal) (rows : List ℕ) (m : ℕ)
    (s : List ℕ) → Step g layout left layout.orbits (Err e) rows m s → outer_whole g ≡ refused (number_of e)
unfolding AnswerMatches faceting_with faceting prepare
refusal_stored g layout left e rows m s t =
    keeping.inner_refusal g layout left layout.orbits (Err e) rows m s t (number_of e) (go g.more t.says)
  where
    go : (more : ℕ) → AnswerMatches plain_way more g.rules (outer_plane g layout.orbits s)
        (outer_points g layout.orbits s) (outer_rows g layout.orbits s) left (Err e) (drop layout.end s)
        → faceting more g.rules (outer_plane g layout.orbits s) (outer_points g layout.orbits s)
        (outer_rows g layout.orbits s) left ≡ refused (number_of e)
    go zero says = says
    go (suc more) says = says

module _ (g : OuterCall) (layout : KeptLayout) (left : ℕ) (swapped : Bool) (rest : ℕ) (rows : List ℕ) (m : ℕ)
    (s : List ℕ) (t : Step g layout left layout.orbits (Ok (Ends swapped rest)) rows m s)
    (n : ℕ) (n_is : n ≡ length g.points) where
  abbrev kept : List Kept
  kept = map kept_of t.state_is.done

  pub edge_asked : (n ≤ 20) × (2 ≤ length (vertices_of n (number_at s (8 * layout.orbits) 4)))
      × ((kept : List Kept) × Keeps n layout kept s × Ridges layout kept s × RoomFor layout kept 1 1 2 2)
  edge_asked =
      subst (λ (x : ℕ). (x ≤ 20) × (2 ≤ length (vertices_of x (number_at s (8 * layout.orbits) 4)))
      × ((kept : List Kept) × Keeps x layout kept s × Ridges layout kept s × RoomFor layout kept 1 1 2 2))
      (sym n_is) (
        t.fitting.few_points,
        keeping.two_vertices g layout left layout.orbits (Ok (Ends swapped rest)) rows m s t,
        (
          kept,
          t.state_is.keeps,
          t.state_is.ridges,
          keeping.ends_room g layout left layout.orbits swapped rest rows m s t (few_three g t.fitting.takes
              (keeping.ends_three g layout left layout.orbits swapped rest rows m s t).0 t.fitting.few_points),
        ),
      )

  pub edge_full : (bound : ℕ) → bound ≡ g.rules.bounds.facets → bound < layout.facets + 1 → outer_whole g ≡ refused 15
  edge_full bound e k = keeping.ends_full g layout left layout.orbits swapped rest rows m s t (omega arith)

  pub edge_stored : (bound : ℕ) → bound ≡ g.rules.bounds.facets → layout.facets + 1 ≤ bound
      → (r : KeptLayout) (u : List ℕ) → r ≡ with_facets layout 1 → KeptWritten layout s u
      → ((kept : List Kept) (i : Inner) (left : ℕ) → Keeps n layout kept s → Ridges layout kept s
      → i.orbit ≡ orbit_of n (orbit_at s layout.orbits) → i.answer ≡ edge_answer swapped left
      → Keeps n r (kept ++ (kept_of i ∷ [])) u × Ridges r (kept ++ (kept_of i ∷ [])) u) → OneMore g layout r rest u
  edge_stored bound e room r u is within more =
      let front = beside_take within 2048 t.state_is.keeps.fits.orbit_room in
      let made : Inner = record { orbit = outer_orbit g layout.orbits s; answer = edge_answer swapped rest } in
      let q = more kept made rest (subst (λ (x : ℕ). Keeps x layout kept s) (sym n_is) t.state_is.keeps)
      t.state_is.ridges (ap (λ (x : ℕ). orbit_of x (orbit_at s layout.orbits)) (sym n_is)) refl in
      record {
        state_is =
            keeping.ends_kept g layout left layout.orbits swapped rest rows m s t (omega arith) r u
            (subst (λ (x : ℕ). Keeps x r (kept ++ (kept_of made ∷ [])) u) n_is q.0) q.1 front;
        laid = subst (λ (x : KeptLayout). Laid x layout) (sym is) (laid_more layout 1);
      }

module _ (g : OuterCall) (layout : KeptLayout) (left : ℕ) (level : Level) (rest : ℕ) (rows : List ℕ) (m : ℕ)
    (s : List ℕ) (t : Step g layout left layout.orbits (Ok (Left level rest)) rows m s)
    (n : ℕ) (n_is : n ≡ length g.points) where
  abbrev kept_so_far : List Kept
  kept_so_far = map kept_of t.state_is.done

  abbrev inner : List Kept
  inner = keeping.inner_kept g layout left level rest rows m s t

  -- counts that can be added
  pub counts_small : (layout.facets ≤ 1024) × (level.count ≤ 1024)
  counts_small =
      (t.state_is.keeps.few_facets, (keeping.left_edges g layout left level rest rows m s t).leaves.few_entries)

  pub polygons_asked : layout.facets + level.count ≤ g.rules.bounds.facets
      → (n ≤ 20) × (layout.end ≤ layout.end) × (layout.end ≤ length s) × ((kept : List Kept) × (inner : List Kept)
      × Keeps n layout kept s × Ridges layout kept s × InnerLeft n layout layout.end m inner level rows s
      × PolygonRoom n layout layout.end m kept inner level rows s)
  polygons_asked room =
      subst (λ (x : ℕ). (x ≤ 20) × (layout.end ≤ layout.end) × (layout.end ≤ length s)
      × ((kept : List Kept) × (inner : List Kept) × Keeps x layout kept s × Ridges layout kept s
      × InnerLeft x layout layout.end m inner level rows s
      × PolygonRoom x layout layout.end m kept inner level rows s)) (sym n_is) (
        t.fitting.few_points,
        omega arith,
        t.room,
        (
          kept_so_far,
          inner,
          t.state_is.keeps,
          t.state_is.ridges,
          keeping.left_edges g layout left level rest rows m s t,
          keeping.left_room g layout left level rest rows m s t room,
        ),
      )

  pub polygons_full : (bound : ℕ) → bound ≡ g.rules.bounds.facets → bound < layout.facets + level.count
      → outer_whole g ≡ refused 15
  polygons_full bound e k = keeping.left_full g layout left level rest rows m s t (omega arith)

  pub polygons_stored : (bound : ℕ) → bound ≡ g.rules.bounds.facets → layout.facets + level.count ≤ bound
      → (r : KeptLayout) (u : List ℕ) → r ≡ with_facets layout level.count → KeptWritten layout s u
      → ((kept : List Kept) (inner : List Kept) (i : Inner) (left : ℕ) → Keeps n layout kept s → Ridges layout kept s
      → InnerLeft n layout layout.end m inner level rows s → i.orbit ≡ orbit_of n (orbit_at s layout.orbits)
      → i.answer ≡ inner_answer n layout layout.end m inner level rows s left
      → Keeps n r (kept ++ (kept_of i ∷ [])) u × Ridges r (kept ++ (kept_of i ∷ [])) u) → OneMore g layout r rest u
  polygons_stored bound e room r u is within more =
      let front = beside_take within 2048 t.state_is.keeps.fits.orbit_room in
      let made : Inner = keeping.left_made g layout left level rest rows m s t in
      let q = more kept_so_far inner made rest
      (subst (λ (x : ℕ). Keeps x layout kept_so_far s) (sym n_is) t.state_is.keeps) t.state_is.ridges
      (subst (λ (x : ℕ). InnerLeft x layout layout.end m inner level rows s) (sym n_is)
      (keeping.left_edges g layout left level rest rows m s t))
      (ap (λ (x : ℕ). orbit_of x (orbit_at s layout.orbits)) (sym n_is))
      (ap (λ (x : ℕ). inner_answer x layout layout.end m inner level rows s rest) (sym n_is)) in
      record {
        state_is =
            keeping.left_kept g layout left level rest rows m s t (omega arith) r u
            (subst (λ (x : ℕ). Keeps x r (kept_so_far ++ (kept_of made ∷ [])) u) n_is q.0) q.1 front;
        laid = subst (λ (x : KeptLayout). Laid x layout) (sym is) (laid_more layout level.count);
      }
