-- A call above rank 2 from its start to its end, as the loop over its orbits goes through it: what is alike in every
-- turn (`Loop`), what a turn asks of the inner call and learns from it, and what the call says behind the last turn.
-- It holds for any plane and points that the loop was begun for. Leans on Starts, Begins, Stored and Finishes.
use Rattle.std.specs.Prelude.{◌≡◌, Bool, true, false, cond, eqb, take, drop}
use Rattle.std.proofs.Math.Path.{refl, sym, subst}
use Rattle.std.proofs.Common.{ap, ◌∙◌, ⊎_elim, arith}
use mathlib.Core.List.{List, [], map}
use Prim.Native.Nat.{ℕ, suc, ◌+◌, ◌*◌, ◌-◌, ◌%◌, ◌^◌, ◌≤◌, ◌<◌}
use Rattle.std.proofs.Math.ListN.{length}
use Rattle.std.proofs.lemmas.List.{length-map}
use Rattle.definitions.specs.Outcome as result
use Rattle.definitions.specs.Job.{number_at}
use Rattle.definitions.specs.Vectors.{Vec}
use Rattle.definitions.specs.Subspace.{Subspace, flatten, from_points}
use Rattle.definitions.specs.Orbits.{Row, image, point_at}
use Rattle.definitions.specs.Lists.{any_of}
use Rattle.definitions.specs.Recursion.{rows_within, edge_call, swapped_ends, separate_ends}
use Rattle.definitions.specs.Faceting as def
use Rattle.definitions.specs.Faceting.{plain_way}
use Rattle.laws.specs.Segments.{le_or_lt}
use Rattle.laws.specs.Sets.{vertices_of}
use Rattle.rows.specs.Rows.{rows_in, RowsFit, written_rows}
use Rattle.space.specs.declared.Subspace as stored
use Rattle.space.specs.declared.Points.{Points}
use Rattle.space.specs.Meaning.{subspace_of, points_of, HoldsPoints, HoldsSubspace}
use Rattle.stabilizers.specs.Permutations.{Permutations, rows_fit_holds}
use Rattle.sets.specs.Refitting.{Refitted, plane_in, refitted_plane}
use Rattle.orbits.specs.Workspace.{orbits_room}
use Rattle.orbits.specs.Answers.{CallFits}
use Rattle.shapes.specs.Answered.{TakesSome}
use Rattle.shapes.specs.Calls.{Given}
use Rattle.shapes.specs.Kept.{kept_of}
use Rattle.layout.specs.Keeps.{LayoutFits}
use Rattle.layout.specs.declared.KeptLayout.{KeptLayout}
use Rattle.definitions.specs.Job.{workspace_for}
use Rattle.layout.specs.Capacities.{capacities_of, layout_for, kept_fits, kept_ends, least_workspace}
use Rattle.calls.specs.declared.Rules.{Rules}
use Rattle.calls.specs.declared.Called.{Called}
use Rattle.calls.specs.declared.Called.TheVariants.{Ends}
use Rattle.refusals.specs.declared.Refusal.{Refusal}
use Rattle.refusals.specs.Refused.{number_of}
use Rattle.std.specs.Prelude.{Option, None, Result, Ok, Err}
use Rattle.kept_edges.specs.Edges.{edge_answer}
use Rattle.faceting.specs.declared.Next.{Next}
use Rattle.faceting.specs.Asked.{Asked}
use Rattle.inner_answers.specs.Spaces.{Laid}
use Rattle.call_search.specs.PreparedCalls.{PreparedCall, CallPrepared, call_rules}
use Rattle.call_search.specs.Answers.{Searched}
use Rattle.inner_answers.specs.AnswerMatches.{OuterCall, OuterState, all_orbits, outer_orbits, outer_whole, outer_orbit}
use Rattle.inner_answers.specs.AnswerMatches.{outer_points, outer_plane, outer_rows, AnswerMatches, Step, Fitting}
use Rattle.inner_answers.specs.OrbitSteps as orbit_steps
use Rattle.faceting.specs.Begins as begins
use Rattle.inner_answers.specs.Stored.{OneMore}
use Rattle.tallies.specs.declared.Package.{Package}
use Rattle.faceting.specs.Ways.{way_of, WayFits, plain_fits}
use Rattle.faceting.specs.Starts.{layout_empty}
use Rattle.faceting.specs.Finishes as finishes
use Rattle.faceting.specs.Finishes.{outer_call}

-- the definition's call that the loop belongs to, by what the code holds
abbrev pub outer_in : def.Way → Subspace → List Vec → ℕ → Points → List ℕ → ℕ → Rules → ℕ → OuterCall
outer_in way plane points rank flat rows m rules budget =
    outer_call way (rank - 3) rules plane points (rows_in flat.n m rows) budget

-- what is alike in every turn of a loop that began with this workspace
pub record Loop (way : def.Way) (plane : Subspace) (points : List Vec) (rank : ℕ) (flat : Points) (rows : List ℕ)
    (m : ℕ) (rules : Rules) (budget count : ℕ) (ws : List ℕ) : Type 0 where
  pub rank_least : 3 ≤ rank
  pub rank_most : rank ≤ 4
  pub flat_is : points_of flat ≡ map (flatten plane) points
  pub size : flat.n ≡ length points
  pub permute : Permutations flat.n m rows
  pub rows_few : m ≤ 120
  pub given : Given points (rows_in flat.n m rows)
  pub few_orbits_holds : rules.orbits ≤ 256
  pub few_facets_holds : rules.facets ≤ 1024
  pub entries_are : rules.entries ≡ 1024
  pub found : count ≡ length (outer_orbits (outer_in way plane points rank flat rows m rules budget))
  pub few_found : length (all_orbits (outer_in way plane points rank flat rows m rules budget)) ≤ rules.orbits
  pub takes : TakesSome way
  pub first : OuterState (outer_in way plane points rank flat rows m rules budget) (layout_for rank) budget 0 ws
  pub room : workspace_for rank ≤ length ws

-- ---- the ranks

abbrev pub AnswerMatchesAt : def.Way → ℕ → Rules → Subspace → List Vec → List Row → ℕ → Result Called Refusal → List ℕ
    → Type 0
AnswerMatchesAt way more rules = AnswerMatches way more (call_rules rules)

-- at rank 2 the rows alone answer
pub says_ends : (way : def.Way) (rank : ℕ) (rules : Rules) (plane : Subspace) (points : List Vec) (rows : List Row)
    (budget : ℕ) (swapped : Bool) (s : List ℕ) → rank ≡ 2
    → swapped ≡ any_of (λ (row : Row). eqb 1 (image row 0)) rows
    → AnswerMatchesAt way (rank - 2) rules plane points rows budget (Ok (Ends swapped budget)) s
unfolding AnswerMatches def.faceting_with edge_call edge_answer
says_ends way rank rules plane points rows budget swapped s e is =
    let q : 0 ≡ rank - 2 = omega arith in
    subst (λ (more : ℕ). AnswerMatchesAt way more rules plane points rows budget (Ok (Ends swapped budget)) s) q
    (ap (λ (b : Bool). result.answered (cond b (swapped_ends budget) (separate_ends budget))) (sym is))

-- a call of rank 3 + more, by its rank, and by any number that is the number of points
pub says_rank : (way : Option Package) (rank : ℕ) → 3 ≤ rank → (n k : ℕ) → n ≡ k → (rules : Rules) (plane : Subspace)
    (points : List Vec) (rows : List ℕ) (m budget : ℕ) (r : Result Called Refusal) (s : List ℕ)
    → AnswerMatchesAt (way_of n way) (suc (rank - 3)) rules plane points (rows_in n m rows) budget r s
    → AnswerMatchesAt (way_of k way) (rank - 2) rules plane points (rows_in k m rows) budget r s
says_rank way rank least n k e rules plane points rows m budget r s a =
    let q : suc (rank - 3) ≡ rank - 2 = omega arith in
    subst (λ (x : ℕ). AnswerMatchesAt (way_of x way) (rank - 2) rules plane points (rows_in x m rows) budget r s) e
    (subst (λ (more : ℕ). AnswerMatchesAt (way_of n way) more rules plane points (rows_in n m rows) budget r s) q a)

-- the layout of a rank fits its workspace
layout_fits : (rank size : ℕ) → 3 ≤ rank → rank ≤ 4 → workspace_for rank ≤ size → LayoutFits (layout_for rank) size
unfolding layout_for
layout_fits rank size least most room =
    kept_fits (capacities_of rank) size (omega (arith, kept_ends rank least most, room))

-- ---- the start

module _ (rank : ℕ) (plane : stored.Subspace) (points : Points) (rows : List ℕ) (m : ℕ) (rules : Rules) (budget : ℕ)
    (ws : List ℕ) (way : Option Package) (asked : Asked rank plane points rows m rules ws way) (above : 3 ≤ rank)
    (flat : Points) (holds : HoldsPoints flat plane.rank (map (flatten (subspace_of plane)) (points_of points)))
    (same_n : flat.n ≡ points.n) where
  pub permute : Permutations flat.n m rows
  permute = subst (λ (n : ℕ). Permutations n m rows) (sym same_n) asked.permute

  enough : 524288 ≤ length ws
  enough = omega (arith, least_workspace rank above, asked.room)

  -- the rows fit the points of the call, as passed and flattened
  pub call_fits : CallFits points flat m rows
  call_fits = record { same_n = sym same_n; permute = permute; few = asked.rows_few }

  -- what the start of a call is asked
  pub start_asks : (rules.orbits ≤ 256) × (orbits_room ≤ length ws) × LayoutFits (layout_for rank) (length ws)
      × (3 ≤ rank) × WayFits flat.n way
  start_asks = (
    asked.few_orbits_holds,
    omega (arith, enough),
    layout_fits rank (length ws) above asked.rank_most asked.room,
    above,
    subst (λ (n : ℕ). WayFits n way) (sym same_n) asked.way_fits,
  )

-- ---- a turn

-- a refit that is refused has another number of basis vectors, and one that is not has the number wanted
not_fitted : (p : Subspace) (b : Bool) → result.refused 14 ≡ cond b (result.answered p) (result.refused 14) → b ≡ false
not_fitted p true q = cc
not_fitted p false q = refl

is_fitted : (x p : Subspace) (b : Bool) → result.answered x ≡ cond b (result.answered p) (result.refused 14) → b ≡ true
is_fitted x p true q = refl
is_fitted x p false q = cc

module _ {way : def.Way} {plane : Subspace} {points : List Vec} {rank : ℕ} {flat : Points} {rows : List ℕ} {m : ℕ}
    {rules : Rules} {budget count : ℕ} {ws : List ℕ}
    (l : Loop way plane points rank flat rows m rules budget count ws) where
  abbrev g : OuterCall
  g = outer_in way plane points rank flat rows m rules budget

  few_more : rank - 3 ≤ 1
  few_more = omega (arith, l.rank_most)

  fitting_is : Fitting g
  unfolding call_rules
  fitting_is = record {
    takes = l.takes;
    few_more = few_more;
    few_points = omega (arith, l.size, flat.fits.n_fits);
    few_orbits_holds = omega (arith, l.takes.no_more (all_orbits g), l.few_found, l.few_orbits_holds);
    few_facets_holds = l.few_facets_holds;
    few_entries_holds = omega (arith, l.entries_are);
  }

  -- before the first turn
  pub loop_first : (layout : KeptLayout) → layout ≡ layout_for rank → OuterState g layout budget layout.orbits ws
  loop_first layout e =
      subst (λ (x : KeptLayout). OuterState g x budget x.orbits ws) (sym e)
      (subst (λ (i : ℕ). OuterState g (layout_for rank) budget i ws) (sym (layout_empty rank).0) l.first)

  pub bound_is : rules.facets ≡ g.rules.bounds.facets
  unfolding call_rules
  bound_is = refl

  -- behind a turn: the layout counts one orbit more
  pub one_further : (layout r : KeptLayout) (rest : ℕ) (u : List ℕ) → OneMore g layout r rest u
      → (r.orbits ≡ layout.orbits + 1) × OuterState g r rest r.orbits u
  one_further layout r rest u o =
      let e : r.orbits ≡ layout.orbits + 1 = o.state_is.keeps.orbits
      ∙ (length-map o.state_is.done kept_of ∙ o.state_is.many) in
      (e, subst (λ (i : ℕ). OuterState g r rest i u) (sym e) o.state_is)

  module _ (layout : KeptLayout) (left : ℕ) (s : List ℕ) (st : OuterState g layout left layout.orbits s)
      (below : layout.orbits < count) where
    next_below : layout.orbits < length (outer_orbits g)
    next_below = omega (arith, l.found)

    module _ (set : ℕ) (set_is : set ≡ number_at s (8 * layout.orbits) 4 % 2 ^ flat.n) where
      vertices_are : vertices_of flat.n set ≡ (outer_orbit g layout.orbits s).vertices
      vertices_are =
          begins.next_vertices_holds g fitting_is layout left layout.orbits s st next_below flat.n m set rows l.size
          refl l.permute set_is

      points_are : map (point_at (points_of flat)) (vertices_of flat.n set) ≡ outer_points g layout.orbits s
      points_are = λ t. map (point_at (l.flat_is t)) (vertices_are t)

      -- what the inner call is given, as `next_call` gives it
      module _ (next : Next) (out inner : List ℕ) (out-long : length out ≡ 3840)
          (holds : HoldsPoints next.points flat.d (map (point_at (points_of flat)) (vertices_of flat.n set)))
          (refits : Refitted next.plane next.points
          (from_points rules.tolerance (map (point_at (points_of flat)) (vertices_of flat.n set))) (rank - 2))
          (many : next.m ≡ length (rows_within (vertices_of flat.n set) (rows_in flat.n m rows)))
          (written : inner ≡ written_rows (rows_within (vertices_of flat.n set) (rows_in flat.n m rows)) 0 out) where
        next_holds : HoldsPoints next.points flat.d (outer_points g layout.orbits s)
        next_holds = subst (HoldsPoints next.points flat.d) points_are holds

        next_refits : Refitted next.plane next.points (outer_plane g layout.orbits s) (suc (rank - 3))
        unfolding call_rules
        next_refits =
            let q : rank - 2 ≡ suc (rank - 3) = omega (arith, l.rank_least) in
            subst (Refitted next.plane next.points (outer_plane g layout.orbits s)) q
            (subst (λ (ps : List Vec).
            Refitted next.plane next.points (from_points rules.tolerance ps) (rank - 2)) points_are refits)

        abbrev enough_basis : Bool
        enough_basis = eqb (length (outer_plane g layout.orbits s).basis) (suc (rank - 3))

        -- refusal 14
        pub refit_refused : (unwanted : stored.Subspace) → next.plane ≡ Err unwanted → outer_whole g ≡ result.refused 14
        unfolding refitted_plane
        refit_refused unwanted is =
            orbit_steps.step_refit way (rank - 3) (call_rules rules) plane points (rows_in flat.n m rows) budget
            (length points) layout left layout.orbits s st next_below
            (not_fitted (outer_plane g layout.orbits s) enough_basis (ap refitted_plane (sym is) ∙ next_refits.answer))

        module _ (inner_plane : stored.Subspace) (e : next.plane ≡ Ok inner_plane) where
          plane_holds : HoldsSubspace inner_plane (outer_plane g layout.orbits s)
          unfolding plane_in
          plane_holds =
              subst (λ (r : Result stored.Subspace stored.Subspace).
              HoldsSubspace (plane_in r) (outer_plane g layout.orbits s)) e next_refits.holds

          plane_d : 0 < next.points.n → inner_plane.d ≡ next.points.d
          unfolding plane_in
          plane_d =
              subst (λ (r : Result stored.Subspace stored.Subspace). 0 < next.points.n
              → (plane_in r).d ≡ next.points.d) e next_refits.same_d

          fits_so : enough_basis ≡ true
          unfolding refitted_plane
          fits_so =
              is_fitted (subspace_of inner_plane) (outer_plane g layout.orbits s) enough_basis
              (ap refitted_plane (sym e) ∙ next_refits.answer)

          given_next : Given (outer_points g layout.orbits s) (outer_rows g layout.orbits s)
          given_next = begins.next_given g fitting_is layout left layout.orbits s st next_below l.given fits_so

          room_for : 32 * m ≤ length out
          room_for = omega (arith, out-long, l.rows_few)

          few_next : next.m ≤ 120
          few_next =
              rw many (begins.next_few g fitting_is layout left layout.orbits s st next_below flat.n m set rows l.size
              refl l.permute set_is out room_for out-long)

          rows_next : outer_rows g layout.orbits s ≡ rows_in (length (outer_points g layout.orbits s)) next.m inner
          rows_next =
              rw (many, written) (begins.next_rows g fitting_is layout left layout.orbits s st next_below flat.n m set
              rows l.size refl l.permute set_is out room_for)

          permute_next : Permutations (length (outer_points g layout.orbits s)) next.m inner
          permute_next =
              rw (many, written) (begins.next_permute g fitting_is layout left layout.orbits s st next_below flat.n m
              set rows l.size refl l.permute set_is out room_for)

          rows_stored : outer_rows g layout.orbits s ≡ rows_in next.points.n next.m inner
          rows_stored = rows_next ∙ ap (λ (n : ℕ). rows_in n next.m inner) (sym next_holds.n_is)

          -- its rows lie in what is lent for them
          pub inner_room : 32 * next.m ≤ length inner
          inner_room = permute_next.long

          -- so the inner call may be made, behind what is kept
          pub inner_asks : (tail : List ℕ) → Laid layout (layout_for rank) → length s ≡ length ws
              → length tail ≡ length s - layout.end
              → Asked (rank - 1) inner_plane next.points inner next.m rules tail None
          inner_asks tail laid long rest = record {
            rank_least = omega (arith, l.rank_least);
            rank_most = omega (arith, l.rank_most);
            same_d = sym (plane_d (omega (arith, next_holds.n_is, given_next.two)));
            permute = subst (λ (n : ℕ). Permutations n next.m inner) (sym next_holds.n_is) permute_next;
            rows_few = few_next;
            given =
                subst (λ (ps : List Vec). Given ps (rows_in next.points.n next.m inner)) (sym next_holds.means)
                (subst (Given (outer_points g layout.orbits s)) rows_stored given_next);
            few_orbits_holds = l.few_orbits_holds;
            few_facets_holds = l.few_facets_holds;
            entries_are = l.entries_are;
            room = omega (arith, l.room, kept_ends rank l.rank_least l.rank_most, laid.end, long, rest);
            way_fits = plain_fits next.points.n;
          }

          -- and what it says is the turn's
          pub turned : (called : Result Called Refusal) (u : List ℕ) → Laid layout (layout_for rank)
              → take layout.end u ≡ take layout.end s → length u ≡ length s
              → AnswerMatchesAt plain_way (rank - 1 - 2) rules (subspace_of inner_plane) (points_of next.points)
              (rows_in next.points.n next.m inner) left called (drop layout.end u)
              → Step g layout left layout.orbits called inner next.m u
          turned called u laid front long says =
              let q : rank - 1 - 2 ≡ rank - 3 = omega arith in
              let r : rank ≡ 3 + (rank - 3) = omega (arith, l.rank_least) in
              let at_rank = subst (λ (more : ℕ).
              AnswerMatchesAt plain_way more rules (subspace_of inner_plane) (points_of next.points)
              (rows_in next.points.n next.m inner) left called (drop layout.end u)) q says in
              let at-plane =
              subst (λ (p : Subspace). AnswerMatchesAt plain_way (rank - 3) rules p (points_of next.points)
              (rows_in next.points.n next.m inner) left called (drop layout.end u)) plane_holds.means at_rank in
              let at-points = subst
              (λ (ps : List Vec). AnswerMatchesAt plain_way (rank - 3) rules (outer_plane g layout.orbits s) ps
              (rows_in next.points.n next.m inner) left called (drop layout.end u)) next_holds.means at-plane in
              let at_rows = subst (λ (rs : List Row). AnswerMatchesAt plain_way (rank - 3) rules
              (outer_plane g layout.orbits s) (outer_points g layout.orbits s) rs left called
              (drop layout.end u)) (sym rows_stored) at-points in
              begins.step_called g layout left layout.orbits s u fitting_is st front long next_below called inner
              next.m fits_so at_rows rows_next (rows_fit_holds permute_next) few_next given_next
              (subst (λ (k : ℕ). Laid layout (layout_for k)) r laid)

  -- ---- the end

  -- a refusal met in a turn is the call's
  pub loop_refused : (e : Refusal) (s : List ℕ) → outer_whole g ≡ result.refused (number_of e)
      → AnswerMatchesAt way (suc (rank - 3)) rules plane points (rows_in flat.n m rows) budget (Err e) s
  unfolding call_rules
  loop_refused e s is =
      finishes.says_refused way (rank - 3) rules plane points (rows_in flat.n m rows) budget l.few_found e s is

  module _ (layout : KeptLayout) (left : ℕ) (s : List ℕ) (st : OuterState g layout left layout.orbits s)
      (laid : Laid layout (layout_for rank)) (all : count ≤ layout.orbits) (long : length s ≡ length ws) where
    pub every : length (outer_orbits g) ≤ layout.orbits
    every = omega (arith, l.found)

    pub few : length (all_orbits g) ≤ (call_rules rules).bounds.orbits
    unfolding call_rules
    few = l.few_found

    abbrev pub prepared_call : PreparedCall
    prepared_call =
        finishes.prepared_call way (rank - 3) rules plane points
        (rows_in flat.n m rows) budget few layout left layout.orbits s st every

    -- all inner calls are made and kept: what the search asks
    pub all_kept : (extended : Bool) → extended ≡ way.extended
        → CallPrepared prepared_call layout rank rows m rules extended left s
    all_kept extended extended_is =
        finishes.call_is_prepared way (rank - 3) rules plane points (rows_in flat.n m rows) budget few layout left
        layout.orbits s st every l.takes extended extended_is rank rows m few_more
        (omega (arith, l.rank_least)) l.given
        fitting_is.few_points l.entries_are (ap (λ (n : ℕ). rows_in n m rows) l.size)
        (subst (λ (n : ℕ). RowsFit n m rows) l.size (rows_fit_holds l.permute)) l.rows_few laid
        (omega (arith, l.room, long))

    -- and what it says is what the call says
    pub loop_searched : (r : Result Called Refusal) (u : List ℕ) → Searched prepared_call rules r u
        → AnswerMatchesAt way (suc (rank - 3)) rules plane points (rows_in flat.n m rows) budget r u
    loop_searched r u a =
        finishes.says_searched way (rank - 3) rules plane points
        (rows_in flat.n m rows) budget few layout left layout.orbits s st every r u a
