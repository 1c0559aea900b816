-- How a turn of the loop begins: the next orbit's set is read and cut to as many bits as there are points, its rows
-- are written, and what the inner call is given is fit for it. What the inner call writes lies behind what is kept.
-- Leans on AnswerMatches, on the rows within a set and on the shapes of inner calls.
use Rattle.std.specs.Prelude.{◌≡◌, refl, true, cond, List, ◌∷◌, map, ℕ, zero, suc, ◌+◌, ◌*◌, ◌-◌, ◌/◌, ◌%◌, ◌^◌, ◌≤◌}
use Rattle.std.specs.Prelude.{◌<◌, eqb, length, get_or, take, drop}
use Rattle.std.proofs.Common.{sym, ◌∙◌, subst, arith, eqb-true, take-take}
use Rattle.std.proofs.Math.Path.{ap}
use Rattle.std.proofs.Math.Nat.{two-pow-succ, one-le-pow}
use Rattle.std.proofs.Math.Arith.{mod-mul, digits_div, digits_mod}
use Rattle.std.proofs.lemmas.List.{length-map}
use Rattle.definitions.specs.Lists.{Pair}
use Rattle.definitions.specs.Job.{number_at}
use Rattle.definitions.specs.Vectors.{Vec}
use Rattle.definitions.specs.Subspace.{Subspace, flatten, from_points}
use Rattle.definitions.specs.Orbits.{Row, Orbit, point_at}
use Rattle.definitions.specs.Recursion.{rows_within}
use Rattle.definitions.specs.Faceting.{plain_way}
use Rattle.laws.specs.Lists.{Mem, member_at}
use Rattle.laws.specs.Segments.{part, part_take}
use Rattle.laws.specs.Sets.{vertices_from, vertices_of}
use Rattle.rows.specs.Rows.{rows_in, RowsFit, written_rows, written_length}
use Rattle.stabilizers.specs.Permutations.{Permutations, rows_fit_holds}
use Rattle.stabilizers.specs.Inner.{inner_rows_holds, inner_permute}
use Rattle.orbits.specs.Numbers.{orbit_of}
use Rattle.orbits.specs.Workspace.{orbits_in, orbits_front}
use Rattle.shapes.specs.Sets.{VertexSet, Rows, rows_within_holds, points_of_refit}
use Rattle.shapes.specs.CallOrbits.{call_orbit_set}
use Rattle.shapes.specs.Calls.{Given}
use Rattle.shapes.specs.Kept.{Kept, kept_of}
use Rattle.layout.specs.Keeps.{LayoutFits}
use Rattle.layout.specs.Front.{keeps_front}
use Rattle.layout.specs.declared.KeptLayout.{KeptLayout}
use Rattle.layout.specs.Capacities.{layout_for}
use Rattle.calls.specs.declared.Called.{Called}
use Rattle.refusals.specs.declared.Refusal.{Refusal}
use Rattle.std.specs.Prelude.{Result}
use Rattle.keep.specs.Adding.{orbit_at}
use Rattle.inner_answers.specs.State as state
use Rattle.inner_answers.specs.Spaces.{Laid}
use Rattle.inner_answers.specs.AnswerMatches.{OuterCall, Fitting, Step, AnswerMatches, OuterState, all_orbits}
use Rattle.inner_answers.specs.AnswerMatches.{outer_orbits, outer_orbit, outer_points, outer_plane, outer_rows}

-- the lowest n bits tell which of the first n vertices a set has
low_bits : (v n x : ℕ) → vertices_from v n (x % 2 ^ n) ≡ vertices_from v n x
unfolding vertices_from
low_bits v zero x = refl
low_bits v (suc n) x =
    let digits : x % 2 ^ suc n ≡ (x / 2 % 2 ^ n) * 2 + x % 2 = ap (λ (k : ℕ). x % k) (two-pow-succ n ∙ (omega arith))
    ∙ mod-mul x {m = 2 ^ n} {c = 2} (one-le-pow n 2 (omega arith)) (omega arith) in
    let low : x % 2 ^ suc n % 2 ≡ x % 2 = ap (λ (k : ℕ). k % 2) digits ∙ digits_mod (x / 2 % 2 ^ n) (omega arith) in
    let half : x % 2 ^ suc n / 2 ≡ x / 2 % 2 ^ n = ap (λ (k : ℕ). k / 2) digits
    ∙ digits_div (x / 2 % 2 ^ n) (omega arith) in
    let rest : vertices_from (suc v) n (x % 2 ^ suc n / 2)
    ≡ vertices_from (suc v) n (x / 2) = ap (vertices_from (suc v) n) half ∙ low_bits (suc v) n (x / 2) in
    λ t. cond (eqb (low t) 1) (v ∷ rest t) (rest t)

module _ (g : OuterCall) (fitting : Fitting g) (layout : KeptLayout) (left i : ℕ) (s : List ℕ)
    (st : OuterState g layout left i s) (below : i < length (outer_orbits g)) where
  -- the next orbit is one of the call's
  next_orbit : Mem (outer_orbit g i s) (all_orbits g)
  next_orbit =
      fitting.takes.among (all_orbits g) (outer_orbit g i s) (subst (λ (o : Orbit). Mem o (outer_orbits g))
      (state.next_is g.way g.more g.rules g.plane g.points g.rows g.budget
      (length g.points) layout left i s st below)
      (member_at (outer_orbits g) i (outer_orbit g i s) below))

  next_set : VertexSet (length g.points) (outer_orbit g i s).vertices
  next_set = call_orbit_set g.more g.rules g.plane g.points g.rows (outer_orbit g i s) next_orbit

  next_size : length (outer_points g i s) ≡ length (outer_orbit g i s).vertices
  next_size = length-map (outer_orbit g i s).vertices (point_at (map (flatten g.plane) g.points))

  -- what the inner call is given
  pub next_given : Given g.points g.rows → eqb (length (outer_plane g i s).basis) (suc g.more) ≡ true
      → Given (outer_points g i s) (outer_rows g i s)
  next_given given fits =
      let k = points_of_refit g.rules.tolerance (outer_points g i s) g.more (eqb-true _ _ fits) in
      record {
        two = omega arith;
        rows_good =
            subst (λ (n : ℕ). Rows n (outer_rows g i s)) (sym next_size)
            (rows_within_holds (length g.points) (outer_orbit g i s).vertices next_set g.rows given.rows_good);
      }

  module _ (n m set : ℕ) (rows : List ℕ) (n_is : n ≡ length g.points) (rows_are : g.rows ≡ rows_in n m rows)
      (permute : Permutations n m rows) (set_is : set ≡ number_at s (8 * i) 4 % 2 ^ n) where
    -- the set that is read is the next orbit's
    pub next_vertices_holds : vertices_of n set ≡ (outer_orbit g i s).vertices
    unfolding vertices_of orbit_of orbit_at
    next_vertices_holds =
        ap (vertices_from 0 n) set_is
        ∙ (low_bits 0 n (number_at s (8 * i) 4) ∙ ap (λ (k : ℕ). vertices_from 0 k (number_at s (8 * i) 4)) n_is)

    rows_next : rows_within (vertices_of n set) (rows_in n m rows) ≡ outer_rows g i s
    rows_next = λ t. rows_within (next_vertices_holds t) (sym rows_are t)

    size_next : length (vertices_of n set) ≡ length (outer_points g i s)
    size_next = ap length next_vertices_holds ∙ sym next_size

    module _ (out : List ℕ) (room : 32 * m ≤ length out) where
      -- its rows, as they are written
      pub next_rows : outer_rows g i s
          ≡ rows_in (length (outer_points g i s)) (length (rows_within (vertices_of n set) (rows_in n m rows)))
          (written_rows (rows_within (vertices_of n set) (rows_in n m rows)) 0 out)
      next_rows =
          sym rows_next
          ∙ (sym (inner_rows_holds n m rows permute set out room)
          ∙ ap (λ (k : ℕ). rows_in k (length (rows_within (vertices_of n set) (rows_in n m rows)))
          (written_rows (rows_within (vertices_of n set) (rows_in n m rows)) 0 out)) size_next)

      pub next_permute : Permutations (length (outer_points g i s))
          (length (rows_within (vertices_of n set) (rows_in n m rows)))
          (written_rows (rows_within (vertices_of n set) (rows_in n m rows)) 0 out)
      next_permute =
          subst (λ (k : ℕ). Permutations k (length (rows_within (vertices_of n set) (rows_in n m rows)))
          (written_rows (rows_within (vertices_of n set) (rows_in n m rows)) 0 out)) size_next
          (inner_permute n m rows permute set out room)

      -- no more than there is room for
      pub next_few : length out ≡ 3840 → length (rows_within (vertices_of n set) (rows_in n m rows)) ≤ 120
      next_few e =
          let l = next_permute.long in
          let w = written_length (rows_within (vertices_of n set) (rows_in n m rows)) 0 out in
          omega arith

-- ---- what the inner call writes lies behind what is kept

module _ (g : OuterCall) (layout : KeptLayout) (left i : ℕ) (s u : List ℕ) (fitting : Fitting g)
    (st : OuterState g layout left i s) (same : take layout.end u ≡ take layout.end s)
    (long : length u ≡ length s) where
  abbrev n : ℕ
  n = length g.points

  abbrev kept : List Kept
  kept = map kept_of st.done

  abbrev f : LayoutFits layout (length s)
  f = st.keeps.fits

  enough : 2048 ≤ layout.end
  enough = omega (arith, f.orbit_room, f.edge_room, f.label_room, f.owner_room, f.ridge_room, f.place_room)

  -- a part of the kept areas
  front : (a m : ℕ) → a + m ≤ layout.end → part a m u ≡ part a m s
  front a m h = sym (part_take layout.end u a m h) ∙ (ap (part a m) same ∙ part_take layout.end s a m h)

  owned : take (layout.owners + 2048) u ≡ take (layout.owners + 2048) s
  owned =
      let h : layout.owners + 2048 ≤ layout.end = omega (arith, f.owner_room, f.ridge_room, f.place_room) in
      sym (take-take (layout.owners + 2048) layout.end u h)
      ∙ (ap (take (layout.owners + 2048)) same ∙ take-take (layout.owners + 2048) layout.end s h)

  found_behind : orbits_in u (length (outer_orbits g)) ≡ orbits_in s (length (outer_orbits g))
  found_behind =
      let h : 8 * length (outer_orbits g) ≤ layout.end = omega (arith, enough, fitting.few_orbits_holds) in
      sym (orbits_front u layout.end (length (outer_orbits g)) h)
      ∙ (ap (λ (r : List ℕ). orbits_in r (length (outer_orbits g))) same
      ∙ orbits_front s layout.end (length (outer_orbits g)) h)

  -- so the loop stands where it stood
  pub state_behind : OuterState g layout left i u
  state_behind = record {
    done = st.done;
    many = st.many;
    few = st.few;
    reached = st.reached;
    keeps = keeps_front n layout kept s u owned long st.keeps;
    ridges = record {
      ridges =
          rw (front layout.ridges (layout.places - layout.ridges) (omega (arith, f.ridge_room, f.place_room)))
          st.ridges.ridges;
      places = rw (front layout.places (layout.end - layout.places) (omega (arith, f.place_room))) st.ridges.places;
    };
    found = rw found_behind st.found;
    amounts = st.amounts;
  }

  module _ (below : i < length (outer_orbits g)) where
    orbit_behind : orbit_at u i ≡ orbit_at s i
    orbit_behind =
        sym (state.orbit_at_holds u (length (outer_orbits g)) i below)
        ∙ (ap (λ (os : List Pair). get_or os i (0, 0)) found_behind
        ∙ state.orbit_at_holds s (length (outer_orbits g)) i below)

    abbrev points_with : Pair → List Vec
    points_with p = map (point_at (map (flatten g.plane) g.points)) (orbit_of n p).vertices

    abbrev plane_with : Pair → Subspace
    plane_with p = from_points g.rules.tolerance (points_with p)

    abbrev rows_with : Pair → List Row
    rows_with p = rows_within (orbit_of n p).vertices g.rows

    -- the inner call was made, and the turn has all that the keeping of its answer asks
    pub step_called : (called : Result Called Refusal) (rows : List ℕ) (m : ℕ)
        → eqb (length (outer_plane g i s).basis) (suc g.more) ≡ true
        → AnswerMatches plain_way g.more g.rules (outer_plane g i s) (outer_points g i s)
        (outer_rows g i s) left called (drop layout.end u)
        → outer_rows g i s ≡ rows_in (length (outer_points g i s)) m rows
        → RowsFit (length (outer_points g i s)) m rows → m ≤ 120
        → Given (outer_points g i s) (outer_rows g i s) → Laid layout (layout_for (3 + g.more))
        → Step g layout left i called rows m u
    step_called called rows m fits says rows_are rows_fit_holds few given laid =
        let o = sym orbit_behind in
        record {
          fitting = fitting;
          state_is = state_behind;
          below = below;
          fits = subst (λ (p : Pair). eqb (length (plane_with p).basis) (suc g.more) ≡ true) o fits;
          says =
              subst (λ (p : Pair). AnswerMatches plain_way g.more g.rules (plane_with p) (points_with p)
              (rows_with p) left called (drop layout.end u)) o says;
          rows_are = subst (λ (p : Pair). rows_with p ≡ rows_in (length (points_with p)) m rows) o rows_are;
          rows_fit_holds = subst (λ (p : Pair). RowsFit (length (points_with p)) m rows) o rows_fit_holds;
          rows_few = few;
          given = subst (λ (p : Pair). Given (points_with p) (rows_with p)) o given;
          laid = laid;
          room = omega (arith, f.ends, long);
        }
