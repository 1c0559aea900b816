-- Theorems on the definitions of specs/Loops.
use Rattle.std.specs.Prelude.{◌≡◌}
use Rattle.std.proofs.Math.Path.{refl, sym, subst}
use Rattle.std.proofs.Common.{◌∙◌, arith}
use mathlib.Core.List.{List, [], map}
use Prim.Native.Nat.{ℕ, ◌-◌, ◌≤◌}
use Rattle.std.proofs.Math.ListN.{length}
use Rattle.definitions.specs.Outcome as result
use Rattle.definitions.specs.Vectors.{Vec}
use Rattle.definitions.specs.Subspace.{Subspace, flatten}
use Rattle.definitions.specs.Orbits.{hyperplane_orbits}
use Rattle.definitions.specs.Faceting as def
use Rattle.definitions.specs.Faceting.{orbits_of}
use Rattle.rows.specs.Rows.{rows_in}
use Rattle.space.specs.declared.Subspace as stored
use Rattle.space.specs.declared.Points.{Points}
use Rattle.space.specs.Meaning.{subspace_of, points_of, HoldsPoints, limits_of}
use Rattle.space.specs.Counts.{points_length}
use Rattle.orbits.specs.Answers.{answer_in}
use Rattle.refusals.specs.declared.Refusal.{Refusal}
use Rattle.refusals.specs.Refused.{number_of}
use Rattle.std.specs.Prelude.{Option, Result, Ok, Err}
use Rattle.shapes.specs.Calls.{Given}
use Rattle.layout.specs.Keeps.{Keeps, Ridges}
use Rattle.layout.specs.Capacities.{layout_for}
use Rattle.calls.specs.declared.Rules.{Rules}
use Rattle.faceting.specs.Asked.{Asked}
use Rattle.call_search.specs.PreparedCalls.{call_rules}
use Rattle.inner_answers.specs.AnswerMatches.{OuterCall, all_orbits}
use Rattle.inner_answers.specs.OrbitSteps as orbit_steps
use Rattle.faceting.specs.Begins as begins
use Rattle.tallies.specs.declared.Package.{Package}
use Rattle.faceting.specs.Ways.{way_of, way_takes, taken_or_refusal, found_too_many}
use Rattle.faceting.proofs.Starts.{loop_starts}
use Rattle.faceting.proofs.Ways.{found_few, found_count}
use Rattle.faceting.specs.Finishes as finishes
use Rattle.faceting.specs.Loops.{Loop, AnswerMatchesAt, permute, says_rank, outer_in}

-- ---- the start

module _ (rank : ℕ) (plane : stored.Subspace) (points : Points) (rows : List ℕ) (m : ℕ) (rules : Rules) (budget : ℕ)
    (ws : List ℕ) (way : Option Package) (asked : Asked rank plane points rows m rules ws way) (above : 3 ≤ rank)
    (flat : Points) (holds : HoldsPoints flat plane.rank (map (flatten (subspace_of plane)) (points_of points)))
    (same_n : flat.n ≡ points.n) where
  -- how the call goes
  abbrev goes : def.Way
  goes = way_of flat.n way

  abbrev called : OuterCall
  called = outer_in goes (subspace_of plane) (points_of points) rank flat rows m rules budget

  module _ (r : Result ℕ Refusal) (u : List ℕ)
      (answers : answer_in flat.n r u
      ≡ taken_or_refusal goes rules.orbits (hyperplane_orbits rules.tolerance (limits_of rules.limits) rules.rule
      (rank - 3) (points_of points) (points_of flat) (rows_in flat.n m rows))) where
    found_for : answer_in flat.n r u ≡ taken_or_refusal goes (call_rules rules).bounds.orbits (all_orbits called)
    unfolding call_rules orbits_of
    found_for =
        subst (λ (ps : List Vec). answer_in flat.n r u ≡ taken_or_refusal goes rules.orbits
        (hyperplane_orbits rules.tolerance (limits_of rules.limits) rules.rule (rank - 3) (points_of points) ps
        (rows_in flat.n m rows))) holds.means answers

    -- refusal 13
    pub start_refused : (x : Refusal) → r ≡ Err x → AnswerMatchesAt (way_of points.n way) (rank - 2) rules
        (subspace_of plane) (points_of points) (rows_in points.n m rows) budget (Err x) u
    start_refused x e =
        let k = found_too_many goes (call_rules rules).bounds.orbits (all_orbits called) flat.n u x
        (subst (λ (a : Result ℕ Refusal). answer_in flat.n a u
        ≡ taken_or_refusal goes (call_rules rules).bounds.orbits (all_orbits called)) e found_for) in
        says_rank way rank above flat.n points.n same_n rules (subspace_of plane) (points_of points) rows m budget
        (Err x) u
        (finishes.says_thirteen goes (rank - 3) rules (subspace_of plane) (points_of points)
        (rows_in flat.n m rows) budget x u k.0 k.1)

    -- or the loop begins
    pub begun : (count : ℕ) → r ≡ Ok count
        → ((k : ℕ) → Keeps k (layout_for rank) [] u × Ridges (layout_for rank) [] u) → length u ≡ length ws
        → Loop goes (subspace_of plane) (points_of points) rank flat rows m rules budget count u
    unfolding call_rules
    begun count e cleared long =
        let all = subst (λ (a : Result ℕ Refusal). answer_in flat.n a u
        ≡ taken_or_refusal goes (call_rules rules).bounds.orbits (all_orbits called)) e found_for in
        let many = found_count goes (call_rules rules).bounds.orbits (all_orbits called) flat.n u count all in
        let size : flat.n ≡ length (points_of points) = same_n ∙ sym (points_length points) in
        record {
          rank_least = above;
          rank_most = asked.rank_most;
          flat_is = holds.means;
          size = size;
          permute = permute rank plane points rows m rules budget ws way asked above flat holds same_n;
          rows_few = asked.rows_few;
          given = subst (λ (n : ℕ). Given (points_of points) (rows_in n m rows)) (sym same_n) asked.given;
          few_orbits_holds = asked.few_orbits_holds;
          few_facets_holds = asked.few_facets_holds;
          entries_are = asked.entries_are;
          found = many;
          few_found = found_few goes (call_rules rules).bounds.orbits (all_orbits called) flat.n u count all;
          takes = way_takes flat.n way;
          first =
              loop_starts called (way_takes flat.n way)
              (layout_for rank) flat.n count u u size all asked.few_orbits_holds refl
              (cleared (length (points_of points))).0 (cleared (length (points_of points))).1;
          room = omega (arith, asked.room);
        }
