-- One turn of a call's loop: the refit of the next orbit's set, the inner call, and the test of the facets, each with
-- what it says of the definition's whole. Leans on State.
use Rattle.std.specs.Prelude.{◌≡◌, refl, true, false, ℕ, suc, ◌+◌, ◌≤◌, ◌<◌, eqb, length}
use Rattle.std.proofs.Common.{sym, ◌∙◌, arith, length-append}
use mathlib.Core.List.{List, [], ◌∷◌, map, flat_map}
use Rattle.std.proofs.lemmas.List.{length-map}
use Rattle.definitions.specs.Lists.{Pair}
use Rattle.definitions.specs.Outcome.{Outcome, refused, answered}
use Rattle.definitions.specs.Vectors.{Vec}
use Rattle.definitions.specs.Subspace.{Subspace, flatten, from_points}
use Rattle.definitions.specs.Orbits.{Row, Orbit, point_at}
use Rattle.definitions.specs.Recursion.{Rules, Entry, Answer, Inner, InnerCalls, inner_calls, rows_within}
use Rattle.definitions.specs.Faceting.{Way, faceting}
use Rattle.shapes.specs.Answered.{facet_number, facet_sum}
use Rattle.shapes.specs.Kept.{kept_of}
use Rattle.layout.specs.Keeps.{places_of}
use Rattle.layout.specs.declared.KeptLayout.{KeptLayout}
use Rattle.calls.specs.Steps.{kept_orbits, inner_refit, inner_refused, inner_answered, reached_refused, reached_full}
use Rattle.keep.specs.Rooms.{places_number}
use Rattle.inner_answers.specs.State as state
use Rattle.inner_answers.specs.State.{State}

-- the facets of the orbits kept are those of the inner answers
kept_sum : (done : List Inner) → length (places_of (map kept_of done)) ≡ facet_sum done
unfolding places_of facet_sum kept_of flat_map
kept_sum [] = refl
kept_sum (i ∷ done) =
    length-append (kept_of i).places (places_of (map kept_of done))
    ∙ ((λ t. length-map i.answer.entries (λ (e : Entry). map (λ (place : Pair). place.0) e.list) t + kept_sum done t))

module _ (way : Way) (more : ℕ) (rules : Rules) (plane : Subspace) (points : List Vec) (rows : List Row)
    (budget n : ℕ) (layout : KeptLayout) (left i : ℕ) (s : List ℕ)
    (st : State way more rules plane points rows budget n layout left i s) (h : i
    < length (kept_orbits way more rules plane points rows budget)) where
  abbrev pub orbit : Orbit
  orbit = state.next way more rules plane points rows budget n layout left i s st h

  -- the points, the plane and the rows of the inner call
  abbrev pub inner_points : List Vec
  inner_points = map (point_at (map (flatten plane) points)) orbit.vertices

  abbrev pub inner_plane : Subspace
  inner_plane = from_points rules.tolerance inner_points

  abbrev pub inner_rows : List Row
  inner_rows = rows_within orbit.vertices rows

  -- what the inner calls of the whole call come to
  abbrev pub whole : Outcome InnerCalls
  whole =
      inner_calls (state.inner way more rules plane points rows budget n) rules.bounds.facets
      (kept_orbits way more rules plane points rows budget) 0 budget

  pub facets_so_far : layout.facets ≡ facet_sum st.done
  facets_so_far = st.keeps.facets ∙ (sym (places_number (map kept_of st.done)) ∙ kept_sum st.done)

  -- refusal 14
  pub step_refit : eqb (length inner_plane.basis) (suc more) ≡ false → whole ≡ refused 14
  step_refit e =
      reached_refused (state.inner way more rules plane points rows budget n) rules.bounds.facets
      (state.coming way more rules plane points rows budget n layout left i s st h) 14
      (inner_refit (suc more) rules (faceting more rules) (map (flatten plane) points) rows orbit left e)

  module _ (fits : eqb (length inner_plane.basis) (suc more) ≡ true) where
    -- a refusal of the inner call is one of the whole
    pub step_refused : (number : ℕ) → faceting more rules inner_plane inner_points inner_rows left ≡ refused number
        → whole ≡ refused number
    step_refused number e =
        reached_refused (state.inner way more rules plane points rows budget n) rules.bounds.facets
        (state.coming way more rules plane points rows budget n layout left i s st h) number
        (inner_refused (suc more) rules (faceting more rules)
        (map (flatten plane) points) rows orbit left fits number e)

    module _ (answer : Answer)
        (is : faceting more rules inner_plane inner_points inner_rows left ≡ answered answer) where
      abbrev pub made : Inner
      made = record { orbit = orbit; answer = answer }

      pub step_answered : state.inner way more rules plane points rows budget n orbit left ≡ answered made
      step_answered =
          inner_answered (suc more) rules (faceting more rules)
          (map (flatten plane) points) rows orbit left fits answer is

      -- refusal 15: its facets are too many
      pub step_full : rules.bounds.facets < layout.facets + length answer.entries → whole ≡ refused 15
      step_full k =
          reached_full (state.inner way more rules plane points rows budget n) rules.bounds.facets
          (state.coming way more rules plane points rows budget n layout left i s st h) made step_answered
          (let e = facets_so_far in omega arith)

      pub step_room : layout.facets + length answer.entries ≤ rules.bounds.facets
          → facet_sum st.done + facet_number made ≤ rules.bounds.facets
      step_room k = let e = facets_so_far in omega arith
