-- How the loop of a call ends: at a refusal, which is the call's, or with every orbit's inner call made and kept,
-- which is what its search begins with. What the search says is what the call says. Leans on State, PreparedCalls,
-- Answers and the steps of a call.
use Rattle.std.specs.Prelude.{◌≡◌, refl, Bool, List, [], ℕ, suc, ◌+◌, ◌≤◌, ◌<◌, length, drop}
use Rattle.std.proofs.Common.{sym, ap, ◌∙◌, subst, arith}
use Rattle.std.proofs.Math.Seq.{drop-length}
use Rattle.definitions.specs.Outcome as result
use Rattle.definitions.specs.Vectors.{Vec}
use Rattle.definitions.specs.Subspace.{Subspace}
use Rattle.definitions.specs.Orbits.{Row, Orbit}
use Rattle.definitions.specs.Faceting.{Way, Prepared, prepare_with, faceting}
use Rattle.rows.specs.Rows.{rows_in, RowsFit}
use Rattle.shapes.specs.Answered.{TakesSome, preparation_with}
use Rattle.shapes.specs.Calls.{Given}
use Rattle.layout.specs.declared.KeptLayout.{KeptLayout}
use Rattle.definitions.specs.Job.{workspace_for}
use Rattle.layout.specs.Capacities.{layout_for}
use Rattle.calls.specs.Steps.{Reached, reached_all, call_thirteen, call_inner_refused, call_prepared}
use Rattle.calls.specs.declared.Rules.{Rules}
use Rattle.calls.specs.declared.Called.{Called}
use Rattle.calls.specs.declared.Called.TheVariants.{Ends, Left}
use Rattle.refusals.specs.declared.Refusal.{Refusal}
use Rattle.refusals.specs.Refused.{number_of}
use Rattle.std.specs.Prelude.{Result, Ok, Err}
use Rattle.inner_answers.specs.Spaces.{Laid}
use Rattle.inner_answers.specs.State as state
use Rattle.call_search.specs.PreparedCalls.{PreparedCall, CallPrepared, call_rules}
use Rattle.call_search.specs.Answers.{Searched, searched_refused, searched_answered}
use Rattle.inner_answers.specs.AnswerMatches.{OuterCall, AnswerMatches, OuterState, all_orbits, outer_orbits}
use Rattle.inner_answers.specs.AnswerMatches.{outer_whole}

module _ (way : Way) (more : ℕ) (rules : Rules) (plane : Subspace) (points : List Vec) (rows : List Row)
    (budget : ℕ) where
  abbrev pub outer_call : OuterCall
  outer_call = record {
    way = way;
    more = more;
    rules = call_rules rules;
    plane = plane;
    points = points;
    rows = rows;
    budget = budget;
  }

  abbrev CallAnswers : Result Called Refusal → List ℕ → Type 0
  CallAnswers = AnswerMatches way (suc more) (call_rules rules) plane points rows budget

  -- refusal 13
  pub says_thirteen : (e : Refusal) (s : List ℕ) → number_of e ≡ 13
      → (call_rules rules).bounds.orbits < length (all_orbits outer_call) → CallAnswers (Err e) s
  unfolding AnswerMatches
  says_thirteen e s is h =
      call_thirteen way more (call_rules rules) plane points rows budget h ∙ ap result.refused (sym is)

  module _ (few : length (all_orbits outer_call) ≤ (call_rules rules).bounds.orbits) where
    -- a refusal on the way
    pub says_refused : (e : Refusal) (s : List ℕ) → outer_whole outer_call ≡ result.refused (number_of e)
        → CallAnswers (Err e) s
    unfolding AnswerMatches
    says_refused e s is = call_inner_refused way more (call_rules rules) plane points rows budget few (number_of e) is

    module _ (layout : KeptLayout) (left i : ℕ) (s : List ℕ) (st : OuterState outer_call layout left i s)
        (all : length (outer_orbits outer_call) ≤ i) where
      none_left : drop i (outer_orbits outer_call) ≡ []
      none_left =
          let e : i ≡ length (outer_orbits outer_call) = omega (arith, st.few) in
          ap (λ (k : ℕ). drop k (outer_orbits outer_call)) e ∙ drop-length (outer_orbits outer_call)

      made_all : outer_whole outer_call ≡ result.answered (record { calls = st.done; left = left })
      made_all =
          let inner = state.inner way more (call_rules rules) plane points rows budget (length points) in
          reached_all inner (call_rules rules).bounds.facets
          (subst (λ (os : List Orbit). Reached inner (call_rules rules).bounds.facets
          (outer_orbits outer_call) budget st.done os left) none_left st.reached)

      abbrev before : Prepared
      before = record {
        more = more;
        points = length points;
        rows = rows;
        inner = st.done;
        left = left;
        extended = way.extended;
      }

      prepared_is : prepare_with way more (call_rules rules)
          (faceting more (call_rules rules)) plane points rows budget ≡ result.answered before
      prepared_is =
          call_prepared way more (call_rules rules) plane points rows budget few (record {
            calls = st.done;
            left = left;
          }) made_all

      abbrev pub prepared_call : PreparedCall
      prepared_call = record { more = more; plane = plane; points = points; rows = rows; prepared = before }

      -- what the search begins with
      pub call_is_prepared : TakesSome way → (extended : Bool) → extended ≡ way.extended
          → (rank : ℕ) (bytes : List ℕ) (m : ℕ) → more ≤ 1 → rank ≡ 3 + more → Given points rows → length points ≤ 20
          → rules.entries ≡ 1024 → rows ≡ rows_in (length points) m bytes
          → RowsFit (length points) m bytes → m ≤ 120 → Laid layout (layout_for rank)
          → workspace_for rank ≤ length s → CallPrepared prepared_call layout rank bytes m rules extended left s
      call_is_prepared takes extended extended_is rank bytes m few_more rank_is given few_points entries rows_are
          rows_fit_holds rows_few laid room = record {
            few_more = few_more;
            rank_is = rank_is;
            given = given;
            few_points = few_points;
            made =
                preparation_with way takes more (call_rules rules)
                (faceting more (call_rules rules)) plane points rows budget before prepared_is;
            left_is = refl;
            extended_is = extended_is;
            few_entries_holds = entries;
            rows_are = rows_are;
            rows_fit_holds = rows_fit_holds;
            rows_few = rows_few;
            keeps = st.keeps;
            ridges = st.ridges;
            owners_at = laid.owners;
            end_at_holds = laid.end;
            room = room;
          }

      -- what the search says
      pub says_searched : (r : Result Called Refusal) (u : List ℕ) → Searched prepared_call rules r u → CallAnswers r u
      unfolding AnswerMatches Searched
      says_searched (Err e) u a = searched_refused way prepared_call rules budget prepared_is e u a
      says_searched (Ok (Ends swapped rest)) u a = a
      says_searched (Ok (Left level rest)) u a = record {
        before = before;
        prepared = prepared_is;
        leaves = a.leaves;
        is = searched_answered way prepared_call rules budget prepared_is level rest u a;
        ends = a.ends;
      }
