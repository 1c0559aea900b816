-- What a call of rank 2 + more answers, by what the code gives back (`AnswerMatches`), and one turn of the loop over
-- its orbits (`Step`). Leans on State and Spaces, on what a call leaves and on the steps of a call.
use Rattle.std.specs.Prelude.{◌≡◌, true, List, map, ℕ, zero, suc, ◌+◌, ◌≤◌, ◌<◌, eqb, length, drop}
use Rattle.definitions.specs.Outcome.{Outcome, refused, answered}
use Rattle.definitions.specs.Vectors.{Vec}
use Rattle.definitions.specs.Subspace.{Subspace, flatten, from_points}
use Rattle.definitions.specs.Orbits.{Row, Orbit, point_at}
use Rattle.definitions.specs.Recursion.{Rules, InnerCalls, inner_calls, rows_within}
use Rattle.definitions.specs.Faceting.{Way, plain_way, Prepared, orbits_of, prepare_with, faceting, faceting_with}
use Rattle.rows.specs.Rows.{rows_in, RowsFit}
use Rattle.orbits.specs.Numbers.{orbit_of}
use Rattle.shapes.specs.Answered.{TakesSome}
use Rattle.shapes.specs.Calls.{Given}
use Rattle.shapes.specs.Kept.{kept_of}
use Rattle.layout.specs.Leaves.{Leaves, answer_left}
use Rattle.layout.specs.declared.KeptLayout.{KeptLayout}
use Rattle.layout.specs.declared.Level.{Level}
use Rattle.layout.specs.Capacities.{layout_for}
use Rattle.layout.specs.Capacities.{images_from, listed_bytes}
use Rattle.calls.specs.Steps.{kept_orbits}
use Rattle.calls.specs.declared.Called.{Called}
use Rattle.calls.specs.declared.Called.TheVariants.{Ends, Left}
use Rattle.refusals.specs.declared.Refusal.{Refusal}
use Rattle.refusals.specs.Refused.{number_of}
use Rattle.std.specs.Prelude.{Result, Ok, Err}
use Rattle.keep.specs.Adding.{orbit_at}
use Rattle.kept_edges.specs.Edges.{edge_answer}
use Rattle.inner_answers.specs.State as state
use Rattle.inner_answers.specs.State.{State}
use Rattle.inner_answers.specs.Spaces.{Laid}

-- A call of rank 3 + more is answered, and its answer stands in the workspace. Wherever its entries lie, they end
-- before the byte 3,211,264: at rank 4 the images of all facets, at most 1,024 under 120 rows, have room behind them.
pub record AnswerHeld (way : Way) (more : ℕ) (rules : Rules) (plane : Subspace) (points : List Vec) (rows : List Row)
    (budget : ℕ) (level : Level) (rest : ℕ) (s : List ℕ) : Type 0 where
  pub before : Prepared
  pub prepared : prepare_with way more rules (faceting more rules) plane points rows budget ≡ answered before
  pub leaves : Leaves more (length points) rows (map kept_of before.inner) level s
  pub is : faceting_with way (suc more) rules plane points rows budget
      ≡ answered (answer_left more (length points) rows (map kept_of before.inner) level s rest)
  pub ends : level.lists + (level.bytes + listed_bytes) ≤ images_from

-- what a call of rank 2 + more says: only rank 2 answers with ends alone
unfoldable pub AnswerMatches : Way → ℕ → Rules → Subspace → List Vec → List Row → ℕ → Result Called Refusal → List ℕ
    → Type 0
AnswerMatches way zero rules plane points rows budget (Err e) s =
    faceting_with way 0 rules plane points rows budget ≡ refused (number_of e)
AnswerMatches way zero rules plane points rows budget (Ok (Ends swapped rest)) s =
    faceting_with way 0 rules plane points rows budget ≡ answered (edge_answer swapped rest)
AnswerMatches way zero rules plane points rows budget (Ok (Left level rest)) s = ⊥
AnswerMatches way (suc more) rules plane points rows budget (Err e) s =
    faceting_with way (suc more) rules plane points rows budget ≡ refused (number_of e)
AnswerMatches way (suc more) rules plane points rows budget (Ok (Ends swapped rest)) s = ⊥
AnswerMatches way (suc more) rules plane points rows budget (Ok (Left level rest)) s =
    AnswerHeld way more rules plane points rows budget level rest s

-- the definition's call that the loop belongs to
pub record OuterCall : Type 0 where
  pub way : Way
  pub more : ℕ
  pub rules : Rules
  pub plane : Subspace
  pub points : List Vec
  pub rows : List Row
  pub budget : ℕ

-- its orbits: all of them, and those that are kept
abbrev pub all_orbits : OuterCall → List Orbit
all_orbits g = orbits_of g.more g.rules g.plane g.points g.rows

abbrev pub outer_orbits : OuterCall → List Orbit
outer_orbits g = kept_orbits g.way g.more g.rules g.plane g.points g.rows g.budget

abbrev pub OuterState : OuterCall → KeptLayout → ℕ → ℕ → List ℕ → Type 0
OuterState g layout left i s =
    State g.way g.more g.rules g.plane g.points g.rows g.budget (length g.points) layout left i s

-- what the inner calls of the whole come to
abbrev pub outer_whole : OuterCall → Outcome InnerCalls
outer_whole g =
    inner_calls (state.inner g.way g.more g.rules g.plane g.points g.rows g.budget (length g.points))
    g.rules.bounds.facets (outer_orbits g) 0 g.budget

-- the next orbit, its points and its plane
abbrev pub outer_orbit : OuterCall → ℕ → List ℕ → Orbit
outer_orbit g i s = orbit_of (length g.points) (orbit_at s i)

abbrev pub outer_points : OuterCall → ℕ → List ℕ → List Vec
outer_points g i s = map (point_at (map (flatten g.plane) g.points)) (outer_orbit g i s).vertices

abbrev pub outer_plane : OuterCall → ℕ → List ℕ → Subspace
outer_plane g i s = from_points g.rules.tolerance (outer_points g i s)

abbrev pub outer_rows : OuterCall → ℕ → List ℕ → List Row
outer_rows g i s = rows_within (outer_orbit g i s).vertices g.rows

-- what is alike in every turn
pub record Fitting (g : OuterCall) : Type 0 where
  pub takes : TakesSome g.way
  pub few_more : g.more ≤ 1
  pub few_points : length g.points ≤ 20
  pub few_orbits_holds : length (outer_orbits g) ≤ 256
  pub few_facets_holds : g.rules.bounds.facets ≤ 1024
  pub few_entries_holds : g.rules.bounds.entries ≤ 1024

-- one turn of the loop: the inner call on the next orbit's set was made and says this, and its answer lies in the
-- workspace behind what is kept
pub record Step (g : OuterCall) (layout : KeptLayout) (left i : ℕ) (called : Result Called Refusal) (rows : List ℕ)
    (m : ℕ) (s : List ℕ) : Type 0 where
  pub fitting : Fitting g
  pub state_is : OuterState g layout left i s
  pub below : i < length (outer_orbits g)
  pub fits : eqb (length (outer_plane g i s).basis) (suc g.more) ≡ true
  pub says : AnswerMatches plain_way g.more g.rules (outer_plane g i s) (outer_points g i s)
      (outer_rows g i s) left called (drop layout.end s)
  pub rows_are : outer_rows g i s ≡ rows_in (length (outer_points g i s)) m rows
  pub rows_fit_holds : RowsFit (length (outer_points g i s)) m rows
  pub rows_few : m ≤ 120
  pub given : Given (outer_points g i s) (outer_rows g i s)
  pub laid : Laid layout (layout_for (3 + g.more))
  pub room : layout.end ≤ length s
