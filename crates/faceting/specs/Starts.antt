-- How the loop of a call starts: from what is kept of the orbits that are found, 13 or those in the front of the
-- workspace, and from a cleared layout. Leans on State, AnswerMatches and Ways.
use Rattle.std.specs.Prelude.{◌≡◌, refl, Bool, true, false, cond, [], ℕ, eqb}
use Rattle.layout.specs.Capacities.{capacities_of, layout_for}
use Rattle.layout.specs.Capacities.{layout_empty as empty_layout}
use Rattle.inner_answers.specs.State as state

-- a layout of any rank begins with nothing kept
pub layout_empty : (rank : ℕ) → ((layout_for rank).orbits ≡ 0) × ((layout_for rank).facets ≡ 0)
unfolding layout_for
layout_empty rank = empty_layout (capacities_of rank)
