-- The call `faceting` meets its contract. The loop's invariant: the inner calls on the first k orbits are made, and
-- what they answered is kept. It is said for any plane and points that the loop was begun for, because the loop reads
-- neither: the call's own are among them. The measure is the rank. Leans on Loops.
use mathlib.Core.Path.{◌≡◌}
use mathlib.Core.List.{List}
use Prim.Native.Nat.{◌-◌}
use lib.ListN.{length}
use Rattle.definitions.specs.Vectors.{Vec}
use Rattle.definitions.specs.Subspace.{Subspace}
use Rattle.layout.specs.Capacities.{layout_for}
use Rattle.inner_answers.specs.Spaces.{Laid}
use Rattle.inner_answers.specs.AnswerMatches.{OuterState}
use Rattle.faceting.specs.Ways.{way_of}
use Rattle.faceting.specs.Loops.{Loop, outer_in}
use Rattle.faceting.proofs.+faceting.Given as goal

abbrev pub decreases-faceting : goal.decreases-faceting
decreases-faceting l = l.rank

abbrev pub invariant-loop-k : goal.invariant-loop-k
invariant-loop-k l = (length l.ws ≡ length l.initial.ws) × Laid l.done.layout (layout_for l.rank)
    × ((plane : Subspace) (points : List Vec) → Loop (way_of l.flat.n l.way) plane points l.rank l.flat
    l.rows.bytes.now l.rows.count l.rules l.budget l.count l.initial.ws
    → OuterState
    (outer_in (way_of l.flat.n l.way) plane points l.rank l.flat l.rows.bytes.now l.rows.count l.rules l.budget)
    l.done.layout l.done.left l.done.layout.orbits l.ws)
    × (l.done.layout.orbits ≡ l.k)
