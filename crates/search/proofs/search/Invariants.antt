-- `search::search` meets its contract. The loop's invariant: what the definition makes of the frames, the emitted
-- lists and the budget that is left is what it makes of the table, for every table that the workspace holds. The
-- measure falls with the budget or with the depth. Assumes nothing.
use mathlib.Core.Path.{◌≡◌}
use Prim.Native.Nat.{◌+◌, ◌*◌}
use lib.ListN.{length, take}
use Rattle.definitions.specs.Search.{Table}
use Rattle.facets.specs.Layout.{Inputs}
use Rattle.search.specs.SearchSteps.{Step}
use Rattle.search.proofs.search.Given as goal

abbrev pub invariant-loop-s : goal.invariant-loop-s
invariant-loop-s l =
    (length l.ws ≡ length l.initial.ws) × (take l.a.frames l.ws ≡ take l.a.frames l.initial.ws)
    × ((t : Table) → Inputs t l.a l.initial.ws → Step t l.a l.course l.budget l.ws l.s.depth l.s.left)

abbrev pub decreases-loop-s : goal.decreases-loop-s
decreases-loop-s l = l.s.left * (l.a.orbits + 2) + l.s.depth
