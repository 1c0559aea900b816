-- `chosen_points` meets its contract. The invariant: the points of the vertices so far.
use mathlib.Core.List.{map}
use lib.ListN.{take}
use Rattle.definitions.specs.Orbits.{point_at}
use Rattle.space.specs.Meaning.{points_of, HoldsPoints}
use Rattle.sets.proofs.chosen_points.Given as goal

abbrev pub invariant-loop-v : goal.invariant-loop-v
invariant-loop-v l = HoldsPoints l.chosen l.flat.d (map (point_at (points_of l.flat)) (take l.v-index l.v-items))
