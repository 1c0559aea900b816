-- `vertices_of` meets its contract. The invariant: what was found, and what is still to come of the set without its
-- lowest v bits, are all.
use mathlib.Core.Path.{◌≡◌}
use mathlib.Core.List.{◌++◌}
use Prim.Native.Nat.{◌/◌, ◌^◌, ◌≤◌}
use lib.ListN.{length}
use Rattle.laws.specs.Sets.{vertices_of}
use Rattle.sets.specs.Vertices.{to_come}
use Rattle.sets.proofs.vertices_of.Given as goal

abbrev pub invariant-loop-v : goal.invariant-loop-v
invariant-loop-v l =
    (length l.found.items ≤ l.v) × (l.found.items ++ to_come l.n l.v (l.set / 2 ^ l.v) ≡ vertices_of l.n l.set)
