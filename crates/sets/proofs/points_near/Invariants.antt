-- `points_near` meets its contract. The invariant: the sum is the number of the points near among the first v. Leans
-- on the laws of this crate.
use mathlib.Core.Path.{◌≡◌}
use Prim.Native.Nat.{◌+◌, ◌≤◌}
use Rattle.space.specs.Meaning.{points_of, subspace_of}
use Rattle.sets.proofs.Laws.{near_from}
use Rattle.sets.proofs.points_near.Given as goal

abbrev pub invariant-loop-v : goal.invariant-loop-v
invariant-loop-v l =
    (l.v ≤ l.flat.n) × (l.sum + near_from l.tolerance (subspace_of l.plane) (points_of l.flat) l.v
    ≡ near_from l.tolerance (subspace_of l.plane) (points_of l.flat) 0)
