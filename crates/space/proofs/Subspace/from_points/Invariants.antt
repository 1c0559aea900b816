-- `Subspace::from_points` meets its contract. The invariant: to add the points from i on to s gives what is to be
-- given. Leans on the laws of this crate.
use mathlib.Core.Path.{◌≡◌}
use Prim.Native.Nat.{◌≤◌}
use lib.ListN.{drop}
use Rattle.definitions.specs.Subspace.{add_points, from_points}
use Rattle.space.specs.Meaning.{subspace_of, points_of}
use Rattle.space.proofs.Subspace.from_points.Given as goal

abbrev pub invariant-loop-i : goal.invariant-loop-i
invariant-loop-i l =
    (l.i ≤ l.points.n) × (l.s.d ≡ l.points.d)
    × (add_points l.tolerance (subspace_of l.s) (drop l.i (points_of l.points))
    ≡ from_points l.tolerance (points_of l.points))
