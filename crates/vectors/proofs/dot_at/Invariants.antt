-- `dot_at` meets its contract. The invariant: the sum is the dot product of the first i numbers. Leans on the laws of
-- this crate.
use mathlib.Core.Path.{◌≡◌}
use Prim.Native.Nat.{◌≤◌}
use lib.ListN.{take, drop}
use Rattle.definitions.specs.Vectors.{dot}
use Rattle.vectors.proofs.dot_at.Given as goal

abbrev pub invariant-loop-i : goal.invariant-loop-i
invariant-loop-i l = (l.i ≤ l.d) × (l.sum ≡ dot (take l.i l.a) (take l.i (drop l.at l.b)))
