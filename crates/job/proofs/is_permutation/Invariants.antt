-- `job::is_permutation` meets its contract. The invariant: the bytes from the i-th on decide, with the marks of those
-- before. Assumes nothing.
use mathlib.Core.Path.{◌≡◌}
use Prim.Native.Nat.{◌≤◌}
use lib.ListN.{length}
use Rattle.laws.specs.Tests.{MarksDecide}
use Rattle.job.proofs.is_permutation.Given as goal

abbrev pub invariant-loop-i : goal.invariant-loop-i
invariant-loop-i l = (l.i ≤ l.n) × (length l.marks ≡ 20) × MarksDecide l.job l.at l.n l.marks l.i
