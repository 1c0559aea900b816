-- `load::vector_at` meets its contract. The invariant: the first i numbers stand in v, and zeros behind them. Assumes
-- nothing.
use mathlib.Core.Path.{◌≡◌}
use Prim.Native.Nat.{◌-◌, ◌≤◌}
use lib.ListN.{length, take, drop}
use Rattle.definitions.specs.Job.{floats_at}
use Rattle.vectors.specs.Meaning.{zeros}
use Rattle.load.proofs.vector_at.Given as goal

abbrev pub invariant-loop-i : goal.invariant-loop-i
invariant-loop-i l =
    (l.i ≤ l.d) × (length l.v ≡ 5) × (take l.i l.v ≡ floats_at l.job l.at l.i) × (drop l.i l.v ≡ drop l.i (zeros 5))
