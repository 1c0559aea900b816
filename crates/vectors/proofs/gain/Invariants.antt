-- `gain` meets its contract. The invariant: the first i numbers have gained theirs, and the rest are as they were.
-- Leans on the laws of this crate and on those of parts.
use mathlib.Core.Path.{◌≡◌}
use Prim.Native.Nat.{◌≤◌}
use lib.ListN.{length, take, drop}
use Rattle.definitions.specs.Vectors.{plus_times}
use Rattle.vectors.proofs.gain.Given as goal

abbrev pub invariant-loop-i : goal.invariant-loop-i
invariant-loop-i l =
    (l.i ≤ l.d) × (length l.q ≡ length l.initial.q) × (take l.i l.q
    ≡ plus_times (take l.i l.initial.q) (take l.i (drop l.at l.b)) l.s) × (drop l.i l.q ≡ drop l.i l.initial.q)
