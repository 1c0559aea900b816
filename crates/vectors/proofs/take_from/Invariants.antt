-- `take_from` meets its contract. The invariant: the first i differences stand in the buffer, and what lies behind
-- them is as it was. Leans on the laws of this crate and on those of parts.
use mathlib.Core.Path.{◌≡◌}
use Prim.Native.Nat.{◌≤◌}
use lib.ListN.{length, take, drop}
use Rattle.definitions.specs.Vectors.{minus}
use Rattle.vectors.proofs.take_from.Given as goal

abbrev pub invariant-loop-i : goal.invariant-loop-i
invariant-loop-i l =
    (l.i ≤ l.d) × (length l.out ≡ length l.initial.out)
    × (take l.i l.out ≡ minus (take l.i (drop l.at l.p)) (take l.i l.q)) × (drop l.i l.out ≡ drop l.i l.initial.out)
