-- `normalise` meets its contract. The invariant: the first i numbers, divided, stand in r, and zeros behind them.
-- Leans on the laws of parts.
use mathlib.Core.Path.{◌≡◌}
use mathlib.Core.List.{map}
use Prim.Native.Nat.{◌-◌, ◌≤◌}
use lib.ListN.{length, take, drop}
use lib.Ieee.{Float, binary64, div}
use Rattle.vectors.specs.Meaning.{zeros}
use Rattle.vectors.proofs.normalise.Given as goal

abbrev pub invariant-loop-i : goal.invariant-loop-i
invariant-loop-i l =
    (l.i ≤ l.d) × (length l.r ≡ 5) × (take l.i l.r ≡ map (λ (x : Float). div binary64 x l.length) (take l.i l.v))
    × (drop l.i l.r ≡ drop l.i (zeros 5))
