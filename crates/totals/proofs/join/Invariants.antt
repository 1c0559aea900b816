-- `totals::join` meets its contract. The loop's invariant: the workspace is the one at the start with the totals of
-- the first i codes added, and it is known whether one of them lifted a total above 2. Assumes nothing.
use mathlib.Core.Path.{◌≡◌}
use Prim.Native.Nat.{◌+◌, ◌≤◌}
use lib.ListN.{take}
use Rattle.facets.specs.Layout.{codes, touched_part, totals_part, lifted}
use Rattle.totals.specs.Change.{after_codes}
use Rattle.totals.proofs.join.Given as goal

abbrev pub invariant-loop-i : goal.invariant-loop-i
invariant-loop-i l =
    (l.i ≤ l.n) × (l.ws ≡ after_codes ◌+◌ l.a l.initial.ws l.x l.i)
    × (l.over ≡ lifted (totals_part l.a l.initial.ws) (take l.i (codes l.a (touched_part l.a l.initial.ws) l.x)))
