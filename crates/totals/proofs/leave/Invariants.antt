-- `totals::leave` meets its contract. The loop's invariant: the workspace is the one at the start with the totals of
-- the first i codes taken off. Assumes nothing.
use mathlib.Core.Path.{◌≡◌}
use Prim.Native.Nat.{◌-◌, ◌≤◌}
use Rattle.totals.specs.Change.{after_codes}
use Rattle.totals.proofs.leave.Given as goal

abbrev pub invariant-loop-i : goal.invariant-loop-i
invariant-loop-i l = (l.i ≤ l.n) × (l.ws ≡ after_codes ◌-◌ l.a l.initial.ws l.x l.i)
