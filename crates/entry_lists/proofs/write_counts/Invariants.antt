-- `entry_lists::write_counts` meets its contract. The loop's invariant: behind the number of orbits, the counts of
-- the first i are written.
use mathlib.Core.List.{map}
use Prim.Native.Nat.{◌≤◌}
use Rattle.definitions.specs.Lists.{Pair}
use Rattle.orbits.specs.Workspace.{orbits_in}
use Rattle.words.specs.Wrote.{Writes}
use Rattle.entry_lists.proofs.write_counts.Given as goal

abbrev pub invariant-loop-i : goal.invariant-loop-i
invariant-loop-i l = (l.i ≤ l.orbits) × Writes l.initial.w l.w (map (λ (p : Pair). p.1) (orbits_in l.ws l.i))
