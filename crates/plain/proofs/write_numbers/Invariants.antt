-- `plain::write_numbers` meets its contract. Invariant: behind the count the first i numbers are written. Assumes
-- nothing.
use Prim.Native.Nat.{◌-◌, ◌≤◌}
use lib.ListN.{drop}
use Rattle.words.specs.Words.{words}
use Rattle.words.specs.Wrote.{Writes}
use Rattle.plain.proofs.write_numbers.Given as goal

abbrev pub invariant-loop-i : goal.invariant-loop-i
invariant-loop-i l = (l.i ≤ l.many) × Writes l.initial.w l.w (words 4 (drop l.from l.s) l.i)
