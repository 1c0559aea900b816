-- `figure_words::write_body` meets its contract. The loop's invariant: behind the count, the numbers below `facet`
-- are written.
use Prim.Native.Nat.{◌≤◌}
use Rattle.definitions.specs.Lists.{count_from}
use Rattle.words.specs.Wrote.{Writes}
use Rattle.figure_words.proofs.write_body.Given as goal

abbrev pub invariant-loop-facet : goal.invariant-loop-facet
invariant-loop-facet l = Writes l.initial.w l.w (count_from 0 l.facet) × (l.facet ≤ l.n)
