-- `figure_words::write_points` meets its contract. The loop's invariant: the words of the first i points are written.
use Prim.Native.Nat.{◌≤◌}
use Rattle.shapes.specs.FigureWords.{point_words}
use Rattle.words.specs.Wrote.{Writes}
use Rattle.figure_words.proofs.write_points.Given as goal

abbrev pub invariant-loop-i : goal.invariant-loop-i
invariant-loop-i l = (l.i ≤ l.n) × Writes l.initial.w l.w (point_words l.i)
