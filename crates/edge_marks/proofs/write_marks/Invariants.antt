-- `edge_marks::write_marks` meets its contract. The loop's invariant: the edges of the marks below `code` are
-- written.
use mathlib.Core.List.{map}
use Prim.Native.Nat.{◌≤◌}
use Rattle.rows.specs.Codes.{pair_of}
use Rattle.shapes.specs.FigureWords.{edge_words}
use Rattle.edge_marks.specs.Marks.{codes_marked}
use Rattle.words.specs.Wrote.{Writes}
use Rattle.edge_marks.proofs.write_marks.Given as goal

abbrev pub invariant-loop-code : goal.invariant-loop-code
invariant-loop-code l = (l.code ≤ 400) × Writes l.initial.w l.w (edge_words (map pair_of (codes_marked l.marks l.code)))
