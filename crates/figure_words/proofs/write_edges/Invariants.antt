-- `figure_words::write_edges` meets its contract: the edges so far are written, and the others are left.
use mathlib.Core.List.{◌++◌, map}
use mathlib.Core.Path.{◌≡◌}
use Rattle.rows.specs.Codes.{pair_of}
use Rattle.order.specs.Areas.{list_at, left_in}
use Rattle.shapes.specs.FigureWords.{edge_words}
use Rattle.words.specs.Wrote.{Writes}
use Rattle.figure_words.proofs.write_edges.Given as goal

abbrev pub invariant-loop-edge : goal.invariant-loop-edge
invariant-loop-edge l =
    Writes l.initial.w l.w (edge_words (map pair_of l.yielded))
    × (l.yielded ++ left_in l.edge-iterator ≡ list_at l.pool.most l.pool.bytes.now l.k)
