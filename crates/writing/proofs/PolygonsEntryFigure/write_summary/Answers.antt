-- `Polygons::write_summary` meets its contract.
use mathlib.Core.Path.{ap, ◌∙◌}
use mathlib.Core.Bool.{Bool}
use mathlib.Core.List.{List}
use lib.ListN.{length}
use Rattle.edge_marks.specs.Marks.{codes_marked}
use Rattle.edge_marks.specs.Summaries.{summary_marked}
use Rattle.words.specs.Wrote.{writes_as}
use Rattle.writing.specs.EdgesHeld.{summary_from}
use Rattle.writing.proofs.PolygonsEntryFigure.write_summary.Goals as goal

pub returns : goal.returns
unfolding summary_from
returns c =
    let marks = c.entry_marks-marks.ensures in
    let edges = c.count_marks-edges.ensures.0 ∙ ap (λ (marks : List Bool). length (codes_marked marks 400)) marks in
    writes_as c.write_summary.ensures (λ t. summary_marked c.args.self.now.n (marks t) (edges t))
