-- `Polygons::write_figure` meets its contract.
use mathlib.Core.Path.{ap}
use mathlib.Core.Bool.{Bool}
use mathlib.Core.List.{List}
use Rattle.definitions.specs.Job.{figure_words}
use Rattle.shapes.specs.EdgeSets.{polygon}
use Rattle.edge_marks.specs.Marks.{edges_marked}
use Rattle.words.specs.Wrote.{writes_as}
use Rattle.writing.specs.EdgesHeld.{polygon_from}
use Rattle.writing.proofs.PolygonsEntryFigure.write_figure.Goals as goal

pub returns : goal.returns
unfolding polygon_from
returns c =
    writes_as c.write_marked.ensures (ap (λ (marks : List Bool).
    figure_words (polygon c.args.self.now.n (edges_marked marks))) c.entry_marks-marks.ensures)
