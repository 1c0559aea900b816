-- `Edges::write` meets its contract.
use mathlib.Core.Path.{ap}
use Prim.Native.Nat.{ℕ}
use Rattle.definitions.specs.Job.{figure_words}
use Rattle.rows.specs.Codes.{pair_of}
use Rattle.shapes.specs.Edges.{edge_figure}
use Rattle.words.specs.Wrote.{writes_as}
use Rattle.possible_facets.specs.Possible.{edge_figure_words}
use Rattle.possible_facets.proofs.EdgesFacetFigure.write.Goals as goal

pub returns : goal.returns
unfolding edge_figure_words
returns c =
    writes_as c.write_edge_figure.ensures
    (ap (λ (v : ℕ). figure_words (edge_figure (pair_of v))) c.first_code.ensures.0)
