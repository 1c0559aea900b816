-- `figure_words::write_edge_figure` meets its contract.
use Rattle.words.specs.Wrote.{writes_then, writes_as}
use Rattle.figure_words.specs.Laws.{edge_figure_holds}
use Rattle.figure_words.proofs.write_edge_figure.Goals as goal

pub returns : goal.returns
returns c =
    writes_as (writes_then c.write_head.ensures (writes_then c.push.ensures.writes c.write_edge.ensures))
    (edge_figure_holds _)
