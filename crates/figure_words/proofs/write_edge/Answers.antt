-- `figure_words::write_edge` meets its contract.
use Rattle.words.specs.Wrote.{writes_as}
use Rattle.figure_words.specs.Laws.{edge_alone}
use Rattle.figure_words.proofs.write_edge.Goals as goal

pub returns : goal.returns
returns c = writes_as c.push_three.ensures (edge_alone _)
