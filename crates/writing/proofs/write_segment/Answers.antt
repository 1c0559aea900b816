-- `writing::write_segment` meets its contract.
use Rattle.words.specs.Wrote.{writes_as}
use Rattle.writing.proofs.Segments.{segment_words}
use Rattle.writing.proofs.write_segment.Goals as goal

pub returns : goal.returns
returns c = writes_as c.write_edge_figure.ensures segment_words
