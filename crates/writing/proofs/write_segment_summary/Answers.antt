-- `writing::write_segment_summary` meets its contract.
use Rattle.words.specs.Wrote.{writes_as}
use Rattle.writing.proofs.Segments.{segment_summary}
use Rattle.writing.proofs.write_segment_summary.Goals as goal

pub returns : goal.returns
returns c = writes_as c.write_summary.ensures segment_summary
