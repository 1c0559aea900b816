-- `writing::write_separate_entry` meets its contract.
use Rattle.words.specs.Wrote.{writes_then, writes_as}
use Rattle.writing.proofs.Segments.{separate_entry}
use Rattle.writing.proofs.write_separate_entry.Goals as goal

pub returns : goal.returns
returns c =
    writes_as (writes_then c.push_three.ensures
    (writes_then c.push_three-2.ensures (writes_then c.push_three-3.ensures (writes_then c.push.ensures.writes
    (writes_then c.push-2.ensures.writes c.write_segment.ensures))))) separate_entry
