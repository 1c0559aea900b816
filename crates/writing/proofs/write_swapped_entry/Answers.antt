-- `writing::write_swapped_entry` meets its contract.
use Rattle.words.specs.Wrote.{writes_then, writes_as}
use Rattle.writing.proofs.Segments.{swapped_entry}
use Rattle.writing.proofs.write_swapped_entry.Goals as goal

pub returns : goal.returns
returns c =
    writes_as (writes_then c.push_three.ensures
    (writes_then c.push_three-2.ensures (writes_then c.push.ensures.writes c.write_segment.ensures))) swapped_entry
