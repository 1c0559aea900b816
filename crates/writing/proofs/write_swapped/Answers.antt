-- `writing::write_swapped` meets its contract.
use Rattle.words.specs.Wrote.{writes_then, writes_as}
use Rattle.writing.proofs.Segments.{swapped_words}
use Rattle.writing.proofs.write_swapped.Goals as goal

pub returns : goal.returns
returns c =
    writes_as (writes_then (rw c.spent.ensures at c.push_three.ensures) (writes_then c.write_swapped_entry.ensures
    (writes_then c.write_vertex.ensures (writes_then c.push.ensures.writes c.write_segment_summary.ensures))))
    (swapped_words c.args.budget.whole c.args.budget.rest)
