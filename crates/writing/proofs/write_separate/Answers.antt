-- `writing::write_separate` meets its contract.
use Rattle.words.specs.Wrote.{writes_then, writes_as}
use Rattle.writing.proofs.Segments.{separate_words}
use Rattle.writing.proofs.write_separate.Goals as goal

pub returns : goal.returns
returns c =
    let vertices = writes_then c.write_vertex.ensures (writes_then c.write_vertex-2.ensures
    (writes_then c.push-2.ensures.writes c.write_segment_summary.ensures)) in
    writes_as (writes_then (rw c.spent.ensures at c.push_three.ensures)
    (writes_then c.push.ensures.writes (writes_then c.write_separate_entry.ensures vertices)))
    (separate_words c.args.budget.whole c.args.budget.rest)
