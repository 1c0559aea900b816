-- `writing::write_parts` meets its contract.
use Rattle.words.specs.Wrote.{writes_then}
use Rattle.writing.specs.EdgesHeld.{parts_from}
use Rattle.writing.proofs.write_parts.Goals as goal

pub returns : goal.returns
unfolding parts_from
returns g c =
    let left = c.left-left.ensures in
    let front = rw (left.0, left.1) at c.write_front.ensures in
    let possible = rw (
      c.owners.ensures.0,
      c.owners.ensures.1,
      c.edges.ensures.0,
      c.edges.ensures.1,
      left.0,
      left.1,
    ) at c.write_possible.ensures in
    let labels = rw (left.0, left.1) at c.write_labels.ensures in
    writes_then (writes_then (writes_then (writes_then front c.write_entries.ensures) possible) labels)
    c.write_summaries.ensures
