-- `writing::write_vertex` meets its contract.
use Rattle.words.specs.Wrote.{writes_then, writes_as}
use Rattle.writing.proofs.Segments.{ridge_words}
use Rattle.writing.proofs.write_vertex.Goals as goal

pub returns : goal.returns
returns c =
    writes_as (writes_then c.push_three.ensures (writes_then c.push_three-2.ensures c.push_three-3.ensures))
    (ridge_words _)
