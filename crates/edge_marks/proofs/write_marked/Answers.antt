-- `edge_marks::write_marked` meets its contract.
use Rattle.words.specs.Wrote.{writes_then, writes_as}
use Rattle.edge_marks.specs.Marks.{edges_marked, codes_marked}
use Rattle.figure_words.specs.Laws.{polygon_is}
use Rattle.edge_marks.proofs.write_marked.Goals as goal

pub returns : goal.returns
unfolding edges_marked
returns c =
    writes_as (writes_then c.write_head.ensures
    (writes_then c.push.ensures.writes (writes_then c.write_marks.ensures c.write_body.ensures)))
    (polygon_is c.args.n _ (codes_marked c.args.marks.now 400) c.count_marks-edges.ensures.0)
