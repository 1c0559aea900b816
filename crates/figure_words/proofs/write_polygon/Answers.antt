-- `figure_words::write_polygon` meets its contract.
use native.Mathlib.Omega.{arith}
use Rattle.order.specs.Areas.{list_at, list_short}
use Rattle.words.specs.Wrote.{writes_then, writes_as}
use Rattle.figure_words.specs.Laws.{polygon_is}
use Rattle.figure_words.proofs.write_polygon.Goals as goal

pub overflow_cast-edges : goal.overflow_cast-edges
overflow_cast-edges c =
    omega (
      arith,
      c.length-edges.ensures,
      list_short c.args.pool.most c.args.pool.bytes.now c.args.pool.sound c.args.k c.requires.1,
    )

pub write_body-requires : goal.write_body-requires
write_body-requires c =
    omega (
      arith,
      c.length-edges.ensures,
      list_short c.args.pool.most c.args.pool.bytes.now c.args.pool.sound c.args.k c.requires.1,
    )

pub returns : goal.returns
returns c =
    writes_as (writes_then c.write_head.ensures
    (writes_then c.push.ensures.writes (writes_then c.write_edges.ensures c.write_body.ensures)))
    (polygon_is c.args.n _ (list_at c.args.pool.most c.args.pool.bytes.now c.args.k) c.length-edges.ensures)
