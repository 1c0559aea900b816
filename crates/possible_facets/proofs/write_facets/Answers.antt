-- `possible_facets::write_facets` meets its contract: a turn writes the figure of one facet more (`stretch_more`).
use native.Mathlib.Omega.{arith}
use Rattle.pool.specs.Pool.{closed_length, closed_lists}
use Rattle.order.specs.Areas.{list_at}
use Rattle.words.specs.Wrote.{writes_none, writes_then, writes_as}
use Rattle.possible_facets.proofs.Stretches.{stretch_none, stretch_more}
use Rattle.possible_facets.proofs.write_facets.Goals as goal

pub loop-x-init : goal.loop-x-init
loop-x-init g c = (
  omega arith,
  omega arith,
  writes_as (writes_none _) (stretch_none (g.T.FacetFigure.words c.args.points)
      (closed_lists 2 c.args.edges.most c.args.edges.bytes.now) c.args.from),
)

pub loop-x-preserved : goal.loop-x-preserved
unfolding list_at
loop-x-preserved g c = let l = c.loop-x in let edges = closed_lists 2 c.args.edges.most c.args.edges.bytes.now in
    let n = closed_length 2 c.args.edges.most c.args.edges.bytes.now in (
      omega arith,
      omega arith,
      writes_as (writes_then l.invariant.2 c.write.ensures) (stretch_more
          (g.T.FacetFigure.words c.args.points) edges c.args.from l.x l.invariant.0 (omega (arith, c.requires.2))),
    )
