-- `edge_marks::mark_list` meets its contract: the facets that are left are still to be marked, and each is below the
-- bound.
use mathlib.Core.Path.{◌≡◌}
use mathlib.Core.Bool.{false}
use lib.ListN.{replicate}
use Rattle.pool.specs.Pool.{count, closed_lists}
use Rattle.rows.specs.Marks.{marked}
use Rattle.rows.specs.Rows.{rows_in}
use Rattle.order.specs.Areas.{list_of, left_in}
use Rattle.order.specs.Numbers.{ItemsBelow}
use Rattle.edge_marks.specs.Marks.{facet_codes}
use Rattle.edge_marks.proofs.mark_list.Given as goal

abbrev pub invariant-loop-x : goal.invariant-loop-x
invariant-loop-x l =
    ItemsBelow (count l.facets.edges.bytes.now) (left_in l.x-iterator)
    × (marked l.marks (facet_codes (rows_in 32 l.facets.rows.count l.facets.rows.bytes.now)
    (closed_lists 2 1024 l.facets.edges.bytes.now) (left_in l.x-iterator))
    ≡ marked (replicate 400 false) (facet_codes (rows_in 32 l.facets.rows.count l.facets.rows.bytes.now)
    (closed_lists 2 1024 l.facets.edges.bytes.now) (list_of l.lists.area l.lists.bytes.now l.k)))
