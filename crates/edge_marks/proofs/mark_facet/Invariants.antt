-- `edge_marks::mark_facet` meets its contract: the images of the edges that are left are still to be marked.
use mathlib.Core.Path.{◌≡◌}
use Rattle.rows.specs.Rows.{rows_in}
use Rattle.rows.specs.Marks.{marked}
use Rattle.order.specs.Areas.{list_at, left_in}
use Rattle.edge_marks.specs.Marks.{image_codes}
use Rattle.edge_marks.proofs.mark_facet.Given as goal

abbrev pub invariant-loop-edge : goal.invariant-loop-edge
invariant-loop-edge l =
    marked l.marks (image_codes (rows_in 32 l.facets.rows.count l.facets.rows.bytes.now) (left_in l.edge-iterator))
    ≡ marked l.initial.marks (image_codes (rows_in 32 l.facets.rows.count l.facets.rows.bytes.now)
    (list_at l.facets.edges.most l.facets.edges.bytes.now l.x))
