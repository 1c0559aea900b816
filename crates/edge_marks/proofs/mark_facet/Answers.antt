-- `edge_marks::mark_facet` meets its contract: an edge's images are marked, and none is left at the end. Assumes
-- nothing.
use mathlib.Core.Path.{sym, ap, ◌∙◌}
use mathlib.Core.List.{List}
use Prim.Native.Nat.{ℕ}
use Rattle.rows.specs.Rows.{rows_in}
use Rattle.rows.specs.Codes.{pair_of, pair_codes}
use Rattle.rows.specs.Marks.{marked}
use Rattle.order.specs.Areas.{list_at, left_in}
use Rattle.edge_marks.specs.Marks.{image_codes}
use Rattle.edge_marks.specs.MarkSteps.{marked_first, marked_none}
use Rattle.edge_marks.proofs.mark_facet.Goals as goal

pub loop-edge-preserved : goal.loop-edge-preserved
unfolding image_codes pair_of
loop-edge-preserved c = let l = c.loop-edge in let f = c.args.facets in
    let rows = rows_in 32 f.rows.count f.rows.bytes.now in
    let after = c.mark_pair_images.ensures
    ∙ ap (λ (code : ℕ). marked l.marks (pair_codes rows (pair_of code))) c.from-code.ensures in
    marked_first (λ (code : ℕ). pair_codes rows (pair_of code)) l.marks c.in-Some.edge
    (left_in c.next.new.self) after c.in-Some.ensures.steps ∙ l.invariant

pub returns : goal.returns
unfolding image_codes
returns c = let l = c.loop-edge in let f = c.args.facets in
    let rows = rows_in 32 f.rows.count f.rows.bytes.now in
    marked_none (λ (code : ℕ). pair_codes rows (pair_of code)) l.marks
    ∙ (ap (λ (codes : List ℕ). marked l.marks (image_codes rows codes)) (sym c.in-None.ensures.steps.0)
    ∙ (l.invariant ∙ ap (λ (most : ℕ).
    marked c.args.marks.now (image_codes rows (list_at most f.edges.bytes.now c.args.x))) f.most))
