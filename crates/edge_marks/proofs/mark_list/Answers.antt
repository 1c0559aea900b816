-- `edge_marks::mark_list` meets its contract: a facet's images are marked, and none is left at the end. Assumes
-- nothing.
use mathlib.Core.List.{List, []}
use mathlib.Core.Path.{refl, subst, sym, ap, ◌∙◌}
use Prim.Native.Nat.{◌<◌, ℕ}
use lib.ListN.{get_or}
use Rattle.laws.specs.Lists.{Mem, here, there}
use Rattle.pool.specs.Pool.{count, closed_lists}
use Rattle.rows.specs.Marks.{marked}
use Rattle.rows.specs.Rows.{rows_in}
use Rattle.order.specs.Areas.{list_at, left_in}
use Rattle.edge_marks.specs.Marks.{image_codes, marks_of, facet_codes}
use Rattle.edge_marks.specs.MarkSteps.{marked_first, marked_none}
use Rattle.edge_marks.proofs.mark_list.Goals as goal

pub mark_facet-requires : goal.mark_facet-requires
mark_facet-requires c = let l = c.loop-x in
    subst (λ (x : ℕ). x < count c.args.facets.edges.bytes.now) (sym c.from.ensures)
    (l.invariant.0 c.in-Some.x (subst (Mem c.in-Some.x) (sym c.in-Some.ensures.steps) (here refl)))

pub loop-x-preserved : goal.loop-x-preserved
unfolding facet_codes list_at
loop-x-preserved c = let l = c.loop-x in let f = c.args.facets in
    let rows = rows_in 32 f.rows.count f.rows.bytes.now in
    let edges = closed_lists 2 1024 f.edges.bytes.now in
    let after = c.mark_facet.ensures
    ∙ ap (λ (x : ℕ). marked l.marks (image_codes rows (get_or edges x []))) c.from.ensures in (
      λ y i. l.invariant.0 y (subst (Mem y) (sym c.in-Some.ensures.steps) (there i)),
      marked_first (λ (x : ℕ). image_codes rows (get_or edges x [])) l.marks c.in-Some.x
          (left_in c.next.new.self) after c.in-Some.ensures.steps ∙ l.invariant.1,
    )

pub returns : goal.returns
unfolding marks_of facet_codes
returns c = let l = c.loop-x in let f = c.args.facets in
    let rows = rows_in 32 f.rows.count f.rows.bytes.now in
    let edges = closed_lists 2 1024 f.edges.bytes.now in
    marked_none (λ (x : ℕ). image_codes rows (get_or edges x [])) l.marks
    ∙ (ap (λ (facets : List ℕ). marked l.marks (facet_codes rows edges facets)) (sym c.in-None.ensures.steps.0)
    ∙ l.invariant.1)
