-- `facet_images::edge_numbers` meets its contract: a turn gives one code its number (`numbers_more`) and counts its
-- mark (`marks_count`), and at the end `code` is 400.
use native.Mathlib.Omega.{arith}
use Rattle.edge_marks.specs.MarkSteps.{marks_none, marks_count}
use Rattle.facet_images.proofs.Choosing.{numbers_none, numbers_more, numbers_all}
use Rattle.facet_images.proofs.edge_numbers.Goals as goal

pub loop-code-init : goal.loop-code-init
loop-code-init c = (omega arith, omega arith, marks_none _, numbers_none _)

pub overflow_add-many : goal.overflow_add-many
overflow_add-many c =
    let l = c.loop-code in
    let r = marks_count _ l.code l.many _ c.from-many.ensures l.invariant.2 in
    omega (arith, r.1)

pub loop-code-preserved : goal.loop-code-preserved
loop-code-preserved c = let l = c.loop-code in
    let r = marks_count _ l.code l.many _ c.from-many.ensures l.invariant.2 in (
      omega arith,
      omega (arith, r.1),
      r.0,
      numbers_more _ _ l.code l.many (omega arith) l.invariant.2 l.invariant.1 l.invariant.3,
    )

pub returns : goal.returns
returns c = let l = c.loop-code in numbers_all _ _ l.code (omega arith) l.invariant.3
