-- `edge_marks::count_marks` meets its contract: a turn adds 1 for a mark and else 0 (`marks_count`), and at the end
-- `code` is 400.
use native.Mathlib.Omega.{arith}
use mathlib.Core.Path.{◌≡◌, ◌∙◌, ap}
use Prim.Native.Nat.{ℕ}
use lib.ListN.{length}
use Rattle.edge_marks.specs.Marks.{codes_marked}
use Rattle.edge_marks.specs.MarkSteps.{marks_none, marks_count}
use Rattle.edge_marks.proofs.count_marks.Goals as goal

pub loop-code-init : goal.loop-code-init
loop-code-init c = (omega arith, omega arith, marks_none _)

pub overflow_add-many : goal.overflow_add-many
overflow_add-many c =
    let l = c.loop-code in
    let r = marks_count _ l.code l.many _ c.from-many.ensures l.invariant.2 in
    omega (arith, r.1)

pub loop-code-preserved : goal.loop-code-preserved
loop-code-preserved c = let l = c.loop-code in
    let r = marks_count _ l.code l.many _ c.from-many.ensures l.invariant.2 in
    (omega arith, omega (arith, r.1), r.0)

pub returns : goal.returns
returns c = let l = c.loop-code in
    let e : l.code ≡ 400 = omega arith in
    (l.invariant.2 ∙ ap (λ (k : ℕ). length (codes_marked c.args.marks.now k)) e, omega arith)
