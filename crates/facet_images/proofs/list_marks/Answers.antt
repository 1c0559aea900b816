-- `facet_images::list_marks` meets its contract: a turn marks the next facet, and none is left at the end.
use mathlib.Core.Bool.{true}
use mathlib.Core.Path.{refl, sym, ap, subst, ◌∙◌}
use Prim.Native.Nat.{ℕ}
use native.Mathlib.Omega.{arith}
use lib.ListN.{set, length-set}
use Rattle.laws.specs.Lists.{Mem, here, there}
use Rattle.rows.specs.Marks.{marked}
use Rattle.order.specs.Areas.{left_in}
use Rattle.facet_images.proofs.list_marks.Goals as goal

pub bounds-marks-from : goal.bounds-marks-from
bounds-marks-from c =
    omega (
      arith,
      c.from.ensures,
      c.loop-x.invariant.1 c.in-Some.x (subst (Mem c.in-Some.x) (sym c.in-Some.ensures.steps) (here refl)),
    )

pub loop-x-preserved : goal.loop-x-preserved
unfolding marked
loop-x-preserved c =
    let at-loop = c.loop-x in
    let first = c.in-Some.ensures.steps in (
      length-set at-loop.marks _ _ ∙ at-loop.invariant.0,
      λ y i. at-loop.invariant.1 y (subst (Mem y) (sym first) (there i)),
      ap (λ (x : ℕ). marked (set at-loop.marks x true) (left_in c.next.new.self)) c.from.ensures
          ∙ (ap (marked at-loop.marks) (sym first) ∙ at-loop.invariant.2),
    )

pub returns : goal.returns
unfolding marked
returns c = ap (marked c.loop-x.marks) (sym c.in-None.ensures.steps.0) ∙ c.loop-x.invariant.2
