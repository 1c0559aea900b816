-- `labels::is_left` meets its contract: a turn takes an item of list b (`left_taken`) or of list c (`left_passed`),
-- and any other item decides (`left_over`, `left_wrong`). At the end all three lists have ended (`left_ended`).
use mathlib.Core.Path.{sym, ◌∙◌}
use native.Mathlib.Omega.{arith}
use Rattle.order.specs.Areas.{list_of, place_short}
use Rattle.labels.proofs.Walking.{left_over, left_wrong, left_passed, left_taken, left_ended, leaves_length}
use Rattle.labels.proofs.is_left.Goals as goal
use Rattle.labels.proofs.is_left.Goals.{then-x-y+else-next_at-x, else-x-y}

pub overflow_add-n : goal.overflow_add-n
overflow_add-n c =
    omega (
      arith,
      place_short _ _ _ _ _ c.requires.1 c.args.lists.holding,
      place_short _ _ _ _ _ c.requires.2 c.args.lists.holding,
    )

pub returns-then-n-l : goal.returns-then-n-l
returns-then-n-l c =
    sym (leaves_length (list_of c.args.lists.area c.args.lists.bytes.now c.args.a)
    (list_of c.args.lists.area c.args.lists.bytes.now c.args.b)
    (list_of c.args.lists.area c.args.lists.bytes.now c.args.c) (λ e. c.if-n-l.true (omega arith)))

pub returns-then-y-x : goal.returns-then-y-x
returns-then-y-x c = let l = c.loop-i in
    let g = c.from-x in
    left_over _ _ _ l.i l.j l.invariant g.result (omega arith) (g.ensures ∙ c.item.ensures) (omega arith) (omega arith)

pub returns-then-next_at-x : goal.returns-then-next_at-x
returns-then-next_at-x c = let l = c.loop-i in
    let g = c.from-x in
    left_wrong _ _ _ l.i l.j l.invariant g.result (omega arith) (g.ensures ∙ c.item.ensures) (omega arith)
    (omega arith) (λ e. c.if-next_at-x.true (omega arith))

pub loop-i-preserved : goal.loop-i-preserved
loop-i-preserved c = let l = c.loop-i in
    let g = c.from-x in
    elim c.if-x-y.branch [
      | then-x-y+else-next_at-x w ↦ rw w.j-is (left_passed _ _ _ l.i l.j l.invariant g.result (omega arith)
          (g.ensures ∙ c.item.ensures) (omega arith) (omega arith) (omega arith))
      | else-x-y w ↦ rw w.j-is (left_taken _ _ _ l.i l.j l.invariant g.result (omega arith)
          (g.ensures ∙ c.item.ensures) (omega arith) (omega arith))
    ]

pub returns : goal.returns
returns c = let l = c.loop-i in
    left_ended _ _ _ l.i l.j l.invariant (omega arith) (omega arith)
