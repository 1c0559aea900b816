-- `labels::items_found` meets its contract: the item of list a is the one sought, below it, or above it
-- (`items_same`, `items_pass`, `items_above`). At the end all items of list b are found (`items_end`).
use mathlib.Core.Path.{◌∙◌}
use Prim.Native.Nat.{◌<◌}
use native.Mathlib.Omega.{arith}
use lib.ListN.{length}
use Rattle.laws.specs.Lists.{read_inside}
use Rattle.order.specs.Areas.{list_of}
use Rattle.labels.proofs.Walking.{before_end, items_above, items_same, items_pass, items_end}
use Rattle.labels.proofs.items_found.Goals as goal
use Rattle.labels.proofs.items_found.Goals.{then-item-sought, else-item-sought}

pub returns-then-sought-item : goal.returns-then-sought-item
returns-then-sought-item c =
    let s = c.args.lists.bytes.now in
    let x = list_of c.args.lists.area s c.args.a in
    let y = list_of c.args.lists.area s c.args.b in
    let l = c.loop-j in
    let g = c.from-sought in
    let inside : l.j < length y = omega arith in
    items_above x y l.i l.j l.invariant.2 g.result inside
    (g.ensures ∙ (c.item.ensures ∙ read_inside y l.j 0 65536 inside)) (omega arith) (omega arith)

pub loop-j-preserved : goal.loop-j-preserved
loop-j-preserved c =
    let s = c.args.lists.bytes.now in
    let x = list_of c.args.lists.area s c.args.a in
    let y = list_of c.args.lists.area s c.args.b in
    let l = c.loop-j in
    let g = c.from-sought in
    let inside : l.j < length y = omega arith in
    let is_y = g.ensures ∙ (c.item.ensures ∙ read_inside y l.j 0 65536 inside) in
    let before : l.i < length x = before_end x l.i (omega arith) in
    elim c.if-item-sought.branch [
      | then-item-sought w ↦ rw w.j-is (
        omega arith,
        omega arith,
        items_same x y l.i l.j l.invariant.2 g.result inside is_y (omega arith) (omega arith),
      )
      | else-item-sought w ↦ rw w.j-is (
        omega arith,
        omega arith,
        items_pass x y l.i l.j l.invariant.2 g.result inside is_y (omega arith) (omega arith),
      )
    ]

pub returns : goal.returns
returns c =
    let s = c.args.lists.bytes.now in
    let l = c.loop-j in
    items_end (list_of c.args.lists.area s c.args.a) (list_of c.args.lists.area s c.args.b) l.i l.j l.invariant.2
    (omega arith)
