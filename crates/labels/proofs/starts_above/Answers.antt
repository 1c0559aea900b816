-- `labels::starts_above` meets its contract. An empty list begins above none. Assumes nothing.
use mathlib.Core.Logic.{inl, inr}
use native.Mathlib.Omega.{arith}
use Rattle.order.specs.Areas.{list_of}
use Rattle.labels.proofs.Walking.{above_none, above_first}
use Rattle.labels.proofs.starts_above.Goals as goal

pub returns-then-length-eq0 : goal.returns-then-length-eq0
returns-then-length-eq0 c =
    above_none (list_of c.args.lists.area c.args.lists.bytes.now c.args.b)
    (list_of c.args.lists.area c.args.lists.bytes.now c.args.a) (inl (omega arith))

pub returns-then-length-eq0-2 : goal.returns-then-length-eq0-2
returns-then-length-eq0-2 c =
    above_none (list_of c.args.lists.area c.args.lists.bytes.now c.args.b)
    (list_of c.args.lists.area c.args.lists.bytes.now c.args.a) (inr (omega arith))

pub returns : goal.returns
returns c =
    above_first (list_of c.args.lists.area c.args.lists.bytes.now c.args.b)
    (list_of c.args.lists.area c.args.lists.bytes.now c.args.a) c.item.result c.item-2.result (omega arith)
    (omega arith) c.item.ensures c.item-2.ensures
