-- `kept_edges::store` meets its contract: what is pushed is the items, up to the loop's index. Assumes nothing.
use mathlib.Core.Path.{sym, ap, ◌∙◌}
use mathlib.Core.List.{map}
use native.Mathlib.Omega.{arith}
use Rattle.std.proofs.lemmas.List.{get_or-map, length-map}
use Rattle.keep.specs.Storing.{growing_none, growing_end_room, taking_push, taking_end}
use Rattle.kept_edges.proofs.store.Goals as goal

pub loop-v-init : goal.loop-v-init
loop-v-init g c = growing_none _ _ _ _ _

pub loop-v-preserved : goal.loop-v-preserved
loop-v-preserved g c =
    let n = length-map c.args.items.now g.T.Word.number in
    let h = c.loop-v-test.true in
    let e = ap g.T.Word.number c.v-item.is
    ∙ sym (get_or-map g.T.Word.number c.args.items.now c.loop-v.v-index c.v-item.result 0 h) in
    taking_push c.requires.1 (map g.T.Word.number c.args.items.now) c.loop-v.v-index c.loop-v.invariant (omega arith)
    (omega arith) _ c.push.new.s e (rw e (c.requires.2 c.loop-v.v-index (omega arith))) c.push.ensures

pub end_list-requires : goal.end_list-requires
end_list-requires g c = growing_end_room c.requires.1 c.loop-v.invariant

pub returns : goal.returns
returns g c =
    let n = length-map c.args.items.now g.T.Word.number in
    taking_end c.requires.1 (map g.T.Word.number c.args.items.now) c.loop-v.v-index c.loop-v.invariant
    (omega (arith, c.loop-v-test.false)) c.end_list.new.s c.end_list.ensures
