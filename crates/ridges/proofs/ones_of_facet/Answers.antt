-- `ridges::ones_of_facet` meets its contract: a place with a share of 1 in the ridge orbit pushes the facet
-- (`ones_joins`), another is passed (`ones_stays`), and at the end i is n (`ones_end`).
use Rattle.shares.specs.Laying.{length_read, item_asks, item_read}
use Rattle.ridges.proofs.Tables.{ones_start, ones_asks, ones_joins, ones_stays, ones_end}
use mathlib.Core.Path.{refl, ◌∙◌}
use mathlib.Core.List.{[]}
use Prim.Native.Nat.{◌<◌}
use native.Mathlib.Omega.{arith}
use lib.ListN.{length, get_or}
use Rattle.pool.specs.Pool.{closed_lists}
use Rattle.shares.specs.Areas.{area, area_kept}
use Rattle.ridges.proofs.ones_of_facet.Goals as goal
use Rattle.ridges.proofs.ones_of_facet.Goals.{else-ridge-code, then-ridge-code}

pub loop-i-init : goal.loop-i-init
loop-i-init c = (
  refl,
  c.list_length-n.ensures
      ∙ length_read 2 1024 _ c.requires.0.sound c.args.x c.requires.1,
  omega arith,
  ones_start _ _ _ c.requires.3,
)

pub item-requires : goal.item-requires
item-requires c = let l = c.loop-i in
    let e = area_kept c.args.tables.ones c.args.tables.shares c.args.tables.touched c.args.ws.now
    l.ws l.invariant.3.front c.requires.0.order c.requires.0.before in
    rw e (item_asks 2 1024 _ c.requires.0.sound c.args.x c.requires.1 l.i (omega (
      arith,
      l.invariant.1,
      c.loop-i-test.true,
    )))

pub push-requires : goal.push-requires
push-requires c = let l = c.loop-i in
    let e = area_kept c.args.tables.ones c.args.tables.shares c.args.tables.touched c.args.ws.now
    l.ws l.invariant.3.front c.requires.0.order c.requires.0.before in
    let h : l.i < length (get_or (closed_lists 2 1024
    (area c.args.tables.shares c.args.tables.touched c.args.ws.now)) c.args.x []) =
    omega (arith, l.invariant.1, c.loop-i-test.true) in
    let v = c.from-code.ensures
    ∙ ((rw e at c.item.ensures) ∙ item_read 2 1024 _ c.requires.0.sound c.args.x c.requires.1 l.i h) in
    ones_asks c.args.ridge c.args.x _ c.requires.3 l.i l.invariant.3 h _ v c.if-ridge-code.true

pub loop-i-preserved : goal.loop-i-preserved
loop-i-preserved c = let l = c.loop-i in
    let e = area_kept c.args.tables.ones c.args.tables.shares c.args.tables.touched c.args.ws.now
    l.ws l.invariant.3.front c.requires.0.order c.requires.0.before in
    let h : l.i < length (get_or (closed_lists 2 1024
    (area c.args.tables.shares c.args.tables.touched c.args.ws.now)) c.args.x []) =
    omega (arith, l.invariant.1, c.loop-i-test.true) in
    let v = c.from-code.ensures
    ∙ ((rw e at c.item.ensures) ∙ item_read 2 1024 _ c.requires.0.sound c.args.x c.requires.1 l.i h) in
    elim c.if-ridge-code.branch [
      | then-ridge-code w ↦ let j = ones_joins c.args.ridge c.args.x _ c.requires.3 l.i l.invariant.3 h _ v
          w.if-ridge-code.true (omega (arith, c.requires.0.sound.few, c.requires.1)) _ w.push.ensures in
          rw w.ws-is (j.long, l.invariant.1, omega arith, j)
      | else-ridge-code w ↦ let j =
          ones_stays c.args.ridge c.args.x _ c.requires.3 l.i l.invariant.3 h _ v w.if-ridge-code.false in
          rw w.ws-is (j.long, l.invariant.1, omega arith, j)
    ]

pub returns : goal.returns
returns c =
    let l = c.loop-i in
    ones_end c.args.ridge c.args.x _ c.requires.3 l.i l.invariant.3
    (omega (arith, l.invariant.1, c.loop-i-test.false))
