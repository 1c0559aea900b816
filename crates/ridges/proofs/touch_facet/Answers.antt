-- `ridges::touch_facet` meets its contract: the amount comes of what `count_places` counted (`counted_amount`). It is
-- pushed unless it is 0 (`touch_joins`, `touch_stays`), and the end closes the list (`joined_end`).
use mathlib.Core.Path.{◌≡◌, refl}
use mathlib.Core.List.{[]}
use native.Mathlib.Omega.{arith}
use lib.ListN.{get_or}
use Rattle.pool.specs.Pool.{closed_lists}
use Rattle.shares.specs.Areas.{area, end_asks, joined_end}
use Rattle.ridges.proofs.Tables.{counted_amount, touch_start, touch_asks, touch_joins, touch_stays}
use Rattle.ridges.proofs.touch_facet.Goals as goal
use Rattle.ridges.proofs.touch_facet.Goals.{else-added-gt0, then-added-gt0}

pub loop-ridge-init : goal.loop-ridge-init
loop-ridge-init c = (refl, omega arith, touch_start _ c.requires.3)

pub push-requires : goal.push-requires
push-requires c =
    let l = c.loop-ridge in
    touch_asks
    (get_or (closed_lists 2 1024 (area c.args.tables.shares c.args.tables.touched c.args.ws.now)) c.args.x [])
    c.requires.3 l.ridge l.invariant.2 c.loop-ridge-test.true

pub loop-ridge-preserved : goal.loop-ridge-preserved
loop-ridge-preserved c =
    let l = c.loop-ridge in
    let codes =
    get_or (closed_lists 2 1024 (area c.args.tables.shares c.args.tables.touched c.args.ws.now))
    c.args.x [] in
    let v = counted_amount c.count_places-counted.result c.count_places-counted.ensures l.ridge c.loop-ridge-test.true
    _ c.amount-added.ensures in
    elim c.if-added-gt0.branch [
      | then-added-gt0 w ↦ let j = touch_joins codes c.requires.3 l.ridge l.invariant.2 c.loop-ridge-test.true _ v
          w.if-added-gt0.true c.requires.2 _ w.push.ensures in rw w.ws-is (j.long, omega arith, j)
      | else-added-gt0 w ↦ let j = touch_stays codes c.requires.3 l.ridge l.invariant.2 _ v w.if-added-gt0.false in
          rw w.ws-is (j.long, omega arith, j)
    ]

pub end_list-requires : goal.end_list-requires
end_list-requires c = end_asks c.requires.3 c.loop-ridge.invariant.2 (omega arith)

pub returns : goal.returns
returns c =
    let l = c.loop-ridge in
    let e : l.ridge ≡ c.args.ridges = omega (arith, l.invariant.1, c.loop-ridge-test.false) in
    rw (← e) (joined_end c.requires.3 l.invariant.2 (omega arith) _ c.end_list.ensures)
