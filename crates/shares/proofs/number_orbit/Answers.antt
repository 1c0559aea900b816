-- `shares::number_orbit` meets its contract: the ridges lie before what is written and stay (`area_kept`). A turn
-- numbers one ridge more (`step_more`), and the end closes the list (`step_end`).
use mathlib.Core.Path.{ap, ◌∙◌}
use Prim.Native.Nat.{ℕ, ◌%◌, ◌<◌}
use Rattle.shares.specs.Areas.{area_kept, area}
use Rattle.shares.specs.Laying.{length_read, item_asks, item_read}
use Rattle.numbering.proofs.Images.{sent_small}
use Rattle.shares.proofs.Numbers.{numbers_start, step_asks, step_push, step_more, step_end_asks, step_end}
use mathlib.Core.List.{[]}
use native.Mathlib.Omega.{arith}
use lib.ListN.{length, get_or}
use Rattle.pool.specs.Pool.{closed_lists}
use Rattle.shares.proofs.number_orbit.Goals as goal

pub loop-i-init : goal.loop-i-init
loop-i-init c = (
  c.list_length-n.ensures
      ∙ length_read 4 256 _ c.requires.0.sound c.args.o c.requires.1,
  numbers_start c.requires.2 _,
)

pub item-code-requires : goal.item-code-requires
item-code-requires c = let l = c.loop-i in
    let e = area_kept c.args.tables.numbers c.args.layout.ridges c.args.layout.places c.args.ws.now l.ws
    l.invariant.1.front c.requires.0.order c.requires.0.before in
    rw e (item_asks 4 256 _ c.requires.0.sound c.args.o c.requires.1 l.i (omega (arith, l.invariant.0)))

pub number-number-requires : goal.number-number-requires
number-number-requires c = let l = c.loop-i in
    let e = area_kept c.args.tables.numbers c.args.layout.ridges c.args.layout.places c.args.ws.now l.ws
    l.invariant.1.front c.requires.0.order c.requires.0.before in
    let h : l.i < length
    (get_or (closed_lists 4 256 (area c.args.layout.ridges c.args.layout.places c.args.ws.now)) c.args.o []) =
    omega (arith, l.invariant.0, c.loop-i-test.true) in
    let v = rw e at c.item-code.ensures ∙ item_read 4 256 _ c.requires.0.sound c.args.o c.requires.1 l.i h in
    let k = ap (λ (x : ℕ). x % 65536) v in
    let t = rw (← k) at (c.requires.0.sent c.args.o l.i h) in (
      c.requires.0.rows_few,
      sent_small _ t,
      t,
      step_asks c.requires.2 l.invariant.1 h _ k c.requires.3.0 c.requires.3.1 c.requires.3.2,
    )

pub push-requires : goal.push-requires
push-requires c =
    let l = c.loop-i in
    step_push c.requires.2 l.invariant.1
    (omega (arith, l.invariant.0, c.loop-i-test.true)) c.requires.3.0 c.requires.3.1

pub loop-i-preserved : goal.loop-i-preserved
loop-i-preserved c = let l = c.loop-i in
    let e = area_kept c.args.tables.numbers c.args.layout.ridges c.args.layout.places c.args.ws.now l.ws
    l.invariant.1.front c.requires.0.order c.requires.0.before in
    let h : l.i < length
    (get_or (closed_lists 4 256 (area c.args.layout.ridges c.args.layout.places c.args.ws.now)) c.args.o []) =
    omega (arith, l.invariant.0, c.loop-i-test.true) in
    let v = rw e at c.item-code.ensures ∙ item_read 4 256 _ c.requires.0.sound c.args.o c.requires.1 l.i h in
    let k = ap (λ (x : ℕ). x % 65536) v in (
      l.invariant.0,
      step_more c.requires.2 l.invariant.1 h _ k _ (omega (
        arith,
        c.number-number.type_inv,
      )) _ c.number-number.ensures _ c.push.ensures c.requires.3.0 c.requires.3.1,
    )

pub end_list-requires : goal.end_list-requires
end_list-requires c =
    let l = c.loop-i in
    step_end_asks c.requires.2 l.invariant.1
    (omega (arith, l.invariant.0, c.loop-i-test.false)) c.requires.3.0 c.requires.3.1

pub returns : goal.returns
returns c =
    λ keys st few. let l = c.loop-i in step_end c.requires.2 l.invariant.1
    (omega (arith, l.invariant.0, c.loop-i-test.false)) _ c.end_list.ensures keys st
