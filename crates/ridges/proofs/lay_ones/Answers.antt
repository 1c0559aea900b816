-- `ridges::lay_ones` meets its contract: the shares lie before what is written and stay (`area_kept`). A turn lays
-- the list of one ridge orbit more (`laid_more`), and at the end all have theirs (`laid_end`).
use mathlib.Core.List.{[]}
use Rattle.pool.specs.Pool.{closed_length, closed_lists}
use Rattle.ridges.specs.Codes.{ones_of}
use Rattle.ridges.proofs.Codes.{ones_room_holds}
use Rattle.shares.specs.Laying.{laid_start, laid_more, laid_ready, laid_end, laid_area, clear_area}
use mathlib.Core.Path.{◌≡◌, refl}
use native.Mathlib.Omega.{arith}
use Rattle.shares.specs.Areas.{area, area_kept}
use Rattle.ridges.proofs.lay_ones.Goals as goal

pub loop-ridge-init : goal.loop-ridge-init
loop-ridge-init c = (refl, omega arith, laid_start c.args.ws.now c.requires.3 _ c.clear.ensures _)

pub ones_of_ridge-requires : goal.ones_of_ridge-requires
ones_of_ridge-requires c = let l = c.loop-ridge in
    let a = area c.args.tables.shares c.args.tables.touched c.args.ws.now in
    let z = clear_area c.args.ws.now c.requires.3 _ c.clear.ensures (ones_of [] 0) c.args.tables.shares
    c.args.tables.touched c.requires.0.order c.requires.0.before in
    let e = laid_area c.args.ws.now c.requires.3 _ c.clear.ensures _ l.ridge l.invariant.2 c.args.tables.shares
    c.args.tables.touched c.requires.0.order c.requires.0.before in
    let g = rw z at l.invariant.2 in (
      record { order = c.requires.0.order; before = c.requires.0.before; sound = rw e c.requires.0.sound },
      rw e c.requires.1,
      omega (arith, c.requires.2, c.loop-ridge-test.true),
      rw e (laid_ready c.args.ws.now c.requires.3 _ c.clear.ensures _ l.ridge g _
          (ones_room_holds l.ridge (closed_lists 2 1024 a) c.args.facets (omega (
            arith,
            closed_length 2 1024 a,
            c.requires.1,
          ))) c.loop-ridge-test.true),
    )

pub loop-ridge-preserved : goal.loop-ridge-preserved
loop-ridge-preserved c = let l = c.loop-ridge in
    let e = area_kept c.args.tables.ones c.args.tables.shares c.args.tables.touched _ l.ws
    l.invariant.2.front c.requires.0.order c.requires.0.before in
    let g = laid_more c.args.ws.now c.requires.3 _ c.clear.ensures _ l.ridge l.invariant.2
    (rw e at c.ones_of_ridge.ensures) in
    (g.long, omega arith, g)

pub returns : goal.returns
returns c = let l = c.loop-ridge in
    let e = clear_area c.args.ws.now c.requires.3 _ c.clear.ensures (ones_of [] 0) c.args.tables.shares
    c.args.tables.touched c.requires.0.order c.requires.0.before in
    let q : l.ridge ≡ c.args.ridges = omega (arith, l.invariant.1, c.loop-ridge-test.false) in
    rw (← e) (laid_end c.args.ws.now c.requires.3 _ c.clear.ensures _ c.args.ridges (rw q at l.invariant.2))
