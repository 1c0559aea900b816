-- `ridges::touch_facets` meets its contract: the shares lie before what is written and stay (`area_kept`). A turn
-- lays the list of one facet more (`laid_more`), and at the end all have theirs (`laid_end`).
use mathlib.Core.List.{[]}
use Rattle.shares.specs.Laying.{laid_start, laid_more, laid_ready, laid_end, laid_area, clear_area}
use Rattle.ridges.proofs.Tables.{touched_room_holds}
use mathlib.Core.Path.{◌≡◌, refl}
use native.Mathlib.Omega.{arith}
use Rattle.pool.specs.Pool.{closed_lists}
use Rattle.shares.specs.Areas.{area, area_kept}
use Rattle.ridges.specs.Codes.{touched_of}
use Rattle.ridges.proofs.touch_facets.Goals as goal

pub loop-x-init : goal.loop-x-init
loop-x-init c = (refl, omega arith, laid_start c.args.ws.now c.requires.3 _ c.clear.ensures _)

pub touch_facet-requires : goal.touch_facet-requires
touch_facet-requires c = let l = c.loop-x in
    let a = area c.args.tables.shares c.args.tables.touched c.args.ws.now in
    let z = clear_area c.args.ws.now c.requires.3 _ c.clear.ensures (touched_of c.args.ridges [])
    c.args.tables.shares c.args.tables.touched c.requires.0.order (omega arith) in
    let g = rw z at l.invariant.2 in
    let e = laid_area c.args.ws.now c.requires.3 _ c.clear.ensures _ l.x g c.args.tables.shares
    c.args.tables.touched c.requires.0.order (omega arith) in (
      record {
        order = c.requires.0.order;
        before = c.requires.0.before;
        sound = rw e c.requires.0.sound;
      },
      rw e (omega (arith, c.requires.1, c.loop-x-test.true)),
      c.requires.2,
      laid_ready c.args.ws.now c.requires.3 _ c.clear.ensures _ l.x g c.args.ridges (touched_room_holds c.args.ridges
          (closed_lists 2 1024 a) l.x c.args.facets c.loop-x-test.true) c.loop-x-test.true,
    )

pub loop-x-preserved : goal.loop-x-preserved
loop-x-preserved c = let l = c.loop-x in
    let e = area_kept c.args.tables.touched c.args.tables.shares c.args.tables.touched _ l.ws
    l.invariant.2.front c.requires.0.order (omega arith) in
    let g =
    laid_more c.args.ws.now c.requires.3 _ c.clear.ensures _ l.x l.invariant.2 (rw e at c.touch_facet.ensures) in
    (g.long, omega arith, g)

pub returns : goal.returns
returns c = let l = c.loop-x in
    let e = clear_area c.args.ws.now c.requires.3 _ c.clear.ensures (touched_of c.args.ridges [])
    c.args.tables.shares c.args.tables.touched c.requires.0.order (omega arith) in
    let q : l.x ≡ c.args.facets = omega (arith, l.invariant.1, c.loop-x-test.false) in
    rw (← e) (laid_end c.args.ws.now c.requires.3 _ c.clear.ensures _ c.args.facets (rw q at l.invariant.2))
