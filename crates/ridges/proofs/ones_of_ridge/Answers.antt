-- `ridges::ones_of_ridge` meets its contract: the shares lie before what is written and stay (`area_kept`). A turn
-- pushes facet x for each of its shares of 1 (`ridge_more`), and the end closes the list (`ridge_end`).
use Rattle.ridges.proofs.Tables.{ridge_start, ridge_room_holds, ridge_more, ridge_end}
use mathlib.Core.Path.{refl}
use native.Mathlib.Omega.{arith}
use Rattle.shares.specs.Areas.{area_kept, end_asks}
use Rattle.ridges.proofs.ones_of_ridge.Goals as goal

pub loop-x-init : goal.loop-x-init
loop-x-init c = (refl, omega arith, ridge_start _ _ _ c.requires.3)

pub ones_of_facet-requires : goal.ones_of_facet-requires
ones_of_facet-requires c = let l = c.loop-x in
    let e = area_kept c.args.tables.ones c.args.tables.shares c.args.tables.touched c.args.ws.now
    l.ws l.invariant.2.front c.requires.0.order c.requires.0.before in (
      record {
        order = c.requires.0.order;
        before = c.requires.0.before;
        sound = rw e c.requires.0.sound;
      },
      rw e (omega (arith, c.requires.1, c.loop-x-test.true)),
      c.requires.2,
      rw e (ridge_room_holds _ _ _ c.requires.3 l.x l.invariant.2 c.loop-x-test.true),
    )

pub loop-x-preserved : goal.loop-x-preserved
loop-x-preserved c = let l = c.loop-x in
    let e = area_kept c.args.tables.ones c.args.tables.shares c.args.tables.touched c.args.ws.now
    l.ws l.invariant.2.front c.requires.0.order c.requires.0.before in
    let j = ridge_more _ _ _ c.requires.3 l.x l.invariant.2 (rw e at c.ones_of_facet.ensures) in
    (j.long, omega arith, j)

pub end_list-requires : goal.end_list-requires
end_list-requires c = let l = c.loop-x in end_asks c.requires.3 l.invariant.2 (omega arith)

pub returns : goal.returns
returns c =
    let l = c.loop-x in
    ridge_end _ _ _ c.requires.3 l.x l.invariant.2 c.loop-x-test.false l.invariant.1 _ c.end_list.ensures
