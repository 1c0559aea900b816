-- `kept_polygons::store_places` meets its contract: the inner call's part lies behind what is written and is read as
-- it stood (`behind_lent`). A turn pushes one facet (`taking_push`), and the end closes the list (`taking_end`).
use mathlib.Core.List.{[]}
use Prim.Native.Nat.{◌-◌}
use native.Mathlib.Omega.{arith}
use lib.ListN.{get_or, drop, length-drop}
use Rattle.layout.specs.Leaves.{lists_left}
use Rattle.keep.specs.Storing.{growing_none, growing_end_room, taking_push, taking_end, behind_lent}
use Rattle.left_edges.specs.Reading.{lent_tail}
use Rattle.kept_polygons.proofs.store_places.Goals as goal

pub loop-i-init : goal.loop-i-init
loop-i-init c = (omega arith, growing_none 2 1024 c.args.from (c.args.to - c.args.from) c.args.ws.now)

pub entries-requires-in-loop-i : goal.entries-requires-in-loop-i
entries-requires-in-loop-i c =
    let p = c.loop-i in
    let tail = behind_lent p.invariant.1 c.args.part.at (omega (arith, c.requires.0, c.requires.1)) in
    rw tail (omega (arith, length-drop c.args.part.at c.args.ws.now, c.requires.2), c.requires.3)

pub item-x-requires : goal.item-x-requires
item-x-requires c =
    let p = c.loop-i in
    let tail = behind_lent p.invariant.1 c.args.part.at (omega (arith, c.requires.0, c.requires.1)) in
    let many = rw (
      c.entries.ensures.1,
      c.entries.ensures.0,
      lent_tail c.args.part.at c.args.ws.now,
    ) at c.length-items.ensures in
    let e = c.entries-in-loop-i.ensures in
    rw (e.1, e.0, tail) (c.requires.4, omega (arith, many))

pub loop-i-preserved : goal.loop-i-preserved
loop-i-preserved c =
    let p = c.loop-i in
    let tail = behind_lent p.invariant.1 c.args.part.at (omega (arith, c.requires.0, c.requires.1)) in
    let many = rw (
      c.entries.ensures.1,
      c.entries.ensures.0,
      lent_tail c.args.part.at c.args.ws.now,
    ) at c.length-items.ensures in
    let e = c.entries-in-loop-i.ensures in
    let x = rw (e.1, e.0, tail) at c.item-x.ensures in (
      omega arith,
      taking_push c.requires.5
          (get_or (lists_left c.args.part.level (drop c.args.part.at c.args.ws.now)) c.args.k []) p.i p.invariant.1
          (omega (arith, many)) (omega arith) c.item-x.result c.push.new.s x (omega arith) c.push.ensures,
    )

pub end_list-requires : goal.end_list-requires
end_list-requires c = let p = c.loop-i in growing_end_room c.requires.5 p.invariant.1

pub returns : goal.returns
returns c = let p = c.loop-i in
    let many = rw (
      c.entries.ensures.1,
      c.entries.ensures.0,
      lent_tail c.args.part.at c.args.ws.now,
    ) at c.length-items.ensures in
    taking_end c.requires.5 (get_or (lists_left c.args.part.level (drop c.args.part.at c.args.ws.now)) c.args.k [])
    p.i p.invariant.1 (omega (arith, many)) c.end_list.new.s c.end_list.ensures
