-- `emission::emit` meets its contract: the frames stay while facets are pushed (`pushing_frames`), and a turn pushes
-- one facet more (`pushes_next`). At the end k is the depth, and the list is closed (`pushes_end`).
use native.Mathlib.Omega.{arith}
use mathlib.Core.Path.{◌≡◌, ap, ◌∙◌}
use Prim.Native.Nat.{◌-◌}
use lib.ListN.{length}
use Rattle.laws.specs.Segments.{placed}
use borrow.Rule.Slice.PartMut.{same_len_mid}
use Rattle.frames.specs.Paths.{taken_at}
use Rattle.frames.specs.Steps.{frame_room_at}
use Rattle.emission.specs.Emission.{after_pushes, pushing_fits, pushing_frames, pushes_none, pushes_length, pushes_room}
use Rattle.emission.specs.Emission.{pushes_next, pushes_ready, pushes_end}
use Rattle.emission.proofs.emit.Goals as goal

pub loop-k-init : goal.loop-k-init
loop-k-init c =
    (omega arith, pushes_none c.requires.0 c.args.a c.args.ws.now c.args.depth c.requires.1 c.requires.2 c.requires.3)

pub frames-requires : goal.frames-requires
frames-requires c =
    pushing_fits c.requires.1 c.requires.2 c.requires.3 c.loop-k.ws c.loop-k.invariant.0 c.loop-k.invariant.1

pub taken-x-requires : goal.taken-x-requires
taken-x-requires c =
    rw (
      c.frames.ensures,
      pushing_frames c.requires.1 c.requires.2 c.requires.3 c.loop-k.ws c.loop-k.invariant.0 c.loop-k.invariant.1,
    )
    (frame_room_at c.requires.1 _ (omega arith))

pub slice_bounds-push-count : goal.slice_bounds-push-count
slice_bounds-push-count c =
    let f =
    pushing_fits c.requires.1 c.requires.2 c.requires.3 c.loop-k.ws c.loop-k.invariant.0 c.loop-k.invariant.1 in
    omega arith

pub slice_bounds-push-start : goal.slice_bounds-push-start
slice_bounds-push-start c =
    let f =
    pushing_fits c.requires.1 c.requires.2 c.requires.3 c.loop-k.ws c.loop-k.invariant.0 c.loop-k.invariant.1 in
    omega arith

pub slice_bounds-push-end : goal.slice_bounds-push-end
slice_bounds-push-end c =
    let f =
    pushing_fits c.requires.1 c.requires.2 c.requires.3 c.loop-k.ws c.loop-k.invariant.0 c.loop-k.invariant.1 in
    omega arith

pub push-requires : goal.push-requires
push-requires c =
    rw c.loop-k.invariant.1 (pushes_room c.requires.0 c.args.a c.args.ws.now c.args.depth c.requires.1 c.requires.2
    c.requires.3 c.loop-k.k c.loop-k-test.true)

pub loop-k-preserved : goal.loop-k-preserved
unfolding taken_at
loop-k-preserved c =
    let l = c.loop-k in
    let x = rw (
      c.frames.ensures,
      pushing_frames c.requires.1 c.requires.2 c.requires.3 l.ws l.invariant.0
          l.invariant.1,
    ) at c.taken-x.ensures in
    let w = rw l.invariant.1 at c.push.ensures in (
      omega arith,
      ap (λ r. placed c.args.a.lists (c.args.a.end - c.args.a.lists) r c.push.new.s) l.invariant.1
          ∙ pushes_next c.requires.0 c.args.a c.args.ws.now c.args.depth c.requires.1 c.requires.2 c.requires.3 l.k
          c.taken-x.result c.push.new.s c.loop-k-test.true x w,
    )

pub slice_bounds-end_list-count : goal.slice_bounds-end_list-count
slice_bounds-end_list-count c =
    let f =
    pushing_fits c.requires.1 c.requires.2 c.requires.3 c.loop-k.ws c.loop-k.invariant.0 c.loop-k.invariant.1 in
    omega arith

pub slice_bounds-end_list-start : goal.slice_bounds-end_list-start
slice_bounds-end_list-start c =
    let f =
    pushing_fits c.requires.1 c.requires.2 c.requires.3 c.loop-k.ws c.loop-k.invariant.0 c.loop-k.invariant.1 in
    omega arith

pub slice_bounds-end_list-end : goal.slice_bounds-end_list-end
slice_bounds-end_list-end c =
    let f =
    pushing_fits c.requires.1 c.requires.2 c.requires.3 c.loop-k.ws c.loop-k.invariant.0 c.loop-k.invariant.1 in
    omega arith

pub end_list-requires : goal.end_list-requires
end_list-requires c =
    let l = c.loop-k in let z : l.k ≡ c.args.depth = omega arith in
    rw (rw z at l.invariant.1)
    (pushes_ready c.requires.0 c.args.a c.args.ws.now c.args.depth c.requires.1 c.requires.2 c.requires.3)

pub shape_of-ws : goal.shape_of-ws
shape_of-ws c =
    let l = c.loop-k in
    same_len_mid c.args.a.lists (c.args.a.end - c.args.a.lists) l.ws c.end_list.new.s c.end_list.auto.s
    ∙ (ap length l.invariant.1 ∙ pushes_length c.requires.0 c.args.a c.args.ws.now c.args.depth c.requires.1
    c.requires.2 c.requires.3 l.k l.invariant.0)

pub returns : goal.returns
returns c =
    let l = c.loop-k in let z : l.k ≡ c.args.depth = omega arith in
    let w : l.ws ≡ after_pushes c.args.a c.args.ws.now c.args.depth = rw z at l.invariant.1 in
    ap (λ r. placed c.args.a.lists (c.args.a.end - c.args.a.lists) r c.end_list.new.s) w
    ∙ pushes_end c.requires.0 c.args.a c.args.ws.now c.args.depth c.requires.1 c.requires.2 c.requires.3
    c.end_list.new.s (rw w at c.end_list.ensures)
