-- `depths::withdraw` meets its contract. The facet that leaves is the last one taken. Assumes nothing.
use native.Mathlib.Omega.{arith}
use mathlib.Core.Path.{◌≡◌, ◌∙◌}
use Prim.Native.Nat.{suc, ◌-◌}
use Rattle.frames.specs.Paths.{taken_at}
use Rattle.frames.specs.PathFacts.{last_counted}
use Rattle.frames.specs.Steps.{frame_room_at, withdrawn}
use Rattle.depths.proofs.withdraw.Goals as goal

pub taken-x-requires : goal.taken-x-requires
taken-x-requires c = rw c.frames.ensures (frame_room_at c.requires.1 _ (omega arith))

pub leave-requires : goal.leave-requires
unfolding taken_at
leave-requires c =
    let st = c.requires.1 in
    let z : suc (c.args.depth - 1) ≡ c.args.depth = omega arith in
    rw (c.from.ensures, c.taken-x.ensures, c.frames.ensures) (
      c.requires.0,
      st.inputs,
      st.frames.taken (c.args.depth - 1) (omega arith),
      last_counted c.requires.0 c.args.a c.args.ws.now c.args.depth (c.args.depth - 1) (rw z st),
    )

pub returns : goal.returns
unfolding taken_at
returns c =
    λ t st. rw c.leave.ensures (withdrawn t c.args.a c.args.ws.now c.args.depth c.from.result st c.requires.2
    (rw c.frames.ensures at (c.from.ensures ∙ c.taken-x.ensures)))
