-- `visits::next` meets its contract. What is read is the deepest frame, and `latest` finds its last free place.
-- Assumes nothing.
use native.Mathlib.Omega.{arith}
use mathlib.Core.Path.{ap, ◌∙◌}
use Prim.Native.Nat.{ℕ, ◌-◌}
use Rattle.facets.specs.Layout.{frames_part}
use Rattle.candidates.specs.Latest.{last_free}
use Rattle.frames.specs.Paths.{list_to, frame_at, low_at, kind_at}
use Rattle.frames.specs.Steps.{frame_room_at, next_place}
use Rattle.visits.proofs.next.Goals as goal

pub kind-requires : goal.kind-requires
kind-requires c = rw c.frames-frames.ensures (frame_room_at c.requires.1 _ (omega arith))

pub low-requires : goal.low-requires
low-requires c = rw c.frames-frames.ensures (frame_room_at c.requires.1 _ (omega arith))

pub place-requires : goal.place-requires
place-requires c = rw c.frames-frames.ensures (frame_room_at c.requires.1 _ (omega arith))

pub latest-requires : goal.latest-requires
latest-requires c = let st = c.requires.1 in
    rw (c.kind.ensures, c.place.ensures, c.frames-frames.ensures) (
      c.requires.0,
      st.inputs,
      st.frames.places (c.args.depth - 1) (omega arith),
      list_to c.requires.0 (frames_part c.args.a c.args.ws.now) (c.args.depth - 1),
      st.uses,
    )

-- The kind, the lowest place and the place are each put in by name, so that another number in one's stead is what
-- differs.
pub returns : goal.returns
unfolding frame_at next_place
returns c = λ t st.
    let frames = frames_part c.args.a c.args.ws.now in
    let list = list_to t frames (c.args.depth - 1) in
    let found = rw (c.kind.ensures, c.frames-frames.ensures) at (c.latest.ensures t list st.inputs st.uses) in
    let low = rw c.frames-frames.ensures at c.low.ensures in
    let place = rw c.frames-frames.ensures at c.place.ensures in
    found ∙ (ap (λ (l : ℕ). last_free t list (kind_at frames (c.args.depth - 1)) l c.place.result) low
    ∙ ap (last_free t list (kind_at frames (c.args.depth - 1)) (low_at frames (c.args.depth - 1))) place)
