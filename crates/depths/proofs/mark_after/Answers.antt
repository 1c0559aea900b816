-- `depths::mark_after` meets its contract. By the kind of the frame: the orbit of the facet, or the frame's mark.
-- Assumes nothing.
use native.Mathlib.Omega.{arith}
use mathlib.Core.Path.{◌≡◌, sym, ap, ◌∙◌}
use Prim.Native.Nat.{ℕ, ◌-◌}
use Rattle.facets.specs.Layout.{frames_part, facet_of}
use Rattle.frames.specs.Paths.{taken_at}
use Rattle.facets.specs.Numbers.{orbit_is}
use Rattle.frames.specs.Steps.{frame_room_at, mark_closed, mark_open}
use Rattle.depths.proofs.mark_after.Goals as goal

pub kind-requires : goal.kind-requires
kind-requires c = rw c.frames-frames.ensures (frame_room_at c.requires.1 _ (omega arith))

pub taken-requires : goal.taken-requires
taken-requires c = rw c.frames-frames.ensures (frame_room_at c.requires.1 _ (omega arith))

pub mark-requires : goal.mark-requires
mark-requires c = rw c.frames-frames.ensures (frame_room_at c.requires.1 _ (omega arith))

pub get-requires : goal.get-requires
get-requires c = let st = c.requires.1 in
    let x : c.from.result ≡ taken_at (frames_part c.args.a c.args.ws.now) (c.args.depth - 1) =
    rw c.frames-frames.ensures at (c.from.ensures ∙ c.taken.ensures) in
    let n = st.frames.taken (c.args.depth - 1) (omega arith) in let f = st.inputs.fits in omega arith

pub returns-in-None : goal.returns-in-None
returns-in-None c = λ t st.
    let p = frames_part c.args.a c.args.ws.now in
    let x : c.from.result
    ≡ taken_at p (c.args.depth - 1) = rw c.frames-frames.ensures at (c.from.ensures ∙ c.taken.ensures) in
    let n = st.frames.taken (c.args.depth - 1) (omega arith) in
    c.get.ensures ∙ (orbit_is t c.args.a c.args.ws.now st.inputs c.from.result (omega arith)
    ∙ (ap (λ (i : ℕ). (facet_of t i).0) x
    ∙ sym (mark_closed t p (c.args.depth - 1) (rw c.frames-frames.ensures at (sym c.kind.ensures ∙ c.in-None.is)))))

pub returns-in-Some : goal.returns-in-Some
returns-in-Some c = λ t st. let p = frames_part c.args.a c.args.ws.now in
    rw c.frames-frames.ensures at c.mark.ensures ∙ sym (mark_open t p (c.args.depth - 1) c.in-Some.field-0
    (rw c.frames-frames.ensures at (sym c.kind.ensures ∙ c.in-Some.is)))
