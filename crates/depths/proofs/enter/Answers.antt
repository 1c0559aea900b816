-- `depths::enter` meets its contract. The frame that is written is the one with which a list is entered. Assumes
-- nothing.
use native.Mathlib.Omega.{arith}
use mathlib.Core.Path.{◌∙◌}
use Rattle.facets.specs.Layout.{code_small}
use Rattle.facets.specs.Numbers.{numbers_few}
use Rattle.candidates.specs.Latest.{low_inside}
use Rattle.frames.specs.Steps.{frame_room_at, same_light, entered_is}
use Rattle.depths.proofs.enter.Goals as goal

pub overflow_cast-place : goal.overflow_cast-place
overflow_cast-place c =
    let e = c.count-place.ensures c.requires.0 c.requires.1.inputs in
    let n = numbers_few c.requires.0 c.args.a c.args.ws.now c.requires.1.inputs c.args.kind c.requires.3 in
    omega arith

pub overflow_cast-low : goal.overflow_cast-low
overflow_cast-low c =
    let e = c.binary-low.ensures c.requires.0 c.requires.1.inputs in
    let w = low_inside c.requires.0 c.from.result c.args.kind in
    let n = numbers_few c.requires.0 c.args.a c.args.ws.now c.requires.1.inputs c.args.kind c.requires.3 in omega arith

pub put_frame-requires-clause-room : goal.put_frame-requires-clause-room
put_frame-requires-clause-room c = frame_room_at c.requires.1 _ (omega arith)

pub put_frame-requires-clause-small : goal.put_frame-requires-clause-small
put_frame-requires-clause-small c =
    let k = code_small c.args.a c.args.kind c.requires.3 in
    let f = c.requires.1.inputs.fits in
    omega arith

pub returns : goal.returns
returns c = λ t st.
    let ee = c.count-place.ensures c.requires.0 c.requires.1.inputs in
    let e = c.binary-low.ensures c.requires.0 c.requires.1.inputs in
    let w = low_inside c.requires.0 c.from.result c.args.kind in
    let n = numbers_few c.requires.0 c.args.a c.args.ws.now c.requires.1.inputs c.args.kind c.requires.3 in
    let k = code_small c.args.a c.args.kind c.requires.3 in
    let f = st.inputs.fits in
    let b = c.mark_after-mark.type_inv in
    let m = c.from.ensures ∙ c.mark_after-mark.ensures t st in
    rw (c.put_frame.ensures, ← c.from.ensures)
    (entered_is t c.args.a c.args.ws.now c.args.depth c.count-place.result c.binary-low.result c.from.result
    c.args.kind st
    (same_light c.requires.0 t c.args.a c.args.ws.now c.args.depth c.requires.1 st c.requires.4) c.requires.2
    c.requires.3
    (c.count-place.ensures t st.inputs) (c.binary-low.ensures t st.inputs) m (omega arith) (omega arith) (omega arith)
    (omega arith))
