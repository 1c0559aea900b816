-- `search::close` meets its contract. A closed list is past the bound, or is emitted and reaches the limit, or is
-- emitted and entered, or emitted and withdrawn. Assumes nothing.
use native.Mathlib.Omega.{arith}
use mathlib.Core.Path.{◌≡◌, sym, ◌∙◌}
use Prim.Native.Nat.{◌+◌, ◌<◌}
use mathlib.Core.List.{[], ◌∷◌, ◌++◌}
use lib.ListN.{take}
use mathlib.Core.Bool.{true, false}
use Rattle.definitions.specs.Search.{closed, limit_reached}
use Rattle.pool.specs.Pool.{count}
use Rattle.facets.specs.Layout.{lists_part, frames_part}
use Rattle.frames.specs.Paths.{PathHeld, Emitted, list_to, emitted_in}
use Rattle.facets.specs.Judged.{NotOver}
use Rattle.laws.specs.Options.{none_is_not_some}
use Rattle.frames.specs.Steps.{path_short}
use Rattle.emission.specs.Emission.{emit_held, emit_frames, emit_emitted, emit_lists, emit_tables}
use Rattle.search.specs.SearchSteps.{Followed, judged_light, follow_full, follow_stop, follow_closed, follow_kept}
use Rattle.search.proofs.close.Goals as goal

-- a closed list is not over
within : NotOver closed
unfolding NotOver
within = tt

pub returns-then-a-emitted : goal.returns-then-a-emitted
unfolding Followed
returns-then-a-emitted c =
    λ t j. let e = c.lists-emitted.ensures in
    follow_full t c.args.a c.args.course c.args.ws.now c.args.depth j (omega arith)

pub emit-requires : goal.emit-requires
emit-requires c =
    let j = c.requires.1 in
    let e = c.lists-emitted.ensures in
    (c.requires.0, j.stands, j.emitted, omega arith)

pub returns-then-reached : goal.returns-then-reached
unfolding Followed
returns-then-reached c =
    λ t j. let e = c.lists-emitted.ensures in
    let h : count (lists_part c.args.a c.args.ws.now) < c.args.a.bound = rw e at c.if-a-emitted.false in
    let r : limit_reached c.args.course.limit (count (lists_part c.args.a c.args.ws.now) + 1)
    ≡ true = rw e at (sym c.reached.ensures ∙ c.if-reached.true) in
    rw c.emit.ensures
    (follow_stop t c.args.a c.args.course c.args.ws.now c.args.depth j h _
    (emit_held t c.args.a c.args.ws.now c.args.depth j.stands j.emitted h)
    (emit_frames t c.args.a c.args.ws.now c.args.depth j.stands j.emitted h)
    (emit_lists t c.args.a c.args.ws.now c.args.depth j.stands j.emitted h)
    (emit_tables t c.args.a c.args.ws.now c.args.depth j.stands j.emitted h)
    (emit_emitted t c.args.a c.args.ws.now c.args.depth j.stands j.emitted h) r)

-- where the list is extended
pub enter-requires : goal.enter-requires
enter-requires c =
    let j = c.requires.1 in let e = c.lists-emitted.ensures in
    let h : count (lists_part c.args.a c.args.ws.now) < c.args.a.bound = rw e at c.if-a-emitted.false in
    let light = judged_light c.requires.0 c.args.a c.args.ws.now c.args.depth closed j within in
    rw c.emit.ensures (
      c.requires.0,
      emit_held c.requires.0 c.args.a c.args.ws.now c.args.depth j.stands j.emitted h,
      j.deep,
      λ x e. absurd (none_is_not_some x e),
      rw (emit_frames c.requires.0 c.args.a c.args.ws.now c.args.depth j.stands j.emitted h) light,
    )

pub overflow_add-result : goal.overflow_add-result
overflow_add-result c =
    let j = c.requires.1 in
    let n = path_short c.requires.0 c.args.a c.args.ws.now j.stands.inputs
    (frames_part c.args.a c.args.ws.now) c.args.depth c.args.depth j.stands.frames in
    let f = j.stands.inputs.fits in
    omega arith

pub returns-then-course : goal.returns-then-course
unfolding Followed
returns-then-course c =
    λ t j. let e = c.lists-emitted.ensures in
    let h : count (lists_part c.args.a c.args.ws.now) < c.args.a.bound = rw e at c.if-a-emitted.false in
    let r : limit_reached c.args.course.limit (count (lists_part c.args.a c.args.ws.now) + 1)
    ≡ false = rw e at (sym c.reached.ensures ∙ c.if-reached.false) in
    let st : PathHeld t c.args.a c.emit.new.ws c.args.depth c.args.depth =
    rw c.emit.ensures (emit_held t c.args.a c.args.ws.now c.args.depth j.stands j.emitted h) in
    let fr : frames_part c.args.a c.emit.new.ws ≡ frames_part c.args.a c.args.ws.now =
    rw c.emit.ensures (emit_frames t c.args.a c.args.ws.now c.args.depth j.stands j.emitted h) in
    let ls : emitted_in t c.args.a (lists_part c.args.a c.emit.new.ws) ≡ emitted_in t c.args.a
    (lists_part c.args.a c.args.ws.now) ++ (list_to t (frames_part c.args.a c.args.ws.now) c.args.depth ∷ []) =
    rw c.emit.ensures (emit_lists t c.args.a c.args.ws.now c.args.depth j.stands j.emitted h) in
    let tb : take c.args.a.frames c.emit.new.ws ≡ take c.args.a.frames c.args.ws.now =
    rw c.emit.ensures (emit_tables t c.args.a c.args.ws.now c.args.depth j.stands j.emitted h) in
    let em : Emitted c.args.a (lists_part c.args.a c.emit.new.ws) =
    rw c.emit.ensures (emit_emitted t c.args.a c.args.ws.now c.args.depth j.stands j.emitted h) in
    follow_closed t c.args.a c.args.course c.args.ws.now c.args.depth j h c.emit.new.ws st fr ls tb em r
    c.if-course.true c.enter.new.ws (c.enter.ensures t st)

-- and where it is not
pub withdraw-requires : goal.withdraw-requires
withdraw-requires c =
    let j = c.requires.1 in let e = c.lists-emitted.ensures in
    let h : count (lists_part c.args.a c.args.ws.now) < c.args.a.bound = rw e at c.if-a-emitted.false in
    rw c.emit.ensures
    (c.requires.0, emit_held c.requires.0 c.args.a c.args.ws.now c.args.depth j.stands j.emitted h, j.deep)

pub returns : goal.returns
unfolding Followed
returns c =
    λ t j. let e = c.lists-emitted.ensures in
    let h : count (lists_part c.args.a c.args.ws.now) < c.args.a.bound = rw e at c.if-a-emitted.false in
    let r : limit_reached c.args.course.limit (count (lists_part c.args.a c.args.ws.now) + 1)
    ≡ false = rw e at (sym c.reached.ensures ∙ c.if-reached.false) in
    let st : PathHeld t c.args.a c.emit.new.ws c.args.depth c.args.depth =
    rw c.emit.ensures (emit_held t c.args.a c.args.ws.now c.args.depth j.stands j.emitted h) in
    let fr : frames_part c.args.a c.emit.new.ws ≡ frames_part c.args.a c.args.ws.now =
    rw c.emit.ensures (emit_frames t c.args.a c.args.ws.now c.args.depth j.stands j.emitted h) in
    let ls : emitted_in t c.args.a (lists_part c.args.a c.emit.new.ws) ≡ emitted_in t c.args.a
    (lists_part c.args.a c.args.ws.now) ++ (list_to t (frames_part c.args.a c.args.ws.now) c.args.depth ∷ []) =
    rw c.emit.ensures (emit_lists t c.args.a c.args.ws.now c.args.depth j.stands j.emitted h) in
    let tb : take c.args.a.frames c.emit.new.ws ≡ take c.args.a.frames c.args.ws.now =
    rw c.emit.ensures (emit_tables t c.args.a c.args.ws.now c.args.depth j.stands j.emitted h) in
    let em : Emitted c.args.a (lists_part c.args.a c.emit.new.ws) =
    rw c.emit.ensures (emit_emitted t c.args.a c.args.ws.now c.args.depth j.stands j.emitted h) in
    follow_kept t c.args.a c.args.course c.args.ws.now c.args.depth j h c.emit.new.ws st fr ls tb em r
    c.if-course.false c.withdraw.new.ws (c.withdraw.ensures t st)
