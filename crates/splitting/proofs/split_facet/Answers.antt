-- `splitting::split_facet` meets its contract: a turn takes a step if one is left (`step_taken`, `step_over`), and
-- pushes the facet or queues its parts (`splits_push`, `splits_queue`). At the end the queue is gone through.
use Rattle.std.specs.Prelude.{None}
use mathlib.Core.Path.{sym, subst, ap, ◌∙◌}
use mathlib.Core.List.{List, ◌∷◌, [], ◌++◌}
use Prim.Native.Nat.{ℕ, ◌≤◌, ◌<◌, ◌+◌}
use native.Mathlib.Omega.{arith}
use lib.ListN.{length, get_or, drop}
use Rattle.pool.specs.Pool.{pushed_length}
use Rattle.labels.specs.Labels.{labels_in, Halves}
use Rattle.words.specs.Lent.{lent_tail, back_front, back_tail, back_length}
use Rattle.splitting.proofs.Splitting.{Splits, Step, step_taken, step_over, table_kept, splits_room, splits_push}
use Rattle.splitting.proofs.Splitting.{splits_queue, splits_end, splits_grown}
use Rattle.splitting.proofs.split_facet.Goals as goal
use Rattle.splitting.proofs.split_facet.Goals.{then-left-gt0, else-left-gt0}

pub push-requires-in-None : goal.push-requires-in-None
push-requires-in-None c = let l = c.loop-head in let i = c.if-left-gt0 in
    let layout = c.args.layout in
    let a = get_or l.queue.items l.head 0 in
    let more : l.head < length l.queue.items = rw c.len.ensures.value at c.loop-head-test.true in
    let read = ap (λ (q : List ℕ). get_or q l.head 0) c.as_slice.ensures.value in
    let t : Step (labels_in 0 layout.facets c.args.ws.now) a l.left i.left i.parts = elim i.branch [
      | then-left-gt0 w ↦ step_taken _ a l.left i.left i.parts w.if-left-gt0.true w.left-is (w.parts-is
          ∙ (w.components-parts.ensures.found
          ∙ (λ t. get_or (table_kept c.args.ws.now l.ws layout.facets layout.to c.requires.0 l.invariant.kept t)
          ((w.from.ensures ∙ read) t) None))) (subst Halves (sym w.parts-is) w.components-parts.ensures.small)
      | else-left-gt0 w ↦ step_over _ a l.left i.left i.parts w.if-left-gt0.false w.left-is w.parts-is
    ] in
    rw (lent_tail layout.to l.ws) (splits_room layout.facets layout.to layout.most layout.steps c.args.facet
    c.args.ws.now l.ws l.queue.items l.head l.left l.invariant more i.left i.parts t c.in-None.is)

pub loop-head-preserved-in-None : goal.loop-head-preserved-in-None
loop-head-preserved-in-None c = let l = c.loop-head in let i = c.if-left-gt0 in
    let layout = c.args.layout in
    let a = get_or l.queue.items l.head 0 in
    let more : l.head < length l.queue.items = rw c.len.ensures.value at c.loop-head-test.true in
    let read = ap (λ (q : List ℕ). get_or q l.head 0) c.as_slice.ensures.value in
    let t : Step (labels_in 0 layout.facets c.args.ws.now) a l.left i.left i.parts = elim i.branch [
      | then-left-gt0 w ↦ step_taken _ a l.left i.left i.parts w.if-left-gt0.true w.left-is (w.parts-is
          ∙ (w.components-parts.ensures.found
          ∙ (λ t. get_or (table_kept c.args.ws.now l.ws layout.facets layout.to c.requires.0 l.invariant.kept t)
          ((w.from.ensures ∙ read) t) None))) (subst Halves (sym w.parts-is) w.components-parts.ensures.small)
      | else-left-gt0 w ↦ step_over _ a l.left i.left i.parts w.if-left-gt0.false w.left-is w.parts-is
    ] in
    let g = c.push-in-None in
    let e = rw (lent_tail layout.to l.ws, read) at g.ensures in
    let h : layout.to ≤ length l.ws = omega (arith, l.invariant.long, c.requires.1) in
    let r = splits_room layout.facets layout.to layout.most layout.steps c.args.facet c.args.ws.now l.ws l.queue.items
    l.head l.left l.invariant more i.left i.parts t c.in-None.is in
    let n = ap length e ∙ pushed_length 2 layout.most (drop layout.to l.ws) a l.invariant.room.sound r.0 r.1
    (omega (arith, l.invariant.small l.head)) in
    splits_push layout.facets layout.to layout.most layout.steps c.args.facet c.args.ws.now l.ws l.queue.items l.head
    l.left l.invariant more i.left i.parts t c.in-None.is _ (back_front layout.to l.ws g.new.s h n)
    (back_length layout.to l.ws g.new.s h n) (back_tail layout.to l.ws g.new.s h n ∙ e)

pub loop-head-preserved : goal.loop-head-preserved
loop-head-preserved c = let l = c.loop-head in let i = c.if-left-gt0 in
    let layout = c.args.layout in
    let a = get_or l.queue.items l.head 0 in
    let more : l.head < length l.queue.items = rw c.len.ensures.value at c.loop-head-test.true in
    let read = ap (λ (q : List ℕ). get_or q l.head 0) c.as_slice.ensures.value in
    let t : Step (labels_in 0 layout.facets c.args.ws.now) a l.left i.left i.parts = elim i.branch [
      | then-left-gt0 w ↦ step_taken _ a l.left i.left i.parts w.if-left-gt0.true w.left-is (w.parts-is
          ∙ (w.components-parts.ensures.found
          ∙ (λ t. get_or (table_kept c.args.ws.now l.ws layout.facets layout.to c.requires.0 l.invariant.kept t)
          ((w.from.ensures ∙ read) t) None))) (subst Halves (sym w.parts-is) w.components-parts.ensures.small)
      | else-left-gt0 w ↦ step_over _ a l.left i.left i.parts w.if-left-gt0.false w.left-is w.parts-is
    ] in
    let joined = c.push-in-Some-2.ensures.items
    ∙ ap (λ (q : List ℕ). q ++ c.in-Some.second ∷ []) c.push-in-Some.ensures.items in
    subst (λ (q : List ℕ). Splits layout.facets layout.to layout.most layout.steps c.args.facet c.args.ws.now l.ws q
    (l.head + 1) i.left) (sym joined)
    (splits_queue layout.facets layout.to layout.most layout.steps c.args.facet c.args.ws.now l.ws l.queue.items
    l.head l.left l.invariant more i.left i.parts t (c.in-Some.first, c.in-Some.second) c.in-Some.is)

pub returns-clause-ws_after : goal.returns-clause-ws_after
returns-clause-ws_after c = let l = c.loop-head in
    splits_end c.args.layout.facets c.args.layout.to c.args.layout.most c.args.layout.steps c.args.facet c.args.ws.now
    l.ws l.queue.items l.head l.left l.invariant (rw c.len.ensures.value at c.loop-head-test.false) c.requires.1

pub returns-clause-pool_grown : goal.returns-clause-pool_grown
returns-clause-pool_grown c = let l = c.loop-head in
    splits_grown c.args.layout.facets c.args.layout.to c.args.layout.most c.args.layout.steps c.args.facet
    c.args.ws.now l.ws l.queue.items l.head l.left l.invariant (rw c.len.ensures.value at c.loop-head-test.false)
