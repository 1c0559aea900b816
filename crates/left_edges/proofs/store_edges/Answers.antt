-- `left_edges::store_edges` meets its contract: a code with a mark is pushed, moved (`below_marked`), and another is
-- passed (`below_left`). At the end c is 400, and the list is closed (`growing_end`).
use mathlib.Core.Path.{◌≡◌, sym, subst}
use mathlib.Core.List.{List}
use Prim.Native.Nat.{ℕ, ◌+◌, ◌-◌}
use native.Mathlib.Omega.{arith}
use Rattle.keep.specs.Storing.{Growing, growing_none, growing_room, growing_push, growing_end, growing_end_room}
use Rattle.left_edges.specs.Reading.{moved_below, below_none, below_all, below_marked, below_left, below_room}
use Rattle.left_edges.proofs.store_edges.Goals as goal
use Rattle.left_edges.proofs.store_edges.Goals.{then-marked, else-marked}

pub loop-c-init : goal.loop-c-init
loop-c-init c = (
  omega arith,
  rw (below_none c.args.vertices.now.items c.args.marks.now)
      (growing_none 2 1024 c.args.from (c.args.to - c.args.from) c.args.ws.now),
)

pub push-requires : goal.push-requires
push-requires c =
    let p = c.loop-c in
    growing_room c.requires.1 p.invariant.1
    (below_room c.args.vertices.now.items c.args.marks.now p.c (omega arith) c.if-marked.true)

pub loop-c-preserved : goal.loop-c-preserved
loop-c-preserved c =
    let p = c.loop-c in
    let vs = c.args.vertices.now.items in
    let marks = c.args.marks.now in
    let now : List ℕ → Type 0 = λ (t : List ℕ).
    Growing 2 1024 c.args.from (c.args.to - c.args.from) c.args.ws.now t (moved_below vs marks (p.c + 1)) in (
      omega arith,
      elim c.if-marked.branch [
        | then-marked w ↦ subst now (sym w.ws-is)
            (rw (below_marked vs marks p.c w.if-marked.true, ← w.moved-code.ensures.0)
            (growing_push c.requires.1 p.invariant.1 (below_room vs marks p.c (omega arith) w.if-marked.true)
            w.moved-code.result w.push.new.s (omega (arith, w.moved-code.ensures.1)) w.push.ensures))
        | else-marked w ↦ subst now (sym w.ws-is) (rw (below_left vs marks p.c w.if-marked.false) p.invariant.1)
      ],
    )

pub end_list-requires : goal.end_list-requires
end_list-requires c = let p = c.loop-c in growing_end_room c.requires.1 p.invariant.1

pub returns : goal.returns
returns c =
    let p = c.loop-c in
    let all : p.c ≡ 400 = omega arith in
    let end = growing_end c.requires.1 p.invariant.1 c.end_list.new.s c.end_list.ensures in
    rw (all, below_all c.args.vertices.now.items c.args.marks.now) at end
