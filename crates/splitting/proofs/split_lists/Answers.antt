-- `splitting::split_lists` meets its contract: the pool is cleared, and a turn splits one list more (`all_more`). At
-- the end k is the number of lists (`all_end`).
use mathlib.Core.Path.{sym, ap, ◌∙◌}
use Prim.Native.Nat.{◌≤◌}
use native.Mathlib.Omega.{arith}
use lib.ListN.{length, drop}
use Rattle.pool.specs.Pool.{count, emptied_length}
use Rattle.words.specs.Lent.{lent_tail, back_front, back_tail, back_length}
use Rattle.splitting.proofs.Lists.{pool_then, all_start, all_ready, all_inside, all_room, all_free, all_more, all_end}
use Rattle.splitting.proofs.split_lists.Goals as goal

pub clear-requires : goal.clear-requires
clear-requires c = rw (lent_tail c.args.layout.to c.args.ws.now) (omega (arith, c.requires.1))

pub loop-k-init : goal.loop-k-init
loop-k-init c = let g = c.clear in
    let to = c.args.layout.to in let ws = c.args.ws.now in
    let e = rw (lent_tail to ws) at g.ensures in
    let n = ap length e ∙ emptied_length (drop to ws) in
    let h : to ≤ length ws = c.requires.0.inside in (
      c.lists-lists.ensures ∙ ap count (sym (pool_then c.args.layout ws _ c.requires.0 c.requires.1 c.requires.2
          (back_front to ws g.new.s h n) (back_length to ws g.new.s h n) (back_tail to ws g.new.s h n ∙ e))),
      all_start c.args.layout ws _ c.requires.0 c.requires.1 c.requires.2 (back_front to ws g.new.s h n)
          (back_length to ws g.new.s h n) (back_tail to ws g.new.s h n ∙ e),
    )

pub split_list-requires : goal.split_list-requires
split_list-requires c = let l = c.loop-k in let i = l.invariant.1 in
    let h = rw l.invariant.0 at c.loop-k-test.true in (
      all_ready c.args.layout _ l.ws l.k i,
      all_inside c.args.layout _ l.ws l.k i h,
      all_room c.args.layout _ l.ws l.k i h,
      all_free c.args.layout _ l.ws l.k i h,
    )

pub loop-k-preserved : goal.loop-k-preserved
loop-k-preserved c = let l = c.loop-k in let i = l.invariant.1 in
    let h = rw l.invariant.0 at c.loop-k-test.true in (
      l.invariant.0,
      all_more c.args.layout _ l.ws l.k i h _ c.split_list.ensures.ws_after c.split_list.ensures.pool_grown,
    )

pub returns : goal.returns
returns c = let g = c.clear in
    let to = c.args.layout.to in let ws = c.args.ws.now in
    let e = rw (lent_tail to ws) at g.ensures in
    let n = ap length e ∙ emptied_length (drop to ws) in
    let h : to ≤ length ws = c.requires.0.inside in
    let l = c.loop-k in
    all_end c.args.layout ws _ c.requires.0 c.requires.1 c.requires.2 (back_front to ws g.new.s h n)
    (back_length to ws g.new.s h n) (back_tail to ws g.new.s h n ∙ e) l.ws l.k l.invariant.1
    (omega (arith, c.lists-lists.ensures))
