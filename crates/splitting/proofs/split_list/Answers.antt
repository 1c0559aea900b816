-- `splitting::split_list` meets its contract: what is written lies behind the lists, so that each facet is read as it
-- stood (`pool_same`). A turn pushes one facet's parts (`splits1_more`), and the end closes the list.
use mathlib.Core.Path.{refl, ap, ◌∙◌}
use Prim.Native.Nat.{◌≤◌}
use native.Mathlib.Omega.{arith}
use lib.ListN.{length}
use Rattle.words.specs.Lent.{lent_tail, back_tail, back_whole}
use Rattle.splitting.proofs.Lists.{splits1_start, pool_same, splits1_room, splits1_more, splits1_free, splits1_end}
use Rattle.splitting.proofs.Lists.{splits1_long, splits1_grown}
use Rattle.laws.specs.Clauses.{of_two}
use Rattle.splitting.proofs.split_list.Goals as goal

pub length-n-requires : goal.length-n-requires
length-n-requires c = rw c.lists.ensures.0 c.requires.1

pub loop-i-init : goal.loop-i-init
loop-i-init c = splits1_start c.args.layout c.args.k c.args.ws.now c.requires.0 c.requires.2

pub lists-requires-in-loop-i : goal.lists-requires-in-loop-i
lists-requires-in-loop-i c = let l = c.loop-i in
    let e = pool_same c.args.layout c.args.k c.args.ws.now c.requires.0 c.requires.2 l.ws l.i l.invariant in
    (c.requires.0.order, omega (arith, l.invariant.long, c.requires.0.inside), rw e c.requires.0.sound)

pub item-facet-requires : goal.item-facet-requires
item-facet-requires c = let l = c.loop-i in
    let e = pool_same c.args.layout c.args.k c.args.ws.now c.requires.0 c.requires.2 l.ws l.i l.invariant in
    let n = rw (c.lists.ensures.0, c.lists.ensures.1) at c.length-n.ensures in
    rw (c.lists-in-loop-i.ensures.0, c.lists-in-loop-i.ensures.1, e)
    (c.requires.1, omega (arith, n, c.loop-i-test.true))

pub split_facet-requires : goal.split_facet-requires
split_facet-requires c = let l = c.loop-i in
    let e = pool_same c.args.layout c.args.k c.args.ws.now c.requires.0 c.requires.2 l.ws l.i l.invariant in
    let n = rw (c.lists.ensures.0, c.lists.ensures.1) at c.length-n.ensures in
    let v = rw (c.lists-in-loop-i.ensures.0, c.lists-in-loop-i.ensures.1, e) at c.item-facet.ensures in (
      omega (arith, c.requires.0.table, c.requires.0.order),
      omega (arith, l.invariant.long, c.requires.0.inside),
      c.requires.0.short,
      splits1_room c.args.layout c.args.k c.args.ws.now c.requires.0 c.requires.2 l.ws l.i
          l.invariant (omega (arith, n)) _ v,
    )

pub loop-i-preserved : goal.loop-i-preserved
loop-i-preserved c = let l = c.loop-i in
    let e = pool_same c.args.layout c.args.k c.args.ws.now c.requires.0 c.requires.2 l.ws l.i l.invariant in
    let n = rw (c.lists.ensures.0, c.lists.ensures.1) at c.length-n.ensures in
    let v = rw (c.lists-in-loop-i.ensures.0, c.lists-in-loop-i.ensures.1, e) at c.item-facet.ensures in
    splits1_more c.args.layout c.args.k c.args.ws.now c.requires.0 c.requires.2 l.ws l.i l.invariant
    (omega (arith, n)) _ v _ c.split_facet.ensures.ws_after c.split_facet.ensures.pool_grown

pub end_list-requires : goal.end_list-requires
end_list-requires c = let l = c.loop-i in
    let n = rw (c.lists.ensures.0, c.lists.ensures.1) at c.length-n.ensures in
    rw (lent_tail c.args.layout.to l.ws) (splits1_free c.args.layout c.args.k c.args.ws.now c.requires.0 c.requires.2
    l.ws l.i l.invariant (omega (arith, n)) c.requires.3)

pub returns : goal.returns
returns c = of_two (λ x0 x1. record { ws_after = x0; pool_grown = x1 })
    (let l = c.loop-i in let g = c.end_list in
    let to = c.args.layout.to in
    let q = rw (c.lists.ensures.0, c.lists.ensures.1) at c.length-n.ensures in
    let h : to ≤ length l.ws = omega (arith, l.invariant.long, c.requires.0.inside) in
    let e = rw (lent_tail to l.ws) at g.ensures in
    let n = ap length e
    ∙ splits1_long c.args.layout c.args.k c.args.ws.now c.requires.0 c.requires.2 l.ws l.i l.invariant
    (omega (arith, q)) c.requires.3 in (
      back_whole to l.ws g.new.s h n ∙ rw (
        l.invariant.front,
        e ∙ splits1_end c.args.layout c.args.k c.args.ws.now
            c.requires.0 c.requires.2 l.ws l.i l.invariant (omega (arith, q)) c.requires.3,
      ) refl,
      splits1_grown c.args.layout c.args.k c.args.ws.now c.requires.0 c.requires.2 l.ws l.i l.invariant
          (omega (arith, q)) c.requires.3 _ (back_tail to l.ws g.new.s h n ∙ e),
    ))
