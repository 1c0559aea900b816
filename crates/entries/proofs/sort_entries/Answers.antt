-- `entries::sort_entries` meets its contract: the rest of the workspace is lent, and what comes back is a level.
-- Assumes nothing.
use mathlib.Core.Path.{ap, ◌∙◌}
use Prim.Native.Nat.{◌≤◌}
use native.Mathlib.Omega.{arith}
use lib.ListN.{length, drop}
use Rattle.words.specs.Lent.{lent_tail, back_length, back_front, back_tail}
use Rattle.entries.specs.Listed.{labelled_length, ready_pool}
use Rattle.entries.proofs.Listed.{listed}
use Rattle.entries.proofs.sort_entries.Goals as goal

pub order_lists-count-requires : goal.order_lists-count-requires
order_lists-count-requires c =
    rw (lent_tail c.args.at c.args.ws.now) (ready_pool c.args.layout c.args.at c.args.bytes c.args.ws.now c.requires)

pub returns : goal.returns
returns c = let at = c.args.at in let ws = c.args.ws.now in let bytes = c.args.bytes in
    let g = c.order_lists-count in
    let h : at ≤ length ws = omega (arith, c.requires.room) in
    let e = rw (lent_tail at ws) at g.ensures.1 in
    let n = ap length e ∙ labelled_length bytes (drop at ws) (ready_pool c.args.layout at bytes ws c.requires) in
    let q = rw (lent_tail at ws) at g.ensures.0 in
    rw q (listed c.args.layout at bytes ws c.requires _ (back_front at ws g.new.s h n) (back_length at ws g.new.s h n)
    (back_tail at ws g.new.s h n ∙ e))
