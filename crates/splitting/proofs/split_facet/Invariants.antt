-- `splitting::split_facet` meets its contract. The loop's invariant: what the queue is still to give, pushed, is what
-- all was to be pushed. The measure is twice the steps that are left and the queue's length. Assumes nothing.
use Prim.Native.Nat.{◌+◌, ◌*◌, ◌-◌}
use lib.ListN.{length}
use Rattle.splitting.proofs.Splitting.{Splits}
use Rattle.splitting.proofs.split_facet.Given as goal

abbrev pub invariant-loop-head : goal.invariant-loop-head
invariant-loop-head l =
    Splits l.layout.facets l.layout.to l.layout.most l.layout.steps l.facet l.initial.ws l.ws l.queue.items l.head
    l.left

abbrev pub decreases-loop-head : goal.decreases-loop-head
decreases-loop-head l = 2 * l.left + (length l.queue.items - l.head)
