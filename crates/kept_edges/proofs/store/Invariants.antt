-- `kept_edges::store` meets its contract. The loop's invariant: the items up to the loop's index stand in the pool's
-- open list. Assumes nothing.
use mathlib.Core.List.{map}
use Prim.Native.Nat.{◌-◌}
use lib.ListN.{take}
use Rattle.keep.specs.Storing.{Growing}
use Rattle.kept_edges.proofs.store.Given as goal

abbrev pub invariant-loop-v : goal.invariant-loop-v
invariant-loop-v g l =
    Growing g.T.Word.BYTES l.most l.from (l.to - l.from) l.initial.ws l.ws
    (take l.v-index (map g.T.Word.number l.items))
