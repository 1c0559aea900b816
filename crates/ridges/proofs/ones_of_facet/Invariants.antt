-- `ones_of_facet` meets its contract. The loop's invariant: the shares of 1 among the first i places are pushed.
use mathlib.Core.Path.{◌≡◌}
use mathlib.Core.List.{[]}
use Prim.Native.Nat.{◌≤◌}
use lib.ListN.{length, get_or, take}
use Rattle.pool.specs.Pool.{closed_lists}
use Rattle.shares.specs.Areas.{area, Joined}
use Rattle.ridges.specs.Codes.{ones_in}
use Rattle.ridges.proofs.ones_of_facet.Given as goal

abbrev pub invariant-loop-i : goal.invariant-loop-i
invariant-loop-i l =
    (length l.ws ≡ length l.initial.ws) × (l.n
    ≡ length (get_or (closed_lists 2 1024 (area l.tables.shares l.tables.touched l.initial.ws)) l.x []))
    × (l.i ≤ l.n)
    × Joined l.tables.ones l.tables.frames 2 l.ridges l.initial.ws l.ws (ones_in l.ridge l.x (take l.i
    (get_or (closed_lists 2 1024 (area l.tables.shares l.tables.touched l.initial.ws)) l.x [])))
