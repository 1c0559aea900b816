-- `ones_of_ridge` meets its contract. The loop's invariant: the first x facets are pushed.
use mathlib.Core.Path.{◌≡◌}
use Prim.Native.Nat.{◌≤◌}
use lib.ListN.{length}
use Rattle.pool.specs.Pool.{closed_lists}
use Rattle.shares.specs.Areas.{area, Joined}
use Rattle.ridges.specs.Codes.{ones_to}
use Rattle.ridges.proofs.ones_of_ridge.Given as goal

abbrev pub invariant-loop-x : goal.invariant-loop-x
invariant-loop-x l =
    (length l.ws ≡ length l.initial.ws) × (l.x ≤ l.facets)
    × Joined l.tables.ones l.tables.frames 2 l.ridges l.initial.ws l.ws
    (ones_to l.ridge (closed_lists 2 1024 (area l.tables.shares l.tables.touched l.initial.ws)) l.x)
