-- `touch_facets` meets its contract. The loop's invariant: the first x facets have their lists.
use mathlib.Core.Path.{◌≡◌}
use Prim.Native.Nat.{◌≤◌}
use lib.ListN.{length}
use Rattle.pool.specs.Pool.{closed_lists}
use Rattle.shares.specs.Areas.{area, AreaGrown, lists_to}
use Rattle.ridges.specs.Codes.{touched_of}
use Rattle.ridges.proofs.touch_facets.Given as goal

abbrev pub invariant-loop-x : goal.invariant-loop-x
invariant-loop-x l =
    (length l.ws ≡ length l.initial.ws) × (l.x ≤ l.facets)
    × AreaGrown l.tables.touched l.tables.ones 2 l.facets l.initial.ws l.ws (lists_to (touched_of l.ridges
    (closed_lists 2 1024 (area l.tables.shares l.tables.touched l.initial.ws))) l.x)
