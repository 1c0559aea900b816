-- `lay_ones` meets its contract. The loop's invariant: the first ridge orbits have their lists.
use Rattle.pool.specs.Pool.{closed_lists}
use Rattle.ridges.specs.Codes.{ones_of}
use mathlib.Core.Path.{◌≡◌}
use Prim.Native.Nat.{◌≤◌}
use lib.ListN.{length}
use Rattle.shares.specs.Areas.{area, AreaGrown, lists_to}
use Rattle.ridges.proofs.lay_ones.Given as goal

abbrev pub invariant-loop-ridge : goal.invariant-loop-ridge
invariant-loop-ridge l =
    (length l.ws ≡ length l.initial.ws) × (l.ridge ≤ l.ridges)
    × AreaGrown l.tables.ones l.tables.frames 2 l.ridges l.initial.ws l.ws (lists_to (ones_of
    (closed_lists 2 1024 (area l.tables.shares l.tables.touched l.initial.ws)) l.facets) l.ridge)
