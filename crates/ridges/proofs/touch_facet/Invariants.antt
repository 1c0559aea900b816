-- `touch_facet` meets its contract. The loop's invariant: what the facet adds to the first ridge orbits is pushed.
use Rattle.ridges.specs.Codes.{touched_to}
use mathlib.Core.Path.{◌≡◌}
use mathlib.Core.List.{[]}
use Prim.Native.Nat.{◌≤◌}
use lib.ListN.{length, get_or}
use Rattle.pool.specs.Pool.{closed_lists}
use Rattle.shares.specs.Areas.{area, Joined}
use Rattle.ridges.proofs.touch_facet.Given as goal

abbrev pub invariant-loop-ridge : goal.invariant-loop-ridge
invariant-loop-ridge l =
    (length l.ws ≡ length l.initial.ws) × (l.ridge ≤ l.ridges)
    × Joined l.tables.touched l.tables.ones 2 l.facets l.initial.ws l.ws (touched_to l.ridge
    (get_or (closed_lists 2 1024 (area l.tables.shares l.tables.touched l.initial.ws)) l.x []))
