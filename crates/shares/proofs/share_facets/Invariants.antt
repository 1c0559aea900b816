-- `share_facets` meets its contract. The loop's invariant: the first x facets have their lists.
use mathlib.Core.Path.{◌≡◌}
use Prim.Native.Nat.{◌≤◌}
use lib.ListN.{length}
use Rattle.shares.specs.Areas.{AreaGrown, lists_to}
use Rattle.shares.specs.Shares.{sources_of, facet_codes}
use Rattle.shares.proofs.share_facets.Given as goal

abbrev pub invariant-loop-x : goal.invariant-loop-x
invariant-loop-x l =
    (length l.ws ≡ length l.initial.ws) × (l.x ≤ l.layout.facets)
    × AreaGrown l.tables.shares l.tables.touched 2 1024 l.initial.ws l.ws
    (lists_to (facet_codes (sources_of l.layout l.tables l.initial.ws) l.counts) l.x)
