-- `share_facet` meets its contract. The loop's invariant: the shares of the first i places are pushed.
use Rattle.shares.specs.Areas.{Joined}
use Rattle.shares.specs.Shares.{sources_of, owner_of, places_in, code_at}
use mathlib.Core.Path.{◌≡◌}
use mathlib.Core.List.{map}
use Prim.Native.Nat.{◌≤◌}
use lib.ListN.{length, take}
use Rattle.shares.proofs.share_facet.Given as goal

abbrev pub invariant-loop-i : goal.invariant-loop-i
invariant-loop-i l =
    (length l.ws ≡ length l.initial.ws) × (l.o ≡ owner_of (sources_of l.layout l.tables l.initial.ws) l.x)
    × (l.n ≡ length (places_in (sources_of l.layout l.tables l.initial.ws) l.x)) × (l.i ≤ l.n)
    × Joined l.tables.shares l.tables.touched 2 1024 l.initial.ws l.ws
    (map (code_at (sources_of l.layout l.tables l.initial.ws) l.counts
    (owner_of (sources_of l.layout l.tables l.initial.ws) l.x))
    (take l.i (places_in (sources_of l.layout l.tables l.initial.ws) l.x)))
