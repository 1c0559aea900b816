-- `count_places` meets its contract. The loop's invariant: the shares that are left are those from some place i on, and
-- the first i places are counted, each for its ridge orbit.
use mathlib.Core.Path.{◌≡◌}
use Prim.Native.Nat.{ℕ, ◌≤◌}
use lib.ListN.{length, drop}
use Rattle.order.specs.Areas.{list_at, left_in}
use Rattle.ridges.specs.Codes.{many_in, last_in}
use Rattle.ridges.proofs.Tables.{AddingAll}
use Rattle.ridges.proofs.count_places.Given as goal

abbrev pub invariant-loop-share : goal.invariant-loop-share
invariant-loop-share l =
    (i : ℕ) × (i ≤ length (list_at 1024 l.shares l.x)) × (left_in l.share-iterator ≡ drop i (list_at 1024 l.shares l.x))
    × AddingAll l.ridges (list_at 1024 l.shares l.x) (many_in l.counted) (last_in l.counted) i
