-- `entry_lists::first_facets` meets its contract. The loop's invariant: for each orbit that has facets from x on, the
-- first of these stands in the table.
use mathlib.Core.Path.{◌≡◌}
use Prim.Native.Nat.{◌≤◌}
use lib.ListN.{length}
use Rattle.words.specs.Words.{words}
use Rattle.possible_facets.specs.Facets.{FirstsFrom}
use Rattle.entry_lists.proofs.first_facets.Given as goal

abbrev pub invariant-loop-x : goal.invariant-loop-x
invariant-loop-x l =
    (l.x ≤ l.owners.facets) × (length l.firsts ≡ 256)
    × FirstsFrom (words 2 l.owners.bytes.now l.owners.facets) l.firsts l.x
