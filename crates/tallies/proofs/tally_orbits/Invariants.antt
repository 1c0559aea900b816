-- `tally_orbits` meets its contract. The tallies are those of the orbits so far.
use Prim.Native.Nat.{◌-◌, ◌≤◌}
use lib.ListN.{length}
use Rattle.rows.specs.Rows.{rows_in, row_at}
use Rattle.tallies.specs.Meaning.{images_in, sums_in}
use Rattle.tallies.proofs.Moving.{TalliedTo}
use Rattle.tallies.proofs.tally_orbits.Given as goal

abbrev pub invariant-loop-i : goal.invariant-loop-i
invariant-loop-i l =
    (l.i ≤ l.orbits) × TalliedTo l.n l.whole.count (row_at l.n 0 l.whole.globals.now) l.whole.full.n
    (rows_in l.whole.full.n l.whole.full.rows.count l.whole.full.rows.bytes.now) l.initial.ws l.i l.tallies.known
    (length l.tallies.tallies.items) l.ws (images_in l.tallies.tallies.items) (sums_in l.tallies.tallies.items)
