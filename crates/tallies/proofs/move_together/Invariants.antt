-- `move_together` meets its contract. The orbits looked at that are kept stand in front, and the others are as they
-- were.
use Prim.Native.Nat.{◌-◌, ◌≤◌}
use lib.ListN.{drop}
use Rattle.words.specs.Words.{words}
use Rattle.rows.specs.Rows.{row_at}
use Rattle.tallies.specs.Meaning.{sums_in}
use Rattle.tallies.proofs.Moving.{MovedTo}
use Rattle.tallies.proofs.move_together.Given as goal

abbrev pub invariant-loop-i : goal.invariant-loop-i
invariant-loop-i l =
    (l.i ≤ l.orbits)
    × MovedTo l.n (row_at l.n 0 l.whole.globals.now) (words 4 (drop 2048 l.initial.ws) l.tallies.known)
    (sums_in l.tallies.tallies.items) l.initial.ws l.orbits l.i l.kept l.ws
