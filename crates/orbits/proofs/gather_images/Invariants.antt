-- `gather_images` meets its contract. The invariant: the images under the rows so far were gathered, and each row
-- adds one at most.
use Prim.Native.Nat.{◌≤◌}
use lib.ListN.{length}
use Rattle.words.specs.Words.{words}
use Rattle.sorted.specs.Gathering.{Gathering}
use Rattle.rows.specs.Rows.{rows_in}
use Rattle.orbits.specs.Numbers.{image_numbers}
use Rattle.orbits.proofs.gather_images.Given as goal

abbrev pub invariant-loop-i : goal.invariant-loop-i
invariant-loop-i l =
    (length l.new.items ≤ l.i) × Gathering (words 4 l.seen.bytes.now l.seen.count)
    (image_numbers l.full.n l.set (rows_in l.full.n l.i l.full.rows.bytes.now)) l.new.items
