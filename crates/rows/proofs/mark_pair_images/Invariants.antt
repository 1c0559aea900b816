-- `mark_pair_images` meets its contract. The loop's invariant: the images of the pair under the first i rows are
-- marked.
use mathlib.Core.Path.{◌≡◌}
use Prim.Native.Nat.{◌≤◌}
use lib.ListN.{length}
use Rattle.rows.specs.Rows.{rows_in}
use Rattle.rows.specs.Marks.{marked}
use Rattle.rows.specs.Codes.{pair_codes}
use Rattle.rows.proofs.mark_pair_images.Given as goal

abbrev pub invariant-loop-i : goal.invariant-loop-i
invariant-loop-i l =
    (l.i ≤ l.rows.count) × (length l.marks ≡ length l.initial.marks)
    × (l.marks ≡ marked l.initial.marks (pair_codes (rows_in 32 l.i l.rows.bytes.now) (l.v, l.w)))
