-- `left_edges::mark_entry` meets its contract: the facets that are left are kept ones, and their images are still to
-- be marked. Assumes nothing.
use mathlib.Core.Path.{◌≡◌}
use mathlib.Core.List.{List, [], map}
use Prim.Native.Nat.{ℕ}
use lib.ListN.{length, get_or}
use Rattle.rows.specs.Rows.{rows_in}
use Rattle.rows.specs.Marks.{marked}
use Rattle.rows.specs.Codes.{pair_code}
use Rattle.order.specs.Areas.{left_in}
use Rattle.order.specs.Numbers.{ItemsBelow}
use Rattle.shapes.specs.Kept.{Kept}
use Rattle.layout.specs.Leaves.{lists_left}
use Rattle.left_edges.specs.Polygons.{images_of, EdgesLeft}
use Rattle.left_edges.proofs.mark_entry.Given as goal

abbrev pub invariant-loop-x : goal.invariant-loop-x
invariant-loop-x l = (n : ℕ) (inner : List Kept) → EdgesLeft n l.rows.count inner l.level l.rows.bytes.now l.s
    → ItemsBelow (length inner) (left_in l.x-iterator)
    × (marked l.marks (map pair_code (images_of (rows_in n l.rows.count l.rows.bytes.now) inner (left_in l.x-iterator)))
    ≡ marked l.initial.marks (map pair_code
    (images_of (rows_in n l.rows.count l.rows.bytes.now) inner (get_or (lists_left l.level l.s) l.k []))))
