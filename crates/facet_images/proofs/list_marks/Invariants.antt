-- `facet_images::list_marks` meets its contract: the facets that are left are still to be marked, and each is below
-- 1,024.
use mathlib.Core.Bool.{false}
use mathlib.Core.Path.{◌≡◌}
use lib.ListN.{length, replicate}
use Rattle.rows.specs.Marks.{marked}
use Rattle.order.specs.Areas.{list_of, left_in}
use Rattle.order.specs.Numbers.{ItemsBelow}
use Rattle.facet_images.proofs.list_marks.Given as goal

abbrev pub invariant-loop-x : goal.invariant-loop-x
invariant-loop-x l =
    (length l.marks ≡ 1024) × ItemsBelow 1024 (left_in l.x-iterator) × (marked l.marks (left_in l.x-iterator)
    ≡ marked (replicate 1024 false) (list_of l.lists.area l.lists.bytes.now l.k))
