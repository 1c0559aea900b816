-- `set_image` meets its contract. The invariant: the sum is the number of the images so far, none of which is above 2
-- ^ 19.
use mathlib.Core.Path.{◌≡◌}
use mathlib.Core.List.{map}
use Prim.Native.Nat.{◌*◌, ◌≤◌}
use lib.ListN.{take}
use Rattle.laws.specs.Sets.{set_number}
use Rattle.sets.proofs.Laws.{image_in}
use Rattle.sets.proofs.set_image.Given as goal

abbrev pub invariant-loop-v : goal.invariant-loop-v
invariant-loop-v l =
    (l.sum ≡ set_number (map (image_in l.rows l.i) (take l.v-index l.v-items))) × (l.sum ≤ 524288 * l.v-index)
