-- Theorems on the definitions of specs/Sets.
use mathlib.Core.List.{List, []}
use Prim.Native.Nat.{ℕ}
use Rattle.definitions.specs.Lists.{sort_nats}
use Rattle.definitions.specs.Orbits.{Row, image, set_image}
use Rattle.laws.specs.Ranges.{Permutes}
use Rattle.shapes.proofs.Move.{element_sent}
use Rattle.shapes.specs.Sets.{VertexSet, row_into}

-- ---- rows

-- a set's image under a row is a set again
pub set_image_holds : (n : ℕ) (vertices : List ℕ) (row : Row) → VertexSet n vertices → Permutes n row
    → VertexSet n (set_image vertices row)
unfolding set_image sort_nats
set_image_holds n vertices row h p =
    let e = element_sent n n (image row) (row_into n row p) vertices (record {
      ascends = h.ascends;
      below = h.below;
    }) in
    record { ascends = e.ascends; below = e.below }
