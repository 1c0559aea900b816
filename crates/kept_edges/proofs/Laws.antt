-- What the proofs of `keep_edge` cite of a set's first two vertices. Assumes nothing.
use mathlib.Core.Path.{◌≡◌}
use mathlib.Core.List.{List}
use Prim.Native.Nat.{ℕ, ◌≤◌, ◌<◌}
use native.Mathlib.Omega.{arith}
use lib.ListN.{length, get_or}
use Rattle.laws.specs.Sets.{vertices_of}
use Rattle.sets.specs.Vertices.{vertex_below}

pub first_two : {n : ℕ} (set : ℕ) {vertices : List ℕ} → vertices ≡ vertices_of n set → 2 ≤ length (vertices_of n set)
    → (2 ≤ length vertices) × (get_or vertices 0 0 < n) × (get_or vertices 1 0 < n)
first_two {n} set {vertices} e h = rw e (h, vertex_below n set 0 (omega arith), vertex_below n set 1 (omega arith))
