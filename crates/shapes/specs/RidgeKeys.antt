-- The ridges of a call as keys, at every rank from 3: at rank 3 a vertex, above an element with the points that stand
-- in its figure. Rows carry them as they carry figures, so that a call numbers its ridges by such keys. Leans on
-- Ridges and NestedCalls.
use mathlib.Core.List.{List, map}
use Prim.Native.Nat.{ℕ, zero, suc, compare, Ordering}
use Rattle.definitions.specs.Recursion.{Inner}
use Rattle.laws.specs.Orders.{Linear, nats, compare_both, both}
use Rattle.shapes.specs.Nested.{compare_nested, nested_order, move_nested}
use Rattle.shapes.specs.NestedCalls.{Ridge, read_ridge}

-- by the points, then by the element
abbrev pub compare_ridge : (k : ℕ) → Ridge k → Ridge k → Ordering
compare_ridge zero = compare
compare_ridge (suc k) = compare_both compare (compare_nested k)

pub ridge_order : (k : ℕ) → Linear (compare_ridge k)
ridge_order zero = nats
ridge_order (suc k) = both compare nats (compare_nested k) (nested_order k)

-- sent elsewhere
unfoldable pub send_ridge : (k : ℕ) → (ℕ → ℕ) → Ridge k → Ridge k
send_ridge zero to v = to v
send_ridge (suc k) to x = (x.0, move_nested to k x.1)

-- the ridges of an inner answer, in its set's positions
unfoldable pub ridges_read : (more : ℕ) → Inner → List (List (Ridge more))
ridges_read more i = map (map (read_ridge more)) i.answer.possible
