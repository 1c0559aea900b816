-- `vertex_openers` meets its contract. The invariant: the openers are those found below v, and the marks are those
-- left by them.
use mathlib.Core.Path.{◌≡◌}
use mathlib.Core.Bool.{false}
use Prim.Native.Nat.{◌≤◌}
use lib.ListN.{replicate}
use Rattle.openers.proofs.Laws.{found_below, marks_below}
use Rattle.openers.proofs.PairSearch.vertex_openers.Given as goal

abbrev pub invariant-loop-v : goal.invariant-loop-v
invariant-loop-v l = (l.v ≤ l.self.points.now.n)
    × (l.found.items ≡ found_below l.self.rows.count l.self.rows.bytes.now (replicate 400 false) l.v)
    × (l.marks ≡ marks_below l.self.rows.count l.self.rows.bytes.now (replicate 400 false) l.v)
