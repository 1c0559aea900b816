-- `Symmetries::rows_within` meets its contract. The invariant: the rows so far that keep the set are written.
use mathlib.Core.Path.{◌≡◌}
use Prim.Native.Nat.{◌≤◌}
use lib.ListN.{length}
use Rattle.laws.specs.Sets.{vertices_of}
use Rattle.rows.specs.Rows.{written_rows}
use Rattle.stabilizers.proofs.Laws.{kept}
use Rattle.stabilizers.proofs.Symmetries.rows_within.Given as goal

abbrev pub invariant-loop-i : goal.invariant-loop-i
invariant-loop-i l =
    (l.i ≤ l.self.rows.count) × (l.count ≤ l.i)
    × (l.count ≡ length (kept (vertices_of l.self.n l.set) l.self.n l.self.rows.bytes.now l.initial.out l.i))
    × (l.out ≡ written_rows
    (kept (vertices_of l.self.n l.set) l.self.n l.self.rows.bytes.now l.initial.out l.i) 0 l.initial.out)
