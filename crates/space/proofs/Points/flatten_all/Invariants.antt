-- `Points::flatten_all` meets its contract. The invariant: the first i points, flattened, stand in the new numbers.
-- Leans on the laws of rows.
use Prim.Native.Nat.{◌≤◌}
use mathlib.Core.Path.{◌≡◌}
use Rattle.laws.specs.Parts.{rows}
use Rattle.space.specs.Meaning.{subspace_of, HoldsPoints}
use mathlib.Core.List.{map}
use Rattle.definitions.specs.Subspace.{flatten}
use Rattle.space.proofs.Points.flatten_all.Given as goal

abbrev pub invariant-loop-i : goal.invariant-loop-i
invariant-loop-i l =
    (l.i ≤ l.self.n) × (l.flat.n ≡ l.i)
    × HoldsPoints l.flat l.plane.rank (map (flatten (subspace_of l.plane)) (rows 5 l.self.d l.i l.self.at))
