-- `Subspace::project_at` meets its contract. The invariant: q is what the first j basis vectors make of the offset,
-- with zeros behind it. Leans on the laws of rows.
use mathlib.Core.Path.{◌≡◌}
use Prim.Native.Nat.{◌≤◌}
use lib.ListN.{length, take, drop}
use Rattle.definitions.specs.Subspace.{gains}
use Rattle.laws.specs.Parts.{rows}
use Rattle.vectors.specs.Meaning.{zeros}
use Rattle.space.proofs.Subspace.project_at.Given as goal

abbrev pub invariant-loop-j : goal.invariant-loop-j
invariant-loop-j l =
    (l.j ≤ l.self.rank) × (length l.q ≡ 5)
    × (take l.d l.q ≡ gains (take l.d l.away) (rows 5 l.d l.j l.self.basis) (take l.d l.self.offset))
    × (drop l.d l.q ≡ drop l.d (zeros 5))
