-- `Subspace::flatten` meets its contract. The invariant: the first j numbers are the dot products with the first j
-- basis vectors, and zeros stand behind them. Leans on the laws of rows.
use mathlib.Core.Path.{◌≡◌}
use mathlib.Core.List.{map}
use Prim.Native.Nat.{◌≤◌}
use lib.ListN.{length, take, drop}
use Rattle.definitions.specs.Vectors.{dot}
use Rattle.laws.specs.Parts.{rows}
use Rattle.vectors.specs.Meaning.{zeros}
use Rattle.space.proofs.Subspace.flatten.Given as goal

abbrev pub invariant-loop-j : goal.invariant-loop-j
invariant-loop-j l =
    (l.j ≤ l.self.rank) × (length l.r ≡ 5) × (take l.j l.r
    ≡ map (dot (take l.self.d l.away)) (rows 5 l.self.d l.j l.self.basis)) × (drop l.j l.r ≡ drop l.j (zeros 5))
