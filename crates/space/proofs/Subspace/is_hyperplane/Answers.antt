-- `Subspace::is_hyperplane` meets its contract: the counts are those of the meaning. Leans on the counts.
use mathlib.Core.Path.{ap}
use native.Mathlib.Numerals.{add-one}
use lib.Dec.{eqb}
use Rattle.definitions.specs.Subspace.{is_hyperplane}
use Rattle.space.specs.Counts.{offset_length, basis_length}
use Rattle.space.proofs.Subspace.is_hyperplane.Goals as goal

pub returns : goal.returns
unfolding is_hyperplane
returns c =
    let s = c.args.self.now in
    rw (offset_length s, basis_length s) (ap (eqb s.d) (add-one s.rank))
