-- `Subspace::new` meets its contract: no row is in use, and zeros stand in all of them. Leans on the counts.
use mathlib.Core.Path.{refl}
use native.Mathlib.Omega.{arith}
use Rattle.laws.specs.Parts.{rows}
use Rattle.laws.specs.Segments.{onto}
use Rattle.vectors.specs.Meaning.{zeros}
use Rattle.space.specs.Fits.{in_rows, joined}
use Rattle.space.specs.Meaning.{subspace_of, point_alone}
use Rattle.space.specs.Counts.{holds_subspace}
use Rattle.space.proofs.Subspace.new.Goals as goal

pub returns : goal.returns
unfolding subspace_of point_alone rows
returns c = (holds_subspace _ _ refl, refl, refl)

pub invariant_of-result : goal.invariant_of-result
unfolding rows in_rows joined onto zeros
invariant_of-result c = record {
  fits = record {
    d_fits = c.requires.0;
    rank_fits = omega arith;
    offset_is = c.requires.1;
    basis_is = refl;
  };
}
