-- `Points::new` meets its contract: no row is in use, and zeros stand in all of them. Leans on the counts.
use mathlib.Core.Path.{refl}
use native.Mathlib.Omega.{arith}
use Rattle.laws.specs.Parts.{rows}
use Rattle.laws.specs.Segments.{onto}
use Rattle.vectors.specs.Meaning.{zeros}
use Rattle.space.specs.Meaning.{points_of}
use Rattle.space.specs.Fits.{in_rows, joined}
use Rattle.space.specs.Counts.{holds_points}
use Rattle.space.proofs.Points.new.Goals as goal

pub returns : goal.returns
unfolding points_of rows
returns c = holds_points _ _ _ refl refl

pub invariant_of-result : goal.invariant_of-result
unfolding rows in_rows joined onto zeros
invariant_of-result c = record { fits = record { n_fits = omega arith; d_fits = c.requires; at_is = refl } }
