-- `areas_from` meets its contract: the record is the definition's.
use mathlib.Core.Path.{refl}
use Rattle.ridges.specs.TableLayouts.{areas_of}
use Rattle.ridges.proofs.areas_from.Goals as goal

pub returns : goal.returns
unfolding areas_of
returns c = refl
