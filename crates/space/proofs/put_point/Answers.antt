-- `put_point` meets its contract: five places are written, one by one.
use mathlib.Core.Path.{refl}
use Rattle.laws.specs.Parts.{set_five}
use Rattle.space.proofs.put_point.Goals as goal

pub returns : goal.returns
unfolding set_five
returns c = refl
