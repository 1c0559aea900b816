-- `Capacities::kept_layout` meets its contract: its sums are those of the definition. Assumes nothing.
use Rattle.std.specs.Prelude.{refl}
use Rattle.layout.specs.Capacities.{kept_layout}
use Rattle.layout.proofs.Capacities.kept_layout.Goals as goal

pub returns : goal.returns
unfolding kept_layout
returns c = refl
