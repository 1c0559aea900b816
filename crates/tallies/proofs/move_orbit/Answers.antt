-- `move_orbit` meets its contract: what `copy_within` leaves is the orbit's bytes in their new place.
use mathlib.Core.Path.{◌∙◌}
use Rattle.tallies.proofs.Moving.{orbit_moved}
use Rattle.tallies.proofs.move_orbit.Goals as goal

pub returns : goal.returns
returns c = c.copy_within.ensures.after ∙ orbit_moved c.args.ws.now c.args.from c.args.to
