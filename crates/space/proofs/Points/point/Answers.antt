-- `Points::point` meets its contract: the five places that are read hold the point, with its zeros.
use mathlib.Core.Path.{◌∙◌}
use Rattle.space.specs.Counts.{point_places}
use Rattle.space.proofs.Points.point.Goals as goal

pub returns : goal.returns
returns c = c.point_at.ensures ∙ point_places c.args.self.now c.args.i c.requires
