-- `Points::length_between` meets its contract: what is read of the two points means them. Leans on the counts.
use mathlib.Core.Path.{◌≡◌, refl, sym, ap, ◌∙◌}
use Rattle.definitions.specs.Orbits.{point_at}
use Rattle.vectors.specs.Meaning.{five}
use Rattle.definitions.specs.Vectors.{minus, norm}
use Rattle.vectors.specs.Wholes.{five_means, minus_length}
use Rattle.space.specs.Meaning.{points_of}
use Rattle.space.specs.Counts.{point_means, point_length}
use Rattle.space.proofs.Points.length_between.Goals as goal

pub returns : goal.returns
returns c =
    let p = c.args.self.now in
    let v = point_means p c.args.v c.requires.0 _ c.point-2.ensures in
    let w = point_means p c.args.w c.requires.1 _ c.point.ensures in
    let v-long = point_length p c.args.v c.requires.0 in
    let w-long = point_length p c.args.w c.requires.1 in
    let m : c.minus.result ≡ five (minus (point_at (points_of p) c.args.w) (point_at (points_of p) c.args.v)) =
    c.minus.ensures ∙ rw (v, w) refl in
    c.norm.ensures ∙ ap norm (five_means c.minus.result _ p.d m (minus_length _ _ (w-long ∙ sym v-long) ∙ w-long))
