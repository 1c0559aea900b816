-- `Points::push` meets its contract: the row that is written is one point more. Leans on the counts.
use mathlib.Core.Path.{◌≡◌, refl}
use borrow.Author.Rules.{rules}
use lib.ListN.{length}
use Rattle.space.specs.Counts.{point_fits, point_joined, holds_points}
use Rattle.space.proofs.Points.push.Goals as goal

pub invariant_of-self : goal.invariant_of-self
invariant_of-self c =
    let long : length c.args.p ≡ 5 = search rules in
    record { fits = rw c.put_point.ensures (point_fits c.args.self.now c.args.p c.requires.0 long c.requires.1) }

pub returns : goal.returns
returns c =
    let long : length c.args.p ≡ 5 = search rules in (
      holds_points _ _ _ refl
          (point_joined c.args.self.now c.args.p c.requires.0 long c.requires.1 _ c.put_point.ensures refl refl),
      refl,
    )
