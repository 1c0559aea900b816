-- `Points::breaks_limit` meets its contract: where no limit is given nothing breaks one, else from the contracts of
-- its calls.
use mathlib.Core.Path.{refl, sym, ◌∙◌}
use Rattle.definitions.specs.Orbits.{breaks_limit}
use Rattle.space.specs.Meaning.{points_of, limits_of}
use Rattle.space.proofs.Laws.{nothing_breaks}
use Rattle.space.proofs.Points.breaks_limit.Goals as goal

pub returns-then-not-is_empty : goal.returns-then-not-is_empty
unfolding breaks_limit limits_of
returns-then-not-is_empty c = c.broken_by.ensures ∙ rw c.length_between.ensures refl

pub returns-else-not-is_empty : goal.returns-else-not-is_empty
returns-else-not-is_empty c =
    let a = c.args in
    let empty = c.if-not-is_empty.false in
    rw empty (sym (nothing_breaks a.tolerance a.limits (points_of a.self.now) a.v a.w (sym c.is_empty.ensures ∙ empty)))
