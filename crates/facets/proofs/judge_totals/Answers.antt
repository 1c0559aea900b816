-- `facets::judge_totals` meets its contract. By the flag and by the place of the lowest total of 1. Assumes nothing.
use mathlib.Core.Path.{sym, ◌∙◌}
use Rattle.facets.specs.Layout.{verdict}
use Rattle.facets.specs.Judged.{judge_over, judge_found, judge_unfound}
use Rattle.facets.proofs.judge_totals.Goals as goal

pub returns-then-over : goal.returns-then-over
unfolding verdict
returns-then-over c = judge_over _ (sym c.if-over.true ∙ c.requires.1)

pub returns-in-Some : goal.returns-in-Some
unfolding verdict
returns-in-Some c =
    judge_found _ (sym c.if-over.false ∙ c.requires.1) c.in-Some.ridge (sym c.in-Some.is ∙ c.lowest.ensures)

pub returns-in-None : goal.returns-in-None
unfolding verdict
returns-in-None c = judge_unfound _ (sym c.if-over.false ∙ c.requires.1) (sym c.in-None.is ∙ c.lowest.ensures)
