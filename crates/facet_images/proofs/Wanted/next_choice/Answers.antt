-- `Wanted::next_choice` meets its contract.
use mathlib.Core.Path.{sym, ◌∙◌}
use Rattle.facet_images.proofs.Choosing.{choice_repeated, choice_first, choice_none}
use Rattle.facet_images.proofs.Wanted.next_choice.Goals as goal

pub returns-then-was_chosen : goal.returns-then-was_chosen
returns-then-was_chosen c = choice_repeated _ _ _ (sym c.was_chosen.ensures ∙ c.if-was_chosen.true)

pub returns-then-self-id : goal.returns-then-self-id
returns-then-self-id c = choice_first _ _ _ (sym c.was_chosen.ensures ∙ c.if-was_chosen.false) c.if-self-id.true

pub returns-else-self-id : goal.returns-else-self-id
returns-else-self-id c = choice_none _ _ _ (sym c.was_chosen.ensures ∙ c.if-was_chosen.false) c.if-self-id.false
