-- `entry_lists::write_compound` meets its contract.
use mathlib.Core.Path.{sym, ap, ◌∙◌}
use mathlib.Core.List.{flat_map}
use Rattle.std.specs.Prelude.{Option}
use Rattle.definitions.specs.Lists.{Pair}
use Rattle.definitions.specs.Job.{compound_words}
use Rattle.definitions.specs.Figures.{compound_at}
use Rattle.words.specs.Wrote.{writes_none, writes_as}
use Rattle.entry_lists.proofs.ItemSteps.{none_written, some_written}
use Rattle.entry_lists.proofs.write_compound.Goals as goal

pub returns-in_default : goal.returns-in_default
returns-in_default c =
    writes_as (writes_none _) (none_written c.args.whole ∙ ap (λ (o : Option Pair).
    flat_map compound_words (compound_at c.args.whole o)) (sym c.in_default.is ∙ c.components.ensures))

pub returns-in-Some : goal.returns-in-Some
returns-in-Some c =
    writes_as c.push_three.ensures (some_written c.args.whole (c.in-Some.first, c.in-Some.second)
    ∙ ap (λ (o : Option Pair). flat_map compound_words (compound_at c.args.whole o))
    (sym c.in-Some.is ∙ c.components.ensures))
