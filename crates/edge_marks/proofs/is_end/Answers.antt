-- `edge_marks::is_end` meets its contract.
use mathlib.Core.Path.{refl, ◌∙◌}
use Rattle.std.proofs.Common.{rules}
use borrow.Author.Tests.{tests}
use Rattle.std.proofs.lemmas.Iterator.{YieldsList-from_range}
use Rattle.std.proofs.lemmas.Iterator.Search.{any_from_yields_List}
use Rattle.edge_marks.specs.Summaries.{joins, end_is}
use Rattle.edge_marks.proofs.is_end.Goals as goal

pub returns : goal.returns
returns c =
    any_from_yields_List (joins c.args.marks.now c.args.v) _ _ _ c.any.ensures.ran
    (YieldsList-from_range 0 20 20 refl refl) (λ x b q k. search (rules, tests))
    ∙ end_is c.args.marks.now c.args.v c.requires
