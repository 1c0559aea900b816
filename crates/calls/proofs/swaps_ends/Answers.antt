-- `calls::swaps_ends` meets its contract.
use native.Mathlib.Omega.{arith}
use mathlib.Core.Path.{refl, ◌∙◌}
use Rattle.std.proofs.Common.{rules}
use borrow.Author.Tests.{tests}
use Rattle.std.proofs.lemmas.Iterator.{YieldsList-from_range}
use Rattle.std.proofs.lemmas.Iterator.Search.{any_from_yields_List}
use Rattle.calls.specs.Ends.{swaps_at, some_swaps}
use Rattle.calls.proofs.swaps_ends.Goals as goal

pub returns : goal.returns
returns c = λ n some h.
    any_from_yields_List (swaps_at c.args.rows.bytes.now) _ _ _ c.any.ensures.ran
    (YieldsList-from_range 0 c.args.rows.count c.args.rows.count refl (omega arith))
    (λ x b q k. search (rules, tests))
    ∙ some_swaps c.args.rows.bytes.now c.args.rows.count n some
