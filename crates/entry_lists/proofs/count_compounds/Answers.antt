-- `entry_lists::count_compounds` meets its contract.
use mathlib.Core.Path.{◌≡◌, ◌∙◌}
use native.Mathlib.Omega.{arith}
use Rattle.std.proofs.Common.{rules}
use borrow.Author.Tests.{tests}
use lib.ListN.{length}
use Rattle.std.specs.List.{filter, range_with_len}
use Rattle.std.proofs.lemmas.Iterator.{YieldsList-from_range}
use Rattle.std.proofs.lemmas.Iterator.Consumers.{YieldsList-from_filter, count_from_yields_List}
use Rattle.entry_lists.proofs.ItemSteps.{is_compound, compounds_counted, compounds_few}
use Rattle.entry_lists.proofs.count_compounds.Goals as goal

pub returns : goal.returns
returns c =
    let n = c.args.n in
    let is = is_compound c.args.at c.args.s.now in
    let e : c.count.result ≡ length (filter is (range_with_len 0 n)) =
    count_from_yields_List _ _ c.count.ensures.ran
    (YieldsList-from_filter _ is (YieldsList-from_range 0 n n c.filter.ensures.source (omega arith))
    c.filter.ensures.closure (λ x b q k. search (rules, tests))) in
    (e ∙ compounds_counted c.args.at n c.args.s.now, omega (arith, e, compounds_few c.args.at n c.args.s.now))
