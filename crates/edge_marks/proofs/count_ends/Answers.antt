-- `edge_marks::count_ends` meets its contract.
use mathlib.Core.Path.{◌≡◌, ◌∙◌}
use native.Mathlib.Omega.{arith}
use Rattle.std.proofs.Common.{rules}
use borrow.Author.Tests.{tests}
use lib.ListN.{length}
use Rattle.std.specs.List.{filter, range_with_len}
use Rattle.std.proofs.lemmas.Iterator.{YieldsList-from_range}
use Rattle.std.proofs.lemmas.Iterator.Consumers.{YieldsList-from_filter, count_from_yields_List}
use Rattle.shapes.specs.UsedPoints.{end_of}
use Rattle.edge_marks.specs.Marks.{edges_marked}
use Rattle.edge_marks.specs.Summaries.{ends_counted, ends_few}
use Rattle.edge_marks.proofs.count_ends.Goals as goal

pub returns : goal.returns
returns c =
    let n = c.args.n in
    let is = end_of (edges_marked c.args.marks.now) in
    let e : c.count.result ≡ length (filter is (range_with_len 0 n)) =
    count_from_yields_List _ _ c.count.ensures.ran
    (YieldsList-from_filter _ is (YieldsList-from_range 0 n n c.filter.ensures.source (omega arith))
    c.filter.ensures.closure (λ x b q k. search (rules, tests))) in
    (e ∙ ends_counted c.args.marks.now n, omega (arith, e, ends_few c.args.marks.now n))
