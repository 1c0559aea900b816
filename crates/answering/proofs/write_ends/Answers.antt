-- `answering::write_ends` meets its contract: the two answers of rank 2, by whether the ends are swapped. Assumes
-- nothing.
use mathlib.Core.Bool.{true, false}
use mathlib.Core.Path.{◌≡◌}
use borrow.Author.Rules.{rules}
use Rattle.kept_edges.specs.Edges.{edge_answer}
use Rattle.answering.proofs.write_ends.Goals as goal

pub returns-then-swapped : goal.returns-then-swapped
unfolding edge_answer
returns-then-swapped c =
    let e : c.args.swapped ≡ true = search rules in
    rw e c.write_swapped.ensures

pub returns-else-swapped : goal.returns-else-swapped
unfolding edge_answer
returns-else-swapped c =
    let e : c.args.swapped ≡ false = search rules in
    rw e c.write_separate.ensures
