-- `edge_marks::write_summary` meets its contract.
use mathlib.Core.List.{[], ◌∷◌}
use Rattle.words.specs.Wrote.{writes_as}
use Rattle.edge_marks.specs.Summaries.{summary_marked}
use Rattle.edge_marks.proofs.write_summary.Goals as goal

pub returns : goal.returns
unfolding summary_marked
returns c = let ends = c.count_ends-points.ensures.0 in
    let lines = c.requires.1 in
    writes_as c.push_three.ensures (λ t. ends t ∷ lines t ∷ c.args.facets ∷ [])
