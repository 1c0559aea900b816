-- `Solids::write_summary` meets its contract.
use mathlib.Core.Bool.{Bool}
use mathlib.Core.Path.{ap, ◌∙◌}
use mathlib.Core.List.{List}
use lib.ListN.{length}
use Rattle.words.specs.Words.{words}
use Rattle.edge_marks.specs.Summaries.{summary_marked}
use Rattle.facet_images.specs.declared.Choice.TheVariants.{Left}
use Rattle.facet_images.specs.Images.{chosen_from}
use Rattle.words.specs.Wrote.{writes_as}
use Rattle.polyhedra.specs.Solids.{solid_summary_from}
use Rattle.polyhedra.proofs.SolidsEntryFigure.write_summary.Goals as goal

pub returns : goal.returns
unfolding solid_summary_from
returns c =
    let marks = c.entry_marks-marks.ensures in
    let ids = c.args.self.now.imaged.ids in
    let facets = c.count_chosen-facets.ensures.0 ∙ ap (λ (marks : List Bool).
    length (chosen_from marks Left (words 4 ids.bytes.now ids.count))) c.entry_facets-inside.ensures in
    writes_as c.write_summary.ensures (λ t. summary_marked c.args.self.now.n (marks t) (facets t))
