-- `Solids::write_figure` meets its contract.
use Rattle.words.specs.Words.{words}
use Rattle.words.specs.Wrote.{writes_as}
use Rattle.polyhedra.specs.Solids.{solid_from, polyhedron_from}
use Rattle.polyhedra.proofs.SolidsEntryFigure.write_figure.Goals as goal

pub returns : goal.returns
unfolding solid_from
returns c =
    let n = c.args.self.now.n in
    let ids = c.args.self.now.imaged.ids in
    let facets = c.facets.ensures in
    writes_as c.write_polyhedron.ensures (λ t. polyhedron_from n (c.entry_marks-marks.ensures t)
    (c.entry_facets-inside.ensures t) (words 4 ids.bytes.now ids.count) (facets.0 t) (facets.1 t))
