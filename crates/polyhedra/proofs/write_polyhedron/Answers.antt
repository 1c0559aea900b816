-- `polyhedra::write_polyhedron` meets its contract.
use Rattle.words.specs.Words.{words}
use Rattle.words.specs.Wrote.{writes_then, writes_as}
use Rattle.polyhedra.proofs.SolidWords.{polyhedron_is}
use Rattle.polyhedra.proofs.write_polyhedron.Goals as goal

pub returns : goal.returns
returns c = let facets = c.args.facets in let ids = c.args.wanted.ids in
    writes_as (writes_then c.write_head.ensures (writes_then c.push.ensures.writes (writes_then c.write_marks.ensures
    (writes_then c.push-2.ensures.writes (writes_then c.write_images.ensures c.write_body.ensures)))))
    (polyhedron_is c.args.n _ _ c.args.marks.now c.args.wanted.inside.now
    (words 4 ids.bytes.now ids.count) facets.edges.bytes.now facets.rows.bytes.now _ c.edge_numbers-numbers.ensures
    c.count_marks.ensures.0 c.count_chosen-many.ensures.0)
