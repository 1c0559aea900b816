-- `left_edges::mark_facet` meets its contract. Assumes nothing.
use mathlib.Core.Path.{ap, ◌∙◌}
use mathlib.Core.List.{map}
use native.Mathlib.Omega.{arith}
use Rattle.rows.specs.Codes.{pair_code}
use Rattle.layout.specs.Keeps.{edges_of}
use Rattle.rows.specs.Marks.{marked}
use Rattle.left_edges.specs.Reading.{edge_known, edge_code_holds, code_apart, code_images, images_under}
use Rattle.left_edges.proofs.mark_facet.Goals as goal

pub edge_at-code-requires : goal.edge_at-code-requires
edge_at-code-requires c =
    let l = c.requires.2 in (
      l.leaves.keeps.fits,
      (
        map (map pair_code) (edges_of c.requires.1),
        l.leaves.keeps.edges,
        (edge_known l c.args.x c.requires.3).0,
        (edge_known l c.args.x c.requires.3).1,
      ),
    )

pub mark_pair_images-requires : goal.mark_pair_images-requires
mark_pair_images-requires c =
    let l = c.requires.2 in
    let known = edge_known l c.args.x c.requires.3 in
    let e = edge_code_holds l c.args.x c.requires.3 c.edge_at-code.result
    (c.edge_at-code.ensures _ l.leaves.keeps.edges known.0 known.1) in
    let a = code_apart l c.args.x c.requires.3 c.edge_at-code.result e in
    let f = l.rows_fit in (
      omega (arith, a.3, f.n_fits),
      omega (arith, a.4, f.n_fits),
      images_under f _ _ a.3 (omega arith),
      images_under f _ _ a.4 (omega arith),
    )

pub returns : goal.returns
returns c = λ n inner l h.
    let known = edge_known l c.args.x h in
    let e = edge_code_holds l c.args.x h c.edge_at-code.result
    (c.edge_at-code.ensures _ l.leaves.keeps.edges known.0 known.1) in
    c.mark_pair_images.ensures ∙ ap (marked c.args.marks.now) (code_images l c.args.x h c.edge_at-code.result e)
