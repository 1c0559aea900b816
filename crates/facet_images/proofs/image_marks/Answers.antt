-- `facet_images::image_marks` meets its contract.
use mathlib.Core.Bool.{false}
use mathlib.Core.List.{List}
use mathlib.Core.Path.{ap, ◌∙◌}
use Prim.Native.Nat.{ℕ, ◌*◌}
use lib.ListN.{replicate}
use Rattle.rows.specs.Marks.{marked}
use Rattle.rows.specs.Rows.{rows_in}
use Rattle.order.specs.Areas.{list_at}
use Rattle.edge_marks.specs.Marks.{image_codes}
use Rattle.facet_images.specs.Images.{image_marks}
use Rattle.figure_words.specs.Laws.{rest_is}
use Rattle.facet_images.proofs.image_marks.Goals as goal

pub returns : goal.returns
unfolding image_marks
returns c = let facets = c.args.facets in
    c.mark_facet.ensures ∙ ap (λ (r : List ℕ).
    marked (replicate 400 false) (image_codes (rows_in 32 1 r) (list_at 1024 facets.edges.bytes.now c.args.x)))
    (rest_is (32 * c.args.row) facets.rows.bytes.now)
