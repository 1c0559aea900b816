-- `figure_words::write_edges` meets its contract: each edge of the list is written, in order. Assumes nothing.
use mathlib.Core.List.{[], ◌∷◌, ◌++◌, map, append_assoc}
use mathlib.Core.Path.{sym, ap, ◌∙◌}
use Prim.Native.Nat.{ℕ}
use Rattle.rows.specs.Codes.{pair_of}
use Rattle.order.specs.Areas.{left_in}
use Rattle.shapes.specs.FigureWords.{edge_words}
use Rattle.words.specs.Wrote.{writes_none, writes_then, writes_as}
use Rattle.figure_words.specs.Laws.{edges_none, edges_append}
use Rattle.figure_words.proofs.write_edges.Goals as goal

pub loop-edge-init : goal.loop-edge-init
loop-edge-init c = (
  writes_as (writes_none _) (sym edges_none),
  ap left_in c.into_iter-edge-iterator.ensures.into_iter_gives
      ∙ c.items-edge-items.ensures,
)

pub loop-edge-preserved : goal.loop-edge-preserved
loop-edge-preserved c = let l = c.loop-edge in
    let one =
    ap (λ (code : ℕ). edge_words (map pair_of l.yielded) ++ edge_words (pair_of code ∷ [])) c.from.ensures in (
      writes_as (writes_then l.invariant.0 c.write_edge.ensures)
          (one ∙ sym (edges_append l.yielded (c.in-Some.edge ∷ []))),
      append_assoc l.yielded (c.in-Some.edge ∷ []) (left_in c.next.new.self)
          ∙ (ap (λ r. l.yielded ++ r) (sym c.in-Some.ensures.steps) ∙ l.invariant.1),
    )
