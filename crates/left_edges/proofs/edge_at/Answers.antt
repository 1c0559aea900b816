-- `left_edges::edge_at` meets its contract. Assumes nothing.
use mathlib.Core.Path.{sym, ◌∙◌}
use Rattle.pool.specs.Holds.{holds_item, item_room}
use Rattle.left_edges.proofs.edge_at.Goals as goal

pub item-requires : goal.item-requires
item-requires c = item_room c.requires.1.1 c.args.x 0 c.requires.1.2 c.requires.1.3

pub returns : goal.returns
returns c = λ lists h few some. c.from.ensures ∙ (c.item.ensures ∙ sym (holds_item h c.args.x 0 few some))
