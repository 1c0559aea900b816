-- `FacetNames::write_list` meets its contract: the facets so far are written, and the others are left, each below the
-- bound.
use mathlib.Core.List.{◌++◌, flat_map}
use mathlib.Core.Path.{◌≡◌}
use Rattle.words.specs.Words.{words}
use Rattle.order.specs.Areas.{list_at, left_in}
use Rattle.order.specs.Numbers.{ItemsBelow}
use Rattle.possible_facets.specs.Facets.{item_words}
use Rattle.words.specs.Wrote.{Writes}
use Rattle.entry_lists.proofs.FacetNames.write_list.Given as goal

abbrev pub invariant-loop-x : goal.invariant-loop-x
invariant-loop-x l = ItemsBelow l.self.owners.facets (left_in l.x-iterator)
    × Writes l.initial.w l.w (flat_map (item_words (words 2 l.self.owners.bytes.now l.self.owners.facets)) l.yielded)
    × (l.yielded ++ left_in l.x-iterator ≡ list_at l.lists.most l.lists.bytes.now l.k)
