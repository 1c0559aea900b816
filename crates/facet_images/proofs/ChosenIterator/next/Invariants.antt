-- `Chosen::next` meets its contract. The loop's invariant: the iterator stands at i, and what it has left is what it
-- had left at the start.
use Rattle.std.proofs.Common.{◌≡◌}
use Rattle.facet_images.specs.Chosen.{chosen_left}
use Rattle.facet_images.proofs.ChosenIterator.next.Given as goal

-- only images that are not chosen were passed
abbrev pub invariant-loop-i : goal.invariant-loop-i
invariant-loop-i l =
    (l.self.wanted.ids.count ≡ l.i-end) × (l.self.at ≡ l.i) × (chosen_left l.self ≡ chosen_left l.fn.self)
