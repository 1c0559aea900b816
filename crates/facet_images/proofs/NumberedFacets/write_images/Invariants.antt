-- `NumberedFacets::write_images` meets its contract. The loop's invariant: the images that were yielded so far are
-- written.
use mathlib.Core.List.{flat_map}
use Rattle.words.specs.Wrote.{Writes}
use Rattle.facet_images.specs.Images.{id_words}
use Rattle.facet_images.proofs.NumberedFacets.write_images.Given as goal

abbrev pub invariant-loop-id : goal.invariant-loop-id
invariant-loop-id l =
    (goal.iterator-loop-id).can_next l.id-iterator × (goal.iterator-loop-id).is_finite l.id-iterator
    × Writes l.initial.w l.w
    (flat_map (id_words l.self.facets.edges.bytes.now l.self.facets.rows.bytes.now l.self.numbers.now) l.yielded)
