-- `NumberedFacets::write_images` meets its contract: the iterator yields the chosen images (`the_chosen`), a turn
-- writes one of them, and at the end it has yielded all.
use Rattle.std.proofs.Common.{Bool, List, length, ap, sym, ◌∙◌}
use mathlib.Core.List.{[], flat_map, map-id}
use Rattle.std.proofs.lemmas.List.{flat_map_more}
use Rattle.std.proofs.lemmas.Iterator.{YieldsList}
use Rattle.std.proofs.lemmas.Iterator.Consumers.{YieldsList-from_first, YieldsList-turn, YieldsList-end}
use Rattle.std.specs.Iterator.{YieldsFirst}
use Rattle.words.specs.Words.{words}
use Rattle.words.specs.Wrote.{writes_none, writes_then, writes_as}
use Rattle.pool.specs.Pool.{count}
use Rattle.facet_images.specs.declared.Choice.TheVariants.{Left}
use Rattle.facet_images.specs.Images.{facet_words, id_words, chosen_from}
use Rattle.facet_images.specs.Chosen.{chosen_left, chosen_below, step_below}
use Rattle.facet_images.proofs.NumberedFacets.write_images.Goals.{After-into_iter-id-iterator}
use Rattle.facet_images.proofs.NumberedFacets.write_images.Goals as goal

-- the loop goes over the chosen images
the_chosen : (c : After-into_iter-id-iterator)
    → YieldsList (YieldsFirst chosen_left) (λ x. x) c.into_iter-id-iterator.result
    (chosen_from c.args.wanted.inside.now Left (words 4 c.args.wanted.ids.bytes.now c.args.wanted.ids.count))
the_chosen c =
    YieldsList-from_first (λ x. x) chosen_left _
    (ap chosen_left c.into_iter-id-iterator.ensures.into_iter_gives ∙ c.chosen-id-items.ensures)

pub loop-id-init : goal.loop-id-init
unfolding flat_map
loop-id-init c = (tt, tt, writes_none _)

pub image_marks-image-requires : goal.image_marks-image-requires
image_marks-image-requires c =
    let at-loop = c.loop-id in
    let facets = c.args.self.facets in
    let ids = words 4 c.args.wanted.ids.bytes.now c.args.wanted.ids.count in
    let chosen = chosen_from c.args.wanted.inside.now Left ids in
    let turn = YieldsList-turn (the_chosen (goal.at.image_marks-image-requires c).After-into_iter-id-iterator)
    at-loop.yielded _ at-loop.yielded_by _ _ c.in-Some.id c.in-Some.is c.next.ensures.steps in
    step_below (count facets.edges.bytes.now) facets.rows.count chosen (length at-loop.yielded) c.in-Some.id
    (chosen_below c.args.wanted.inside.now (count facets.edges.bytes.now) facets.rows.count Left ids c.requires)
    turn

pub loop-id-preserved : goal.loop-id-preserved
unfolding id_words flat_map
loop-id-preserved c =
    let at-loop = c.loop-id in
    let numbers = c.args.self.numbers.now in
    let image = ap (λ (marks : List Bool). facet_words marks numbers) c.image_marks-image.ensures in
    let words = id_words c.args.self.facets.edges.bytes.now c.args.self.facets.rows.bytes.now numbers in (
      tt,
      tt,
      writes_as (writes_then at-loop.invariant.2 (writes_as c.write_facet.ensures image))
          (flat_map_more words [] at-loop.yielded c.in-Some.id),
    )

pub returns : goal.returns
returns c =
    let at-loop = c.loop-id in
    let words = id_words c.args.self.facets.edges.bytes.now c.args.self.facets.rows.bytes.now c.args.self.numbers.now in
    let end = YieldsList-end (the_chosen (goal.at.returns c).After-into_iter-id-iterator) at-loop.yielded _
    at-loop.yielded_by _ _ c.in-None.is c.next.ensures.steps in
    writes_as at-loop.invariant.2 (ap (flat_map words) (sym (map-id at-loop.yielded) ∙ end.0))
