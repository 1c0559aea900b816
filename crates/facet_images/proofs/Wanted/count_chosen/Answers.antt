-- `Wanted::count_chosen` meets its contract.
use Rattle.std.proofs.Common.{ap, arith, length, inl}
use Rattle.std.proofs.lemmas.Iterator.Consumers.{YieldsList-from_first, count_from_yields_List}
use Rattle.words.specs.Words.{words, words_length}
use Rattle.facet_images.specs.declared.Choice.TheVariants.{Left}
use Rattle.facet_images.specs.Images.{chosen_from}
use Rattle.facet_images.specs.Chosen.{chosen_left, chosen_no_more}
use Rattle.facet_images.proofs.Wanted.count_chosen.Goals as goal

pub count-requires-clause-fits : goal.count-requires-clause-fits
count-requires-clause-fits c =
    let n = words_length 4 c.args.self.ids.bytes.now c.args.self.ids.count in
    inl (omega (
      arith,
      ap length c.chosen.ensures,
      n,
      chosen_no_more c.args.self.inside.now Left (words 4 c.args.self.ids.bytes.now c.args.self.ids.count),
    ))

pub returns : goal.returns
returns c =
    let inside = c.args.self.inside.now in
    let ids = words 4 c.args.self.ids.bytes.now c.args.self.ids.count in
    let n = words_length 4 c.args.self.ids.bytes.now c.args.self.ids.count in
    let e = count_from_yields_List c.chosen.result c.count.result c.count.ensures.ran
    (YieldsList-from_first (λ x. x) chosen_left (chosen_from inside Left ids) c.chosen.ensures) in
    (e, omega (arith, e, n, chosen_no_more inside Left ids))
