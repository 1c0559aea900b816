-- `labels::search_start` meets its contract. Assumes nothing.
use Rattle.std.proofs.Common.{◌≡◌, ◌∙◌, true, false, rules, tests}
use Rattle.std.proofs.lemmas.Iterator.{first_from_Range}
use Prim.Native.Nat.{compare}
use Rattle.definitions.specs.Figures.{first_above}
use Rattle.order.specs.Areas.{list_of, lists_of, lists_length}
use Rattle.labels.proofs.Labelling.{search_found}
use Rattle.labels.proofs.search_start.Goals as goal

pub returns : goal.returns
returns c =
    let area = c.args.lists.area in
    let s = c.args.lists.bytes.now in
    let x = list_of area s c.args.a in
    c.unwrap_or.ensures ∙ search_found x (lists_of area s) c.args.from area.count c.requires.1
    (lists_length area.most area.bytes area.count s) c.find.result
    (first_from_Range _ _ _ _ (λ b. false ≡ first_above compare x (list_of area s b))
    (λ b. true ≡ first_above compare x (list_of area s b)) c.find.ensures.ran
    (λ b q k. search (rules, tests)) (λ b q k. search (rules, tests)))
