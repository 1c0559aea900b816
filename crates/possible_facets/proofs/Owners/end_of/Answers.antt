-- `Owners::end_of` meets its contract.
use Rattle.std.proofs.Common.{◌≡◌, get_or, rules, tests}
use Rattle.std.proofs.lemmas.Iterator.{first_from_Range}
use Rattle.words.specs.Words.{words, words_length}
use Rattle.possible_facets.proofs.Stretches.{first_other}
use Rattle.possible_facets.proofs.Owners.end_of.Goals as goal

pub returns : goal.returns
returns c =
    let all = words 2 c.args.self.bytes.now c.args.self.facets in
    let first = first_other c.args.orbit all c.args.x c.args.self.facets c.requires
    (words_length 2 c.args.self.bytes.now c.args.self.facets) c.find.result
    (first_from_Range _ _ _ _ (λ i. get_or all i 0 ≡ c.args.orbit → ⊥)
    (λ i. get_or all i 0 ≡ c.args.orbit) c.find.ensures.ran
    (λ x q k. search (rules, tests)) (λ x q k. search (rules, tests))) in
    rw c.unwrap_or.ensures first
