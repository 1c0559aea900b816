-- `FacetNames::write_item` meets its contract.
use mathlib.Core.List.{[], ◌∷◌}
use mathlib.Core.Path.{◌≡◌, ap, ◌∙◌}
use Prim.Native.Nat.{ℕ}
use native.Mathlib.Omega.{arith}
use lib.ListN.{get_or}
use Rattle.words.specs.Words.{words, words_length}
use Rattle.possible_facets.specs.Facets.{first_one_of, item_of, item_words}
use Rattle.words.specs.Wrote.{writes_then, writes_as}
use Rattle.entry_lists.proofs.ItemSteps.{first_le}
use Rattle.entry_lists.proofs.FacetNames.write_item.Goals as goal

-- two numbers, each as it is known
two : {a b d e : ℕ} → a ≡ b → d ≡ e → (a ∷ d ∷ []) ≡ (b ∷ e ∷ [])
two p q t = p t ∷ q t ∷ []

pub overflow_sub-x : goal.overflow_sub-x
overflow_sub-x c = let owners = words 2 c.args.self.owners.bytes.now c.args.self.owners.facets in
    let n = words_length 2 c.args.self.owners.bytes.now c.args.self.owners.facets in
    let f = ap (λ (o : ℕ). get_or c.args.self.firsts.now o 0) c.orbit-orbit.ensures.0
    ∙ c.args.self.first.at c.args.x (omega arith) in
    omega (arith, f, first_le owners c.args.x (omega arith))

pub returns : goal.returns
unfolding item_words item_of
returns c = let owners = words 2 c.args.self.owners.bytes.now c.args.self.owners.facets in
    let n = words_length 2 c.args.self.owners.bytes.now c.args.self.owners.facets in
    let g : c.orbit-orbit.result ≡ get_or owners c.args.x 0 = c.orbit-orbit.ensures.0 in
    let f : get_or c.args.self.firsts.now c.orbit-orbit.result 0 ≡ first_one_of owners (get_or owners c.args.x 0) =
    ap (λ (o : ℕ). get_or c.args.self.firsts.now o 0) g ∙ c.args.self.first.at c.args.x (omega arith) in
    writes_as (writes_then c.push.ensures.writes c.push-2.ensures.writes) (two g (omega (arith, f)))
