-- `Chosen::next` meets its contract: what is left from place i on begins with the image there if that is chosen, and
-- is else what is left behind it (`chosen_next`). Behind the last place nothing is left (`chosen_end`).
use Rattle.std.proofs.Common.{◌≡◌, ◌+◌, ◌∷◌, Bool, ℕ, List, cond, length, drop, ap, refl, sym, ◌∙◌, arith, rules}
use Rattle.words.specs.Words.{words, words_length}
use Rattle.facet_images.specs.Images.{is_chosen, chosen_from}
use Rattle.facet_images.specs.Chosen.{chosen_left}
use Rattle.facet_images.specs.declared.Chosen.{Chosen}
use Rattle.facet_images.proofs.Choosing.{chosen_next, chosen_end}
use Rattle.facet_images.proofs.ChosenIterator.next.Goals.{After-is_chosen}
use Rattle.facet_images.proofs.ChosenIterator.next.Goals as goal

pub loop-i-init : goal.loop-i-init
loop-i-init c = (refl, refl, refl)

pub get-id-requires : goal.get-id-requires
get-id-requires c = omega (arith, c.loop-i.invariant.0)

-- what is left at a turn is what is left from its place on
left_from : (old turn : Chosen) (i : ℕ) → turn.at ≡ i → chosen_left turn ≡ chosen_left old
    → chosen_left old ≡ chosen_from turn.wanted.inside.now turn.before
    (drop i (words 4 turn.wanted.ids.bytes.now turn.wanted.ids.count))
unfolding chosen_left
left_from old turn i e f =
    sym f ∙ ap (λ (at : ℕ). chosen_from turn.wanted.inside.now turn.before
    (drop at (words 4 turn.wanted.ids.bytes.now turn.wanted.ids.count))) e

-- it is by what comes of the image there
left_by : (c : After-is_chosen) →
    let later = chosen_left record {
      wanted = c.loop-i.self.wanted;
      at = c.loop-i.i + 1;
      before = c.next_choice-self.result;
    } in
    chosen_left c.args.self.now ≡ cond (is_chosen c.next_choice-self.result) (c.get-id.result ∷ later) later
unfolding chosen_left
left_by c =
    let wanted = c.loop-i.self.wanted in
    let ids = words 4 wanted.ids.bytes.now wanted.ids.count in
    let n = words_length 4 wanted.ids.bytes.now wanted.ids.count in
    left_from c.args.self.now c.loop-i.self c.loop-i.i c.loop-i.invariant.1 c.loop-i.invariant.2
    ∙ chosen_next wanted.inside.now ids c.loop-i.i c.get-id.result c.loop-i.self.before c.next_choice-self.result
    (omega (arith, c.loop-i.invariant.0)) c.get-id.ensures c.next_choice-self.ensures

by_test : {l : List ℕ} (m n : List ℕ) {b d : Bool} → l ≡ cond b m n → b ≡ d → l ≡ cond d m n
by_test m n e f = e ∙ ap (λ (b : Bool). cond b m n) f

pub returns-then-is_chosen-clause-steps : goal.returns-then-is_chosen-clause-steps
returns-then-is_chosen-clause-steps c =
    by_test _ _ (left_by (goal.at.returns-then-is_chosen-clause-steps c).After-is_chosen)
    (sym c.is_chosen.ensures ∙ c.if-is_chosen.true)

pub returns-then-is_chosen-clause-goes : goal.returns-then-is_chosen-clause-goes
returns-then-is_chosen-clause-goes c = let shorter = ap length (returns-then-is_chosen-clause-steps c) in search rules

pub loop-i-preserved : goal.loop-i-preserved
loop-i-preserved c = (
  c.loop-i.invariant.0,
  refl,
  sym (by_test _ _ (left_by (goal.at.loop-i-preserved c).After-is_chosen)
      (sym c.is_chosen.ensures ∙ c.if-is_chosen.false)),
)

pub returns-clause-steps : goal.returns-clause-steps
returns-clause-steps c =
    let wanted = c.loop-i.self.wanted in
    let n = words_length 4 wanted.ids.bytes.now wanted.ids.count in
    let none = left_from c.args.self.now c.loop-i.self c.loop-i.i c.loop-i.invariant.1 c.loop-i.invariant.2
    ∙ chosen_end wanted.inside.now (words 4 wanted.ids.bytes.now wanted.ids.count) c.loop-i.i c.loop-i.self.before
    (omega (arith, c.loop-i.invariant.0)) in
    (none, c.loop-i.invariant.2 ∙ none)
