-- Outcomes that are answers: what an answer says of the steps before it. Leans on the definition of an outcome.
use Rattle.std.specs.Prelude.{◌≡◌, refl, Bool, true, false, not, ℕ, T}
use Rattle.std.proofs.Common.{subst}
use Rattle.definitions.specs.Outcome.{Outcome, refused, answered, and_then, refuse_if}

is_answered : {A : Type 0} → Outcome A → Bool
is_answered (refused number) = false
is_answered (answered a) = true

pub refusal_is_no_answer : {A : Type 0} (number : ℕ) (a : A) → refused number ≡ answered a → ⊥
unfolding is_answered
refusal_is_no_answer {A} number a e = subst (λ (o : Outcome A). T (not (is_answered o))) e tt

-- a step that was answered was answered before
pub answered_before : {A B : Type 0} (x : Outcome A) (next : A → Outcome B) (b : B) → and_then x next ≡ answered b
    → (a : A) × (x ≡ answered a) × (next a ≡ answered b)
unfolding and_then
answered_before (refused number) next b e = absurd (refusal_is_no_answer number b e)
answered_before (answered a) next b e = (a, refl, e)

pub not_refused_if : {A : Type 0} (test : Bool) (number : ℕ) (next : Unit {0} → Outcome A) (a : A)
    → refuse_if test number next ≡ answered a → (test ≡ false) × (next tt ≡ answered a)
unfolding refuse_if
not_refused_if true number next a e = absurd (refusal_is_no_answer number a e)
not_refused_if false number next a e = (refl, e)
