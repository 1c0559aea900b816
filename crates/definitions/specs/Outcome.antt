-- Outcomes: docs/SPECIFICATION.md, chapter 2. Leans on the library alone.
use Rattle.std.specs.Prelude.{Bool, true, false, ℕ}

-- [2.6] an answer or one refusal number
pub data Outcome (A : Type 0) : Type 0 where
  refused : ℕ → Outcome A
  answered : A → Outcome A

-- [2.6] the next step, where there was no refusal
unfoldable pub and_then : {A B : Type 0} → Outcome A → (A → Outcome B) → Outcome B
and_then (refused number) next = refused number
and_then (answered a) next = next a

-- [2.6] refused with a number where the test holds, and else what follows, which is worked out only then
unfoldable pub refuse_if : {A : Type 0} → Bool → ℕ → (Unit {0} → Outcome A) → Outcome A
refuse_if true number next = refused number
refuse_if false number next = next tt
