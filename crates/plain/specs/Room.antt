-- The plain entries of a job, before any room for them is asked, are never refused with 17: a job's tests have the
-- numbers 1 to 12, 22 and 25, its call has 13 to 16. So 17 among its return codes is always an answer that has no
-- room (`code_short`). Leans on the numbers of refusals.
use Rattle.std.specs.Prelude.{◌≡◌, ℕ, T}
use Rattle.std.proofs.Common.{subst, arith}
use Rattle.definitions.specs.Job.{Bytes, between, tests, call_of}
use Rattle.definitions.specs.Prices.{answer_of}
use Rattle.definitions.specs.Plain.{plain_alone}
use Rattle.completeness.specs.Refusals.{RefusedBy, is_test, is_version_test, by_answer, by_then, by_tests, wider}
use Rattle.completeness.specs.Refusals.{call_refusals, test_number}

pub plain_never_17 : (job : Bytes) (workspace : ℕ) → RefusedBy (λ (n : ℕ). n ≡ 17 → ⊥) (plain_alone job workspace)
unfolding plain_alone answer_of call_of is_test is_version_test between
plain_never_17 job workspace =
    by_then _ _
    (by_tests (tests job workspace) _ (λ t i e. subst (λ (n : ℕ). T (is_test n)) e (test_number job workspace t i))
    (wider _ _ (λ n h e. omega (arith, h.1)) (call_refusals _ _ _ _ _ _)))
    (λ a. by_answer)
