-- What a job with a package gets by itself is never refused with 17: the job's tests have the numbers 1 to 12, 22 and
-- 25, the package's has 18, the call has 13 to 16. So 17 among its return codes is always an answer that has no room
-- (`code_short`). Leans on the numbers of refusals.
use Rattle.std.specs.Prelude.{◌≡◌, ℕ, T, not, eqb}
use Rattle.std.proofs.Common.{subst, arith}
use Rattle.definitions.specs.Lists.{all_of}
use Rattle.definitions.specs.Job.{Bytes, Test, header_tests, value_tests, job_tests, workspace_tests}
use Rattle.definitions.specs.NobleCalls.{noble_call_of, package_tests, noble_tests, noble_alone}
use Rattle.laws.specs.Lists.{Mem, all_of_holds}
use Rattle.completeness.specs.Refusals.{RefusedBy, by_answer, by_then, by_tests, wider, call_refusals_with}

other_numbers : (bytes pack : Bytes) (workspace : ℕ)
    → T (all_of (λ (t : Test). not (eqb t.number 17)) (noble_tests bytes pack workspace))
unfolding all_of noble_tests job_tests header_tests value_tests package_tests workspace_tests
other_numbers bytes pack workspace = tt

test_number : (bytes pack : Bytes) (workspace : ℕ) (t : Test) → Mem t (noble_tests bytes pack workspace)
    → t.number ≡ 17 → ⊥
test_number bytes pack workspace t i e =
    subst (λ (n : ℕ). T (not (eqb n 17))) e
    (all_of_holds (λ (s : Test). not (eqb s.number 17)) (noble_tests bytes pack workspace)
    (other_numbers bytes pack workspace) t i)

pub noble_never_17 : (job pack : Bytes) (workspace : ℕ)
    → RefusedBy (λ (n : ℕ). n ≡ 17 → ⊥) (noble_alone job pack workspace)
unfolding noble_alone noble_call_of
noble_never_17 job pack workspace =
    by_tests (noble_tests job pack workspace) _ (test_number job pack workspace)
    (by_then _ _ (wider _ _ (λ n h e. omega (arith, h.1)) (call_refusals_with _ _ _ _ _ _ _)) (λ a. by_answer))
