-- Theorems on the definitions of specs/Indifferent.
use Rattle.std.specs.Prelude.{◌≡◌, refl, Bool, cond, List, ℕ, ◌-◌, T, Float}
use Rattle.std.proofs.Common.{ap}
use Rattle.std.specs.Float.Ieee.{le}
use Rattle.definitions.specs.Outcome.{Outcome, and_then}
use Rattle.definitions.specs.Vectors.{Vec, norm}
use Rattle.definitions.specs.Subspace.{Subspace}
use Rattle.definitions.specs.Orbits.{Row}
use Rattle.definitions.specs.Recursion.{Bounds, Rules, Answer}
use Rattle.definitions.specs.Faceting.{faceting}
use Rattle.definitions.specs.Job.{Bytes, Job, least_tolerance, read_job, job_tests, workspace_tests, tests, rules_of}
use Rattle.definitions.specs.Job.{plane_of, call_of, answer_bytes, fitting, outcome_within}
use Rattle.laws.specs.Refusals.{front_passed, pass_all_same}
use Rattle.bounds.specs.Calls.{outermost}
use Rattle.bounds.specs.AnyNorm.{faceting_by, call_by, outcome_by}
use Rattle.bounds.proofs.Covered.{call_same}
use Rattle.bounds.specs.Jobs.{Admitted, Whole, job_whole, passed_is_admitted, tolerance_high_enough}
use Rattle.bounds.proofs.Jobs.{job_asks_for_roots_that_exist}
use Rattle.bounds.specs.Indifferent.{KeepsRoots, norm_or}

-- `AnyNorm` with the norm itself is the definitions, at any arguments
pub any_norm_is_the_text : (more : ℕ) (rules : Rules) (plane : Subspace) (points : List Vec) (rows : List Row)
    (budget : ℕ)
    → faceting_by norm more rules plane points rows budget ≡ faceting more rules plane points rows budget
any_norm_is_the_text more rules plane points rows budget =
    call_same norm rules more plane points (record { at = λ c k. refl }) more outermost rows budget

-- For any rules with a tolerance from 1e-9 on, and any rank: a job's call does not depend on what a norm is where its
-- root has no value.
pub call_is_indifferent : (other : Vec → Float) → KeepsRoots other → (job : Job) → Whole job → Admitted 5 job
    → (rules : Rules) → T (le least_tolerance rules.tolerance) → (rows : List Row) (budget : ℕ)
    → faceting_by other (job.rank - 2) rules (plane_of job) job.points rows budget
    ≡ faceting (job.rank - 2) rules (plane_of job) job.points rows budget
call_is_indifferent other keeps job w h rules low rows budget =
    call_same other rules (job.rank - 2) (plane_of job) job.points
    (record { at = λ {v = v} c k. keeps v (job_asks_for_roots_that_exist job w h rules.tolerance low c k).root })
    (job.rank - 2) outermost rows budget

-- ---- from bytes to the outcome

-- for every job, refused or not
pub outcome_is_indifferent : (other : Vec → Float) → KeepsRoots other
    → (bounds : Bounds) (bytes : Bytes) (workspace room : ℕ)
    → outcome_by other bounds bytes workspace room ≡ outcome_within bounds bytes workspace room
unfolding outcome_by outcome_within call_by call_of rules_of tests
outcome_is_indifferent other keeps bounds bytes workspace room =
    let job = read_job bytes in
    let finished : Outcome Answer
    → Outcome Bytes = λ o. and_then o (λ (a : Answer). fitting room (answer_bytes job.budget a)) in
    pass_all_same (tests bytes workspace) (λ u. finished (call_by other bounds job))
    (λ u. finished (call_of bounds job)) (λ t.
    let own = front_passed (job_tests bytes) (workspace_tests bytes workspace) t in
    ap finished
    (call_is_indifferent other keeps job (job_whole bytes) (passed_is_admitted bytes own) (rules_of bounds job)
    (tolerance_high_enough bytes own) job.rows job.budget))

norm_or_keeps : (instead : Float) → KeepsRoots (norm_or instead)
unfolding norm_or
norm_or_keeps instead v h = ap (λ (b : Bool). cond b (norm v) instead) h

-- so the `nan` that the definition of the norm names for a root without a value is never met
pub nan_is_never_met : (instead : Float) (bounds : Bounds) (bytes : Bytes) (workspace room : ℕ)
    → outcome_by (norm_or instead) bounds bytes workspace room ≡ outcome_within bounds bytes workspace room
nan_is_never_met instead = outcome_is_indifferent (norm_or instead) (norm_or_keeps instead)
