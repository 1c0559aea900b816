-- Theorems on the definitions of specs/Jobs.
use Rattle.std.specs.Prelude.{◌≡◌, [], ℕ, ◌-◌}
use Rattle.std.proofs.Common.{subst}
use Rattle.definitions.specs.Outcome.{answered}
use Rattle.definitions.specs.Recursion.{Answer, Bounds}
use Rattle.definitions.specs.Job.{Bytes, read_job, rules_of, plane_of, call_of, bounds1}
use Rattle.definitions.specs.Demands.{Accepted}
use Rattle.shapes.specs.Calls.{ShapedAnswer}
use Rattle.shapes.proofs.Calls.{shaped_answer}
use Rattle.shapes.specs.Jobs.{RowsPassed, accepted_rows, job_given, points_length}

-- every figure of an accepted job's answer has its shape, whatever the bounds
pub job_shaped : (bounds : Bounds) (bytes : Bytes) → RowsPassed (read_job bytes) → (a : Answer)
    → call_of bounds (read_job bytes) ≡ answered a → ShapedAnswer (read_job bytes).n ((read_job bytes).rank - 2) a
unfolding call_of
job_shaped bounds bytes h a e =
    let job = read_job bytes in
    subst (λ (n : ℕ). ShapedAnswer n (job.rank - 2) a) (points_length bytes)
    (shaped_answer (job.rank - 2) (rules_of bounds job) (plane_of job) job.points job.rows job.budget a
    (job_given bytes h) e)

pub accepted_shaped : (bytes : Bytes) → Accepted bytes → (a : Answer) → call_of bounds1 (read_job bytes) ≡ answered a
    → ShapedAnswer (read_job bytes).n ((read_job bytes).rank - 2) a
accepted_shaped bytes accepted = job_shaped bounds1 bytes (accepted_rows bytes accepted)
