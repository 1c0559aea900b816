-- Theorems on the definitions of specs/Symmetry.
use Rattle.std.specs.Prelude.{◌≡◌, List, [], ℕ, suc, ◌-◌, ◌≤◌, T, leb, length}
use Rattle.std.proofs.Common.{sym, ap, ◌∙◌, arith, leb→le}
use Rattle.definitions.specs.Outcome.{answered}
use Rattle.definitions.specs.Vectors.{Vec}
use Rattle.definitions.specs.Subspace.{Subspace}
use Rattle.definitions.specs.Orbits.{Row, image}
use Rattle.definitions.specs.Recursion.{Bounds, Rules, Answer}
use Rattle.definitions.specs.Faceting.{faceting, faceting_with}
use Rattle.definitions.specs.Noble.{Package}
use Rattle.definitions.specs.NobleCalls.{noble_way, noble_call_of}
use Rattle.definitions.specs.Job.{Bytes, read_job, between, bounds1, rules_of, plane_of, call_of}
use Rattle.definitions.specs.Demands.{Accepted}
use Rattle.definitions.specs.Symmetry.{composed, closed_rows, Carries, CarriedByAll, Symmetric}
use Rattle.laws.specs.Bools.{first}
use Rattle.laws.specs.Lists.{Mem}
use Rattle.laws.specs.Ranges.{Permutes}
use Rattle.shapes.specs.Calls.{Given}
use Rattle.shapes.specs.Jobs.{RowsPassed, job_given, accepted_rows}
use Rattle.shapes.specs.NestedRows.{Composing}
use Rattle.shapes.proofs.NestedRows.{answered_carry}
use Rattle.shapes.specs.Answered.{AnsweredCall, answered_with, answered_call, noble_takes}
use Rattle.shapes.specs.ClosedRows.{composed_at, composed_row, composed_onto}
use Rattle.shapes.specs.Symmetry.{carried_kept}

-- ---- the figures of a call

-- what is asked of rows that compose, from the test of closed rows
rows_compose : (n : ℕ) (rows : List Row) → ((row : Row) → Mem row rows → Permutes n row) → T (closed_rows rows)
    → Composing n rows
rows_compose n rows permute closed = record {
  after =
      λ r q i j. (
        composed r q,
        composed_row n rows permute closed r q i j,
        λ v below.
            sym (composed_at n r q (permute q j) v below),
      );
  onto = λ r s i j.
      let found = composed_onto n rows permute closed r s i j in (
        found.0,
        found.1,
        λ v below. ap (λ (row : Row). image row v) found.2
            ∙ sym (composed_at n r found.0 (permute found.0 found.1) v below),
      );
}

-- ---- every call

-- answered, with a package or without
pub answered_carried : (more : ℕ) (rules : Rules) (plane : Subspace) (points : List Vec) (rows : List Row)
    (a : Answer) → Given points rows → T (closed_rows rows)
    → AnsweredCall more rules plane points rows a → CarriedByAll rows a.entries
unfolding Carries
answered_carried more rules plane points rows a given closed c =
    let each = answered_carry more rules plane points rows a given
    (rows_compose (length points) rows given.rows_good.permute closed) c in
    record { figures = each; ranks = λ e m row i. carried_kept row e.figure (each e m row i) }

pub call_carried : (more : ℕ) (rules : Rules) (plane : Subspace) (points : List Vec) (rows : List Row) (budget : ℕ)
    (a : Answer) → Given points rows → T (closed_rows rows)
    → faceting (suc more) rules plane points rows budget ≡ answered a → CarriedByAll rows a.entries
call_carried more rules plane points rows budget a given closed is =
    answered_carried more rules plane points rows a given closed
    (answered_call more rules plane points rows budget a is)

-- ---- every job

-- of any rank from 3, whatever the bounds
pub job_carried : (bounds : Bounds) (bytes : Bytes) → RowsPassed (read_job bytes) → 3 ≤ (read_job bytes).rank
    → T (closed_rows (read_job bytes).rows) → (a : Answer)
    → call_of bounds (read_job bytes) ≡ answered a → CarriedByAll (read_job bytes).rows a.entries
unfolding call_of
job_carried bounds bytes passed least closed a is =
    let job = read_job bytes in
    let rules = rules_of bounds job in
    let k : job.rank - 2 ≡ suc (job.rank - 3) = omega arith in
    call_carried (job.rank - 3) rules (plane_of job) job.points job.rows job.budget a (job_given bytes passed) closed
    (sym (ap (λ (n : ℕ). faceting n rules (plane_of job) job.points job.rows job.budget) k) ∙ is)

pub job_symmetric : (bounds : Bounds) (bytes : Bytes) → RowsPassed (read_job bytes) → (a : Answer)
    → call_of bounds (read_job bytes) ≡ answered a → Symmetric bytes a.entries
unfolding between
job_symmetric bounds bytes passed a is = record {
  holds = λ rank closed.
      let job = read_job bytes in
      job_carried bounds bytes passed (leb→le 3 job.rank (first (leb 3 job.rank) (leb job.rank 4) rank)) closed a is;
}

-- and with a package
noble_carried : (bounds : Bounds) (bytes : Bytes) (pack : Package) → RowsPassed (read_job bytes)
    → 3 ≤ (read_job bytes).rank → T (closed_rows (read_job bytes).rows) → (a : Answer)
    → noble_call_of bounds (read_job bytes) pack ≡ answered a → CarriedByAll (read_job bytes).rows a.entries
unfolding noble_call_of
noble_carried bounds bytes pack passed least closed a is =
    let job = read_job bytes in
    let rules = rules_of bounds job in
    let k : job.rank - 2 ≡ suc (job.rank - 3) = omega arith in
    answered_carried (job.rank - 3) rules (plane_of job) job.points job.rows a (job_given bytes passed) closed
    (answered_with (noble_way pack) (noble_takes pack) (job.rank - 3) rules
    (plane_of job) job.points job.rows job.budget a
    (sym (ap (λ (n : ℕ). faceting_with (noble_way pack) n rules (plane_of job) job.points job.rows job.budget) k) ∙ is))

pub noble_symmetric : (bounds : Bounds) (bytes : Bytes) (pack : Package) → RowsPassed (read_job bytes) → (a : Answer)
    → noble_call_of bounds (read_job bytes) pack ≡ answered a → Symmetric bytes a.entries
unfolding between
noble_symmetric bounds bytes pack passed a is = record {
  holds = λ rank closed.
      let job = read_job bytes in
      noble_carried bounds bytes pack passed
      (leb→le 3 job.rank (first (leb 3 job.rank) (leb job.rank 4) rank)) closed a is;
}

pub accepted_symmetric : (bytes : Bytes) → Accepted bytes → (a : Answer)
    → call_of bounds1 (read_job bytes) ≡ answered a → Symmetric bytes a.entries
accepted_symmetric bytes accepted = job_symmetric bounds1 bytes (accepted_rows bytes accepted)
