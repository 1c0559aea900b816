-- Theorems on the definitions of specs/JobWords.
use Rattle.std.specs.Prelude.{◌≡◌, [], ℕ, zero, suc, ◌-◌, ◌≤◌, ◌<◌, T, leb}
use Rattle.std.proofs.Common.{arith, leb→le}
use Rattle.definitions.specs.Outcome.{answered}
use Rattle.definitions.specs.Recursion.{Answer}
use Rattle.definitions.specs.Job.{Bytes, read_job, between, bounds1, rules_of, plane_of, call_of, answer_words}
use Rattle.definitions.specs.Demands.{Accepted}
use Rattle.definitions.specs.Noble.{Package}
use Rattle.definitions.specs.NobleCalls.{noble_way, noble_call_of}
use Rattle.laws.specs.Bools.{second}
use Rattle.laws.specs.Refusals.{passed}
use Rattle.shapes.specs.Jobs.{RowsPassed, accepted_passed, points_length, rows_length, job_given, accepted_rows}
use Rattle.shapes.specs.FewElements.{most_elements}
use Rattle.shapes.specs.FigureNumbers.{WordsBelow}
use Rattle.shapes.specs.Answered.{noble_takes}
use Rattle.shapes.proofs.AnswerWords.{words_below, words_below_with}
use Rattle.shapes.specs.JobWords.{AreBytes, budget_below, rank_passed, u32s}

-- ---- the ranks of jobs

-- the figures of calls of these ranks, on 20 points, with 120 rows and 1,024 possible facets
fewest : (k : ℕ) → k ≤ 2 → most_elements 20 120 1024 k < u32s
unfolding most_elements
fewest zero h = omega arith
fewest (suc zero) h = omega arith
fewest (suc (suc zero)) h = omega arith
fewest (suc (suc (suc k))) h = absurd (omega arith)

-- ---- a job's answer

-- whatever number below 2^32 the examined lists are counted from
pub job_words : (bytes : Bytes) → RowsPassed (read_job bytes) → T (between 2 4 (read_job bytes).rank) → (a : Answer)
    → call_of bounds1 (read_job bytes) ≡ answered a → (spent : ℕ) → spent < u32s
    → WordsBelow u32s (answer_words spent a)
unfolding between call_of bounds1 rules_of
job_words bytes passed ranked a e =
    let job = read_job bytes in
    let n = points_length bytes in
    let r = rows_length bytes in
    let few = leb→le job.n 20 (second (leb 2 job.n) (leb job.n 20) passed.enough) in
    let fewer = leb→le job.row_count 120 (second (leb 1 job.row_count) (leb job.row_count 120) passed.some_row) in
    let rank = leb→le job.rank 4 (second (leb 2 job.rank) (leb job.rank 4) ranked) in
    words_below u32s 20 120 1024 (rules_of bounds1 job) (omega arith) (job.rank - 2)
    (plane_of job) job.points job.rows job.budget a (job_given bytes passed) (omega arith) (omega arith) e
    (record {
      ranks = omega arith;
      few_points = omega arith;
      few_rows = omega arith;
      orbits = omega arith;
      facets = omega arith;
      entries = omega arith;
    })
    (λ k h. fewest k (omega arith))

-- with a package too
pub noble_words : (bytes : Bytes) (pack : Package) → RowsPassed (read_job bytes)
    → T (between 2 4 (read_job bytes).rank) → (a : Answer) → noble_call_of bounds1 (read_job bytes) pack ≡ answered a
    → (spent : ℕ) → spent < u32s
    → WordsBelow u32s (answer_words spent a)
unfolding between noble_call_of bounds1 rules_of
noble_words bytes pack passed ranked a e =
    let job = read_job bytes in
    let n = points_length bytes in
    let r = rows_length bytes in
    let few = leb→le job.n 20 (second (leb 2 job.n) (leb job.n 20) passed.enough) in
    let fewer = leb→le job.row_count 120 (second (leb 1 job.row_count) (leb job.row_count 120) passed.some_row) in
    let rank = leb→le job.rank 4 (second (leb 2 job.rank) (leb job.rank 4) ranked) in
    words_below_with u32s 20 120 1024 (rules_of bounds1 job) (omega arith) (noble_way pack) (noble_takes pack)
    (job.rank - 2) (plane_of job) job.points job.rows job.budget a (job_given bytes passed) (omega arith)
    (omega arith) e
    (record {
      ranks = omega arith;
      few_points = omega arith;
      few_rows = omega arith;
      orbits = omega arith;
      facets = omega arith;
      entries = omega arith;
    })
    (λ k h. fewest k (omega arith))

-- of every accepted job
pub accepted_words : (bytes : Bytes) → AreBytes bytes → Accepted bytes → (a : Answer)
    → call_of bounds1 (read_job bytes) ≡ answered a → WordsBelow u32s (answer_words (read_job bytes).budget a)
accepted_words bytes are accepted a e =
    job_words bytes (accepted_rows bytes accepted) (rank_passed bytes (accepted_passed bytes accepted)) a e
    (read_job bytes).budget (budget_below bytes are)
