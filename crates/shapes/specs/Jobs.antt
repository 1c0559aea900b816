-- What a job guarantees of its outermost call: two points at least, and rows that are permutations with the identity
-- first. So every figure of an accepted job's answer has its shape. Leans on Calls.
use Rattle.std.specs.Prelude.{◌≡◌, List, [], ◌∷◌, ℕ, ◌≤◌, T, leb, length, get_or}
use Rattle.std.proofs.Common.{sym, ap, ◌∙◌, subst, arith, leb→le}
use Rattle.std.proofs.lemmas.List.{length-map}
use Rattle.definitions.specs.Lists.{count_from, compare_nats, sort_nats, all_of}
use Rattle.definitions.specs.Outcome.{Outcome, and_then}
use Rattle.definitions.specs.Orbits.{Row}
use Rattle.definitions.specs.Recursion.{Answer}
use Rattle.definitions.specs.Job.{Bytes, Job, read_job, vectors_at, between, same_nats, is_permutation, header_tests}
use Rattle.definitions.specs.Job.{value_tests, job_tests, workspace_tests, tests, call_of, bounds1, outcome}
use Rattle.definitions.specs.Job.{outcome_within, fitting, answer_bytes}
use Rattle.definitions.specs.Demands.{Accepted}
use Rattle.laws.specs.Bools.{first}
use Rattle.laws.specs.Lists.{all_of_holds, count_length}
use Rattle.laws.specs.Refusals.{AllPassed, passes_at, passed, front_passed, answered_passed}
use Rattle.laws.specs.Orders.{nat_lists}
use Rattle.laws.specs.Ascending.{tested_equal}
use Rattle.shapes.specs.Sets.{Rows}
use Rattle.shapes.specs.Calls.{Given}

-- what refusals 5, 6, 10 and 11 leave
pub record RowsPassed (job : Job) : Type 0 where
  pub enough : T (between 2 20 job.n)
  pub some_row : T (between 1 120 job.row_count)
  pub first_row : T (same_nats (get_or job.rows 0 []) (count_from 0 job.n))
  pub permutations : T (all_of (is_permutation job.n) job.rows)

pub rows_passed : (bytes : Bytes) → AllPassed (job_tests bytes) → RowsPassed (read_job bytes)
unfolding passes_at job_tests header_tests value_tests
rows_passed bytes h = record {
  enough = passed 5 (job_tests bytes) h;
  some_row = passed 6 (job_tests bytes) h;
  first_row = passed 10 (job_tests bytes) h;
  permutations = passed 11 (job_tests bytes) h;
}

-- the numbers of points and rows are those that the job states
pub points_length : (bytes : Bytes) → length (read_job bytes).points ≡ (read_job bytes).n
unfolding read_job vectors_at
points_length bytes = length-map (count_from 0 _) _ ∙ count_length 0 _

pub rows_length : (bytes : Bytes) → length (read_job bytes).rows ≡ (read_job bytes).row_count
unfolding read_job
rows_length bytes = length-map (count_from 0 _) _ ∙ count_length 0 _

good_rows : (n : ℕ) (rows : List Row) → 1 ≤ length rows → T (same_nats (get_or rows 0 []) (count_from 0 n))
    → T (all_of (is_permutation n) rows) → Rows n rows
unfolding same_nats is_permutation
good_rows n [] some one all = absurd (omega arith)
good_rows n (row ∷ rows) some one all = record {
  others = rows;
  identity = ap (λ (r : Row). r ∷ rows) (tested_equal compare_nats nat_lists row (count_from 0 n) one);
  permute =
      λ r m. record {
        sorted = tested_equal compare_nats nat_lists (sort_nats r) (count_from 0 n)
            (all_of_holds (is_permutation n) (row ∷ rows) all r m);
      };
}

pub job_given : (bytes : Bytes) → RowsPassed (read_job bytes) → Given (read_job bytes).points (read_job bytes).rows
unfolding between
job_given bytes h =
    let job = read_job bytes in
    let n = points_length bytes in
    let r = rows_length bytes in
    let two = leb→le 2 job.n (first (leb 2 job.n) (leb job.n 20) h.enough) in
    let one = leb→le 1 job.row_count (first (leb 1 job.row_count) (leb job.row_count 120) h.some_row) in
    record {
      two = omega arith;
      rows_good =
          subst (λ (k : ℕ). Rows k job.rows) (sym n)
          (good_rows job.n job.rows (omega arith) h.first_row h.permutations);
    }

-- what an accepted job passed
pub accepted_passed : (bytes : Bytes) → Accepted bytes → AllPassed (job_tests bytes)
unfolding outcome outcome_within tests
accepted_passed bytes accepted =
    let job = read_job bytes in
    let next : Unit {0} → Outcome Bytes =
    λ u. and_then (call_of bounds1 job) (λ (a : Answer). fitting accepted.room (answer_bytes job.budget a)) in
    front_passed (job_tests bytes) (workspace_tests bytes accepted.workspace)
    (answered_passed (tests bytes accepted.workspace) next accepted.answer accepted.is_answered_holds).0

pub accepted_rows : (bytes : Bytes) → Accepted bytes → RowsPassed (read_job bytes)
accepted_rows bytes accepted = rows_passed bytes (accepted_passed bytes accepted)
