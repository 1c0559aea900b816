-- What a caller learns from the answer of the check: the definition's outcome where the job is refused, and where it
-- passes that the fields can be loaded, that every row is a permutation
-- and that the workspace is long enough. A passed test is found by its number (`passed` in laws/Refusals). Leans on
-- Refusal.
use Rattle.std.specs.Prelude.{◌≡◌, refl, ◌&&◌, List, [], ◌∷◌, ℕ, ◌-◌, ◌≤◌, T, leb, eqb, length, take}
use Rattle.std.proofs.Common.{ap, ◌∙◌, eqb→eq}
use Rattle.std.specs.Prelude.{Option, Some, None}
use Rattle.std.proofs.Math.Dec.{leb→le}
use Rattle.definitions.specs.Lists.{all_of}
use Rattle.definitions.specs.Outcome.{refused, answered, and_then}
use Rattle.definitions.specs.Recursion.{Bounds, Answer}
use Rattle.definitions.specs.Job.{Bytes, read_job, between, same_nats, is_permutation, workspace_for, Test}
use Rattle.definitions.specs.Job.{header_tests, value_tests, job_tests, workspace_tests, tests, call_of, fitting}
use Rattle.definitions.specs.Job.{answer_bytes, outcome_within}
use Rattle.laws.specs.Bools.{first, second}
use Rattle.laws.specs.Refusals.{first_refused, pass_all_refused, pass_all_passed, AllPassed, passes_at, passed}
use Rattle.laws.specs.Refusals.{none_refused, front_passed}
use Rattle.load.specs.declared.Fields.{Fields}
use Rattle.load.specs.Places.{header_of, Exact, size_is}
use Rattle.load.specs.Meaning.{fields_of}
use Rattle.job.specs.Refusal.{checked_as, checked_by, checked_of}

-- ---- the answer's cases

pub refused_as : (bytes : Bytes) (o : Option ℕ) (number : ℕ) → refused number ≡ checked_as bytes o → o ≡ Some number
unfolding checked_as
refused_as bytes None number e = cc
refused_as bytes (Some k) number e = cc

pub refused_means : (bytes : Bytes) (workspace number : ℕ) → refused number ≡ checked_of bytes workspace
    → first_refused (tests bytes workspace) ≡ Some number
unfolding checked_of checked_by
refused_means bytes workspace number e = refused_as bytes (first_refused (tests bytes workspace)) number e

pub passed_as : (bytes : Bytes) (o : Option ℕ) (f : Fields) → answered f ≡ checked_as bytes o → (o ≡ None)
    × (f ≡ fields_of bytes)
unfolding checked_as
passed_as bytes None f e = (refl, cc)
passed_as bytes (Some k) f e = (cc, cc)

-- where a list of tests refuses nothing, none of it fails, and the fields are the job's
pub checked_passed : (ts : List Test) (bytes : Bytes) (f : Fields) → answered f ≡ checked_by ts bytes
    → (first_refused ts ≡ None) × (f ≡ fields_of bytes)
unfolding checked_by
checked_passed ts bytes f e = passed_as bytes (first_refused ts) f e

pub rank_loaded : (bytes : Bytes) (f : Fields) → f ≡ fields_of bytes → f.rank ≡ (read_job bytes).rank
unfolding fields_of read_job header_of
rank_loaded bytes f e = ap (λ (g : Fields). g.rank) e

pub passed_means : (bytes : Bytes) (workspace : ℕ) (f : Fields) → answered f ≡ checked_of bytes workspace
    → (first_refused (tests bytes workspace) ≡ None) × (f ≡ fields_of bytes)
unfolding checked_of checked_by
passed_means bytes workspace f e = passed_as bytes (first_refused (tests bytes workspace)) f e

-- ---- the outcome

module _ (bounds : Bounds) (bytes : Bytes) (workspace room : ℕ) where
  pub outcome_refused : (number : ℕ) → first_refused (tests bytes workspace) ≡ Some number
      → outcome_within bounds bytes workspace room ≡ refused number
  unfolding outcome_within
  outcome_refused number e = pass_all_refused (tests bytes workspace) _ number e

  pub outcome_passed : first_refused (tests bytes workspace) ≡ None
      → outcome_within bounds bytes workspace room
      ≡ and_then (call_of bounds (read_job bytes))
      (λ (a : Answer). fitting room (answer_bytes (read_job bytes).budget a))
  unfolding outcome_within
  outcome_passed e = pass_all_passed (tests bytes workspace) _ e

-- ---- all tests are passed

-- what the header's tests leave: the counts are within their ranges, and the fields can be loaded
pub header_passed : (bytes : Bytes) → AllPassed (header_tests bytes) → Exact bytes
unfolding passes_at header_tests between read_job header_of
header_passed bytes h =
    let job = read_job bytes in
    let marked : T (leb 11 (length bytes) && same_nats (take 3 bytes) (70 ∷ 67 ∷ 84 ∷ [])) =
    passed 1 (header_tests bytes) h in
    let rank : T (leb 2 job.rank && leb job.rank 4) = passed 3 (header_tests bytes) h in
    let d : T (leb (job.rank - 1) job.d && leb job.d 4) = passed 4 (header_tests bytes) h in
    let n : T (leb 2 job.n && leb job.n 20) = passed 5 (header_tests bytes) h in
    let count : T (leb 1 job.row_count && leb job.row_count 120) = passed 6 (header_tests bytes) h in
    let size : T (eqb (length bytes) job.size) = passed 8 (header_tests bytes) h in
    record {
      header_fits =
          leb→le 11 (length bytes)
          (first (leb 11 (length bytes)) (same_nats (take 3 bytes) (70 ∷ 67 ∷ 84 ∷ [])) marked);
      counted = record {
        rank_least = leb→le 2 job.rank (first (leb 2 job.rank) (leb job.rank 4) rank);
        rank_most = leb→le job.rank 4 (second (leb 2 job.rank) (leb job.rank 4) rank);
        d_least = leb→le (job.rank - 1) job.d (first (leb (job.rank - 1) job.d) (leb job.d 4) d);
        d_most = leb→le job.d 4 (second (leb (job.rank - 1) job.d) (leb job.d 4) d);
        n_least = leb→le 2 job.n (first (leb 2 job.n) (leb job.n 20) n);
        n_most = leb→le job.n 20 (second (leb 2 job.n) (leb job.n 20) n);
        count_least = leb→le 1 job.row_count (first (leb 1 job.row_count) (leb job.row_count 120) count);
        count_most = leb→le job.row_count 120 (second (leb 1 job.row_count) (leb job.row_count 120) count);
      };
      long = eqb→eq (length bytes) job.size size ∙ size_is bytes;
    }

module _ (bytes : Bytes) (workspace : ℕ) (none_fails : first_refused (tests bytes workspace) ≡ None) where
  -- the job's own tests
  pub own_passed : AllPassed (job_tests bytes)
  unfolding tests
  own_passed =
      front_passed (job_tests bytes) (workspace_tests bytes workspace) (none_refused (tests bytes workspace) none_fails)

  -- the fields can be loaded
  pub passed_exact : Exact bytes
  unfolding job_tests
  passed_exact = header_passed bytes (front_passed (header_tests bytes) (value_tests bytes) own_passed)

  -- each row is a permutation
  pub passed_rows : T (all_of (is_permutation (read_job bytes).n) (read_job bytes).rows)
  unfolding passes_at job_tests header_tests value_tests
  passed_rows = passed 11 (job_tests bytes) own_passed

  -- the workspace is long enough
  pub passed_workspace : workspace_for (read_job bytes).rank ≤ workspace
  unfolding passes_at tests job_tests header_tests value_tests workspace_tests
  passed_workspace =
      leb→le (workspace_for (read_job bytes).rank) workspace
      (passed 12 (tests bytes workspace) (none_refused (tests bytes workspace) none_fails))
