-- A row of jobs and its records: docs/SPECIFICATION.md, chapter 15. Leans on Job.
use Rattle.std.specs.Prelude.{◌≡◌, true, false, ℕ, zero, suc, ◌+◌, ◌-◌, ◌≤◌, ◌<◌, ◌/◌, ◌%◌, leb, ltb, eqb, length, take}
use Rattle.std.specs.Prelude.{drop}
use mathlib.Core.List.{List, [], ◌∷◌, ◌++◌, Forall₂, flat_map}
use Rattle.definitions.specs.Outcome.{Outcome, refused, answered, and_then, refuse_if}
use Rattle.definitions.specs.Job.{Bytes, number_at, word_bytes, alone, outcome}

-- ---- the row

-- [15.1] The jobs of a row, each behind its length, or 26. The first number bounds the steps; where there are no
-- more, nothing may be left.
unfoldable pub cut_row : ℕ → Bytes → Outcome (List Bytes)
cut_row zero row = refuse_if (ltb 0 (length row)) 26 (λ u. answered [])
cut_row (suc steps) row = elim (eqb 0 (length row)) [
  | true ↦ answered []
  | false ↦ refuse_if (ltb (length row) 4) 26 (λ u.
      let many = number_at row 0 4 in
      refuse_if (ltb (length row - 4) many) 26 (λ v.
      and_then (cut_row steps (drop (4 + many) row))
      (λ (others : List Bytes). answered (take many (drop 4 row) ∷ others))))
]

-- [15.1] a step for each byte is more than enough
unfoldable pub jobs_in : Bytes → Outcome (List Bytes)
jobs_in row = cut_row (length row) row

-- ---- the records

-- [15.2] a u16, the lowest byte first
unfoldable pub half_bytes : ℕ → Bytes
half_bytes n = n % 256 ∷ n / 256 % 256 ∷ []

-- [15.2] length, refusal number, answer
unfoldable pub record_bytes : Outcome Bytes → Bytes
record_bytes (refused number) = word_bytes 0 ++ half_bytes number
record_bytes (answered bytes) = word_bytes (length bytes) ++ (half_bytes 0 ++ bytes)

-- [15.2] the record of what a job gets by itself, or 27 where the answer's length is no u32
unfoldable pub record_of : Outcome Bytes → Outcome Bytes
record_of (refused number) = answered (record_bytes (refused number))
record_of (answered bytes) =
    refuse_if (leb 4294967296 (length bytes)) 27 (λ u. answered (record_bytes (answered bytes)))

-- [15.2] the records of jobs, one behind the other
unfoldable pub records_of : ℕ → List Bytes → Outcome Bytes
records_of workspace [] = answered []
records_of workspace (job ∷ jobs) =
    and_then (record_of (alone job workspace)) (λ (first : Bytes).
    and_then (records_of workspace jobs) (λ (others : Bytes). answered (first ++ others)))

-- ---- from bytes to bytes

-- [15.3] the records, where there is room for all of them, or 27
unfoldable pub fitting_all : ℕ → Bytes → Outcome Bytes
fitting_all room bytes = refuse_if (ltb room (length bytes)) 27 (λ u. answered bytes)

-- [15.3] The records' bytes, or the refusal, for a row with so many bytes of workspace and room for so many bytes of
-- records.
unfoldable pub batch : Bytes → ℕ → ℕ → Outcome Bytes
batch row workspace room =
    and_then (jobs_in row) (λ (jobs : List Bytes). and_then (records_of workspace jobs) (fitting_all room))

-- ---- what is promised

-- [15.4] What the first call gives the job, however long the answer buffer is, as long as there is room for an
-- answer.
unfoldable pub ByItself : ℕ → Bytes → Outcome Bytes → Type 0
ByItself workspace job (refused number) = (room : ℕ) → outcome job workspace room ≡ refused number
ByItself workspace job (answered bytes) =
    (length bytes < 4294967296) × ((room : ℕ) → length bytes ≤ room → outcome job workspace room ≡ answered bytes)

-- [15.4] These bytes are the records of the row's jobs, in order: the record of each is of a result that stands so to
-- the job.
pub record Batched (Answers : Bytes → Outcome Bytes → Type 0) (row written : Bytes) : Type 0 where
  pub jobs : List Bytes
  pub results : List (Outcome Bytes)
  pub cut : jobs_in row ≡ answered jobs
  pub each : Forall₂ Answers jobs results
  pub records : written ≡ flat_map record_bytes results
