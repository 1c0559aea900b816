-- The length that a call gives back fits the return value: it is at most the buffer's. Leans on what is written of a
-- job, and on a row's records.
use Rattle.std.specs.Prelude.{◌≡◌, ℕ, ◌+◌, ◌-◌, ◌≤◌, ◌<◌, Option, Some, None, Result, Ok, Err, IfOk, IfSome, IsOkAnd}
use Rattle.std.specs.Prelude.{MatchResult, length, replicate}
use Rattle.std.proofs.Math.Path.{refl, ap}
use Rattle.std.proofs.Common.{◌∙◌, arith, length-append}
use Rattle.definitions.specs.Outcome.{Outcome, refused, answered}
use Rattle.definitions.specs.Job.{Bytes, code_of, buffer_of}
use Rattle.refusals.specs.declared.Refusal.{Refusal}
use Rattle.refusals.specs.Refused.{number_of, outcome_of}
use Rattle.answering.specs.Closed.{written_in}
use Rattle.answering.specs.Codes.{code_written, says_wrote}
use Rattle.batches.specs.Records.{recorded_as}

-- what is told has no length, or a short one
abbrev pub Short : Result (Option ℕ) Refusal → Type 0
Short r = IfOk r (λ some. IfSome some (λ many. many < 9223372036854775808))

pub written_fits : (r : Result (Option ℕ) Refusal) (room : ℕ) (o : Outcome Bytes) → outcome_of r ≡ written_in room o
    → room < 9223372036854775808 → Short r
written_fits (Ok (Some many)) room o e h = let short = (says_wrote room o many e).3 in omega (arith, short)
written_fits (Ok None) room o e h = tt
written_fits (Err x) room o e h = tt

-- the records of a row, told as what is written of a job
abbrev pub AsWritten : Result ℕ Refusal → Result (Option ℕ) Refusal → Type 0
AsWritten r w = MatchResult r (λ many. IsOkAnd w (λ some. some ≡ Some many)) (λ e. w ≡ Err e)

-- and so of the records of a row, which stand in the buffer
pub records_fit : (r : Result ℕ Refusal) (w : Result (Option ℕ) Refusal) → AsWritten r w
    → (room : ℕ) (o : Outcome Bytes) (buffer : Bytes) → outcome_of r ≡ recorded_as o → buffer ≡ buffer_of room o
    → length buffer ≡ room
    → room < 9223372036854775808 → Short w
unfolding recorded_as buffer_of
records_fit (Ok many) (Ok some) a room (answered bytes) buffer e b l h =
    let same : many ≡ length bytes = cc in
    let long : length buffer ≡ length bytes + length (replicate {A = ℕ} (room - length bytes) 0) = ap length b
    ∙ length-append bytes (replicate (room - length bytes) 0) in
    rw a (omega (arith, same, long, l))
records_fit (Ok many) (Ok some) a room (refused n) buffer e b l h = let no : ⊥ = cc in absurd no
records_fit (Ok many) (Err x) a room o buffer e b l h = absurd a
records_fit (Err x) w a room o buffer e b l h = rw a tt

-- the return value of a row
pub recorded_code : (r : Result ℕ Refusal) (w : Result (Option ℕ) Refusal) → AsWritten r w → (o : Outcome Bytes)
    → outcome_of r ≡ recorded_as o → code_written (outcome_of w) ≡ code_of o
unfolding code_written recorded_as code_of
recorded_code (Ok many) (Ok some) a (answered bytes) e = let same : many ≡ length bytes = cc in rw (a, same) refl
recorded_code (Ok many) (Ok some) a (refused n) e = let no : ⊥ = cc in absurd no
recorded_code (Ok many) (Err x) a o e = absurd a
recorded_code (Err x) w a (answered bytes) e = let no : ⊥ = cc in absurd no
recorded_code (Err x) w a (refused n) e = let same : number_of x ≡ n = cc in rw (a, same) refl
