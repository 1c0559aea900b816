-- Rows of jobs, evaluated: docs/SPECIFICATION.md, [15.5]. Leans on Batch and on the example jobs.
use Rattle.std.specs.Prelude.{Bool, false, ◌&&◌, [], ◌∷◌, ◌++◌, ℕ, ◌+◌, ◌-◌, T, eqb, length}
use Rattle.definitions.specs.Outcome.{Outcome, refused, answered}
use Rattle.definitions.specs.Job.{Bytes, word_bytes, same_nats, outcome}
use Rattle.definitions.specs.Batch.{half_bytes, batch}
use Rattle.definitions.specs.Open.{open_all}
use Rattle.definitions.specs.Examples.{open_examples, symmetric_job, plain}

unfoldable refuses : ℕ → Outcome Bytes → Bool
refuses n (refused number) = eqb n number
refuses n (answered bytes) = false

unfoldable gives : Bytes → Outcome Bytes → Bool
gives expected (refused number) = false
gives expected (answered bytes) = same_nats expected bytes

unfoldable bytes_in : Outcome Bytes → Bytes
bytes_in (refused number) = []
bytes_in (answered bytes) = bytes

unfoldable square : Bytes
square = symmetric_job (plain 3)

-- [15.1] a job behind its length
unfoldable pub behind_length : Bytes → Bytes
behind_length job = word_bytes (length job) ++ job

unfoldable accepted : Bytes → Bytes
accepted answer = word_bytes (length answer) ++ (half_bytes 0 ++ answer)

unfoldable refused_with : ℕ → Bytes
refused_with number = word_bytes 0 ++ half_bytes number

-- [15.5] the square with its symmetries, a job of no bytes, and the square again: a refused job does not hold up the
-- others
unfoldable pub row : Bytes
row =
    let square = behind_length (symmetric_job (plain 3)) in
    square ++ (behind_length [] ++ square)

unfoldable cases : Bool
cases =
    let answer = bytes_in (outcome square 524288 10000) in
    let most = length answer + 6 + 6 + length answer + 6 in
    gives [] (batch [] 0 0)
    && refuses 26 (batch (0 ∷ []) 524288 10000)
    && refuses 26 (batch (0 ∷ 0 ∷ 0 ∷ []) 524288 10000)
    && refuses 26 (batch (1 ∷ 0 ∷ 0 ∷ 0 ∷ []) 524288 10000)
    && refuses 26 (batch (255 ∷ 255 ∷ 255 ∷ 255 ∷ 7 ∷ []) 524288 10000)
    && refuses 26 (batch (behind_length square ++ (9 ∷ [])) 524288 10000)
    && gives (refused_with 1) (batch (behind_length []) 0 6)
    && refuses 27 (batch (behind_length []) 0 5)
    && gives (accepted answer ++ (refused_with 1 ++ accepted answer)) (batch row 524288 most)
    && refuses 27 (batch row 524288 (most - 1))
    && gives (refused_with 12 ++ (refused_with 1 ++ refused_with 12)) (batch row 524287 most)

rows : T cases
unfolding open_all open_examples refuses gives bytes_in square behind_length accepted refused_with row cases
rows = tt
