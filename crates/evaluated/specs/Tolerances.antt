-- What the tolerance of a job decides: which points make a plane [4.3], which lie on it [5.6] and which edges keep
-- the limits [5.3], in the outermost call and in the inner ones. What is expected are answers of known jobs.
use Rattle.std.specs.Prelude.{◌≡◌, refl, false, List, [], ◌∷◌, ◌++◌, ℕ, T}
use Rattle.std.specs.Float.{binary64}
use Rattle.std.specs.Float.Ieee.{round}
use Rattle.definitions.specs.Lists.{all_of}
use Rattle.definitions.specs.Job.{Bytes, tolerance1, least_tolerance, greatest_tolerance}
use Rattle.definitions.specs.Open.{open_all}
use Rattle.definitions.specs.Examples.{Terms, Case, open_examples, passes, answers, bytes_of, whole, half, thousandth}
use Rattle.definitions.specs.Examples.{four_e_8, one_e_7, one_e_9, five_e_4, within_tolerance, job_with, identity}
use Rattle.definitions.specs.Examples.{symmetric_job}
use Rattle.definitions.specs.KnownJobs.{symmetric_square_answer, symmetric_square_max05_answer, corner_answer}
use Rattle.definitions.specs.KnownJobs.{crowded_line_answer, flat_triangle_answer}

-- ---- the three tolerances that have names are the doubles nearest to 0.0000001, 0.000000001 and 0.001

pub tolerance_is_nearest : tolerance1 ≡ round binary64 false 1 10000000
unfolding open_all
tolerance_is_nearest = refl

pub least_is_nearest : least_tolerance ≡ round binary64 false 1 1000000000
unfolding open_all
least_is_nearest = refl

pub greatest_is_nearest : greatest_tolerance ≡ round binary64 false 1 1000
unfolding open_all
greatest_is_nearest = refl

-- ---- jobs

-- three points of the plane
unfoldable pub three_within : ℕ → List (List ℕ) → Bytes
three_within tolerance points = job_with (within_tolerance 3 tolerance) 2 points (identity 3)

-- (0,0), (1,0), (0.5, y)
unfoldable pub near_line : ℕ → List (List ℕ)
near_line y = (0 ∷ 0 ∷ []) ∷ (whole 1 ∷ 0 ∷ []) ∷ (half ∷ y ∷ []) ∷ []

-- the square's sides are shorter than 1.0005, and its diagonals longer than 1.4135
unfoldable pub between_limits : ℕ → Terms
between_limits tolerance = record {
  version = 2;
  rank = 3;
  flags = 3;
  present = bytes_of 8 0x3ff0020c49ba5e35 ++ bytes_of 8 0x3ff69db22d0e5604 ++ bytes_of 8 tolerance;
  budget = 1000000;
}

unfoldable pub with_tolerances : List Case
with_tolerances =
    -- a point off a line, or on it
    answers 524288 (three_within one_e_9 (near_line four_e_8)) flat_triangle_answer
    ∷ answers 524288 (three_within one_e_7 (near_line four_e_8)) crowded_line_answer
    ∷ answers 524288 (three_within one_e_7 (near_line five_e_4)) flat_triangle_answer
    ∷ answers 524288 (three_within thousandth (near_line five_e_4)) crowded_line_answer
    -- (0,0), (0.0005, 0), (0,1): the first two are too near to make a line
    ∷ answers 524288
    (three_within thousandth ((0 ∷ 0 ∷ []) ∷ (five_e_4 ∷ 0 ∷ []) ∷ (0 ∷ whole 1 ∷ []) ∷ [])) crowded_line_answer
    -- lengths that break both limits, and are within the tolerance of them
    ∷ answers 524288 (symmetric_job (between_limits one_e_7)) symmetric_square_max05_answer
    ∷ answers 524288 (symmetric_job (between_limits thousandth)) symmetric_square_answer
    -- (0,0,0), (1,0,0), (0.5, 0.00000004, 0), (0,0,1): a face of this tetrahedron is nearly a line
    ∷ answers 4194304 (job_with (within_tolerance 4 one_e_9) 3 ((0 ∷ 0 ∷ 0 ∷ []) ∷ (whole 1 ∷ 0 ∷ 0 ∷ [])
    ∷ (half ∷ four_e_8 ∷ 0 ∷ []) ∷ (0 ∷ 0 ∷ whole 1 ∷ []) ∷ []) (identity 4)) corner_answer
    ∷ []

pub tolerance_decides : T (all_of passes with_tolerances)
unfolding open_all open_examples three_within near_line between_limits with_tolerances symmetric_square_answer
    symmetric_square_max05_answer corner_answer crowded_line_answer flat_triangle_answer
tolerance_decides = tt
