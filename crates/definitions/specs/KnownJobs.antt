-- Known jobs [14.2], evaluated from job bytes to the return code and all answer bytes. What is expected are the
-- Rust's answers, as numbers.
use Rattle.std.specs.Prelude.{false, ◌&&◌, List, [], ◌∷◌, ℕ, T, eqb}
use Rattle.std.specs.Float.{binary64}
use Rattle.std.specs.Float.Ieee.{round, to_bits}
use Rattle.definitions.specs.Lists.{all_of}
use Rattle.definitions.specs.Open.{open_all}
use Rattle.definitions.specs.Examples.{Case, open_examples, passes, answers, refused_with, plain, with_budget, with_max}
use Rattle.definitions.specs.Examples.{with_entry_limit, identity, whole_points, job_with, half, one_point_two}
use Rattle.definitions.specs.Examples.{four_e_8, two_e_7, whole, segment_job, square_job, symmetric_job, corner_job}
use Rattle.definitions.specs.Examples.{three_points}

unfoldable pub two_points_answer : List ℕ
two_points_answer =
    -- examined; orbits and their counts
    0 ∷ 2 ∷ 1 ∷ 1 ∷
    -- entries
    1 ∷
    2 ∷ 0 ∷ 0 ∷ 1 ∷ 0 ∷ 2 ∷ 0 ∷ 0 ∷ 1 ∷ 0 ∷ 3 ∷ 1 ∷ 0 ∷ 2 ∷ 1 ∷ 0 ∷ 1 ∷ 0 ∷ 1 ∷ 2 ∷ 0 ∷ 1 ∷
    -- possible facets of each orbit
    1 ∷ 3 ∷ 0 ∷ 1 ∷ 1 ∷ 0 ∷ 1 ∷ 1 ∷ 0 ∷
    1 ∷ 3 ∷ 0 ∷ 1 ∷ 1 ∷ 0 ∷ 1 ∷ 1 ∷ 1 ∷
    -- compounds
    0 ∷
    -- summaries
    2 ∷ 1 ∷ 2 ∷ []

unfoldable pub two_points_swapped_answer : List ℕ
two_points_swapped_answer =
    -- examined; orbits and their counts
    0 ∷ 1 ∷ 2 ∷
    -- entries
    1 ∷
    1 ∷ 0 ∷ 0 ∷ 1 ∷ 0 ∷ 0 ∷ 3 ∷ 1 ∷ 0 ∷ 2 ∷ 1 ∷ 0 ∷ 1 ∷ 0 ∷ 1 ∷ 2 ∷ 0 ∷ 1 ∷
    -- possible facets of each orbit
    1 ∷ 3 ∷ 0 ∷ 1 ∷ 1 ∷ 0 ∷ 1 ∷ 1 ∷ 0 ∷
    -- compounds
    0 ∷
    -- summaries
    2 ∷ 1 ∷ 2 ∷ []

-- [14.1] the square and its symmetries
unfoldable pub symmetric_square_answer : List ℕ
symmetric_square_answer =
    -- examined; orbits and their counts
    3 ∷ 2 ∷ 4 ∷ 2 ∷
    -- entries
    1 ∷
    1 ∷ 0 ∷ 0 ∷ 1 ∷ 0 ∷ 0 ∷ 4 ∷ 1 ∷ 0 ∷ 4 ∷ 1 ∷ 0 ∷ 1 ∷ 0 ∷ 1 ∷ 0 ∷ 1 ∷ 0 ∷ 4 ∷ 2 ∷ 0 ∷ 1 ∷ 2 ∷ 0 ∷ 3 ∷ 2 ∷ 1 ∷ 2 ∷ 2
    ∷ 2 ∷ 3 ∷ 1 ∷ 4 ∷ 0 ∷ 1 ∷ 2 ∷ 3 ∷
    -- possible facets of each orbit
    1 ∷ 3 ∷ 1 ∷ 0 ∷ 2 ∷ 1 ∷ 0 ∷ 1 ∷ 0 ∷ 1 ∷ 2 ∷ 0 ∷ 1 ∷
    1 ∷ 3 ∷ 1 ∷ 0 ∷ 2 ∷ 1 ∷ 0 ∷ 1 ∷ 0 ∷ 1 ∷ 2 ∷ 0 ∷ 2 ∷
    -- compounds
    0 ∷
    -- summaries
    4 ∷ 4 ∷ 4 ∷ []

unfoldable pub symmetric_square_max12_answer : List ℕ
symmetric_square_max12_answer =
    -- examined; orbits and their counts
    1 ∷ 1 ∷ 4 ∷
    -- entries
    1 ∷
    1 ∷ 0 ∷ 0 ∷ 1 ∷ 0 ∷ 0 ∷ 4 ∷ 1 ∷ 0 ∷ 4 ∷ 1 ∷ 0 ∷ 1 ∷ 0 ∷ 1 ∷ 0 ∷ 1 ∷ 0 ∷ 4 ∷ 2 ∷ 0 ∷ 1 ∷ 2 ∷ 0 ∷ 3 ∷ 2 ∷ 1 ∷ 2 ∷ 2
    ∷ 2 ∷ 3 ∷ 1 ∷ 4 ∷ 0 ∷ 1 ∷ 2 ∷ 3 ∷
    -- possible facets of each orbit
    1 ∷ 3 ∷ 1 ∷ 0 ∷ 2 ∷ 1 ∷ 0 ∷ 1 ∷ 0 ∷ 1 ∷ 2 ∷ 0 ∷ 1 ∷
    -- compounds
    0 ∷
    -- summaries
    4 ∷ 4 ∷ 4 ∷ []

unfoldable pub symmetric_square_max05_answer : List ℕ
symmetric_square_max05_answer =
    -- examined; orbits and their counts
    0 ∷ 0 ∷
    -- entries
    0 ∷
    -- compounds
    0 ∷ []

unfoldable pub plain_square_answer : List ℕ
plain_square_answer =
    -- examined; orbits and their counts
    35 ∷ 6 ∷ 1 ∷ 1 ∷ 1 ∷ 1 ∷ 1 ∷ 1 ∷
    -- entries
    7 ∷
    3 ∷ 0 ∷ 0 ∷ 1 ∷ 0 ∷ 3 ∷ 0 ∷ 3 ∷ 0 ∷ 0 ∷ 1 ∷ 0 ∷ 3 ∷ 0 ∷ 4 ∷ 1 ∷ 0 ∷ 4 ∷ 1 ∷ 0 ∷ 1 ∷ 0 ∷ 1 ∷ 0 ∷ 1 ∷ 0 ∷ 3 ∷ 2 ∷ 0
    ∷ 1 ∷ 2 ∷ 0 ∷ 2 ∷ 2 ∷ 1 ∷ 2 ∷ 1 ∷ 3 ∷ 0 ∷ 1 ∷ 2 ∷
    4 ∷ 0 ∷ 0 ∷ 1 ∷ 0 ∷ 4 ∷ 0 ∷ 5 ∷ 0 ∷ 4 ∷ 0 ∷ 0 ∷ 1 ∷ 0 ∷ 4 ∷ 0 ∷ 5 ∷ 0 ∷ 4 ∷ 1 ∷ 0 ∷ 4 ∷ 1 ∷ 0 ∷ 1 ∷ 0 ∷ 1 ∷ 0 ∷ 1
    ∷ 0 ∷ 4 ∷ 2 ∷ 0 ∷ 1 ∷ 2 ∷ 0 ∷ 2 ∷ 2 ∷ 1 ∷ 3 ∷ 2 ∷ 2 ∷ 3 ∷ 1 ∷ 4 ∷ 0 ∷ 1 ∷ 2 ∷ 3 ∷
    4 ∷ 0 ∷ 0 ∷ 2 ∷ 0 ∷ 3 ∷ 0 ∷ 5 ∷ 0 ∷ 4 ∷ 0 ∷ 0 ∷ 2 ∷ 0 ∷ 3 ∷ 0 ∷ 5 ∷ 0 ∷ 4 ∷ 1 ∷ 0 ∷ 4 ∷ 1 ∷ 0 ∷ 1 ∷ 0 ∷ 1 ∷ 0 ∷ 1
    ∷ 0 ∷ 4 ∷ 2 ∷ 0 ∷ 1 ∷ 2 ∷ 0 ∷ 3 ∷ 2 ∷ 1 ∷ 2 ∷ 2 ∷ 2 ∷ 3 ∷ 1 ∷ 4 ∷ 0 ∷ 1 ∷ 2 ∷ 3 ∷
    3 ∷ 0 ∷ 0 ∷ 2 ∷ 0 ∷ 4 ∷ 0 ∷ 3 ∷ 0 ∷ 0 ∷ 2 ∷ 0 ∷ 4 ∷ 0 ∷ 4 ∷ 1 ∷ 0 ∷ 4 ∷ 1 ∷ 0 ∷ 1 ∷ 0 ∷ 1 ∷ 0 ∷ 1 ∷ 0 ∷ 3 ∷ 2 ∷ 0
    ∷ 1 ∷ 2 ∷ 0 ∷ 3 ∷ 2 ∷ 1 ∷ 3 ∷ 1 ∷ 3 ∷ 0 ∷ 1 ∷ 2 ∷
    4 ∷ 1 ∷ 0 ∷ 2 ∷ 0 ∷ 3 ∷ 0 ∷ 4 ∷ 0 ∷ 4 ∷ 1 ∷ 0 ∷ 2 ∷ 0 ∷ 3 ∷ 0 ∷ 4 ∷ 0 ∷ 4 ∷ 1 ∷ 0 ∷ 4 ∷ 1 ∷ 0 ∷ 1 ∷ 0 ∷ 1 ∷ 0 ∷ 1
    ∷ 0 ∷ 4 ∷ 2 ∷ 0 ∷ 2 ∷ 2 ∷ 0 ∷ 3 ∷ 2 ∷ 1 ∷ 2 ∷ 2 ∷ 1 ∷ 3 ∷ 1 ∷ 4 ∷ 0 ∷ 1 ∷ 2 ∷ 3 ∷
    3 ∷ 1 ∷ 0 ∷ 2 ∷ 0 ∷ 5 ∷ 0 ∷ 3 ∷ 1 ∷ 0 ∷ 2 ∷ 0 ∷ 5 ∷ 0 ∷ 4 ∷ 1 ∷ 0 ∷ 4 ∷ 1 ∷ 0 ∷ 1 ∷ 0 ∷ 1 ∷ 0 ∷ 1 ∷ 0 ∷ 3 ∷ 2 ∷ 0
    ∷ 2 ∷ 2 ∷ 0 ∷ 3 ∷ 2 ∷ 2 ∷ 3 ∷ 1 ∷ 3 ∷ 0 ∷ 1 ∷ 2 ∷
    3 ∷ 3 ∷ 0 ∷ 4 ∷ 0 ∷ 5 ∷ 0 ∷ 3 ∷ 3 ∷ 0 ∷ 4 ∷ 0 ∷ 5 ∷ 0 ∷ 4 ∷ 1 ∷ 0 ∷ 4 ∷ 1 ∷ 0 ∷ 1 ∷ 0 ∷ 1 ∷ 0 ∷ 1 ∷ 0 ∷ 3 ∷ 2 ∷ 1
    ∷ 2 ∷ 2 ∷ 1 ∷ 3 ∷ 2 ∷ 2 ∷ 3 ∷ 1 ∷ 3 ∷ 0 ∷ 1 ∷ 2 ∷
    -- possible facets of each orbit
    1 ∷ 3 ∷ 1 ∷ 0 ∷ 2 ∷ 1 ∷ 0 ∷ 1 ∷ 0 ∷ 1 ∷ 2 ∷ 0 ∷ 1 ∷
    1 ∷ 3 ∷ 1 ∷ 0 ∷ 2 ∷ 1 ∷ 0 ∷ 1 ∷ 0 ∷ 1 ∷ 2 ∷ 0 ∷ 2 ∷
    1 ∷ 3 ∷ 1 ∷ 0 ∷ 2 ∷ 1 ∷ 0 ∷ 1 ∷ 0 ∷ 1 ∷ 2 ∷ 0 ∷ 3 ∷
    1 ∷ 3 ∷ 1 ∷ 0 ∷ 2 ∷ 1 ∷ 0 ∷ 1 ∷ 0 ∷ 1 ∷ 2 ∷ 1 ∷ 2 ∷
    1 ∷ 3 ∷ 1 ∷ 0 ∷ 2 ∷ 1 ∷ 0 ∷ 1 ∷ 0 ∷ 1 ∷ 2 ∷ 1 ∷ 3 ∷
    1 ∷ 3 ∷ 1 ∷ 0 ∷ 2 ∷ 1 ∷ 0 ∷ 1 ∷ 0 ∷ 1 ∷ 2 ∷ 2 ∷ 3 ∷
    -- compounds
    0 ∷
    -- summaries
    3 ∷ 3 ∷ 3 ∷ 4 ∷ 4 ∷ 4 ∷ 4 ∷ 4 ∷ 4 ∷ 3 ∷ 3 ∷ 3 ∷ 4 ∷ 4 ∷ 4 ∷ 3 ∷ 3 ∷ 3 ∷ 3 ∷ 3 ∷ 3 ∷ []

unfoldable pub square_limit0_answer : List ℕ
square_limit0_answer =
    -- examined; orbits and their counts
    5 ∷ 6 ∷ 1 ∷ 1 ∷ 1 ∷ 1 ∷ 1 ∷ 1 ∷
    -- entries
    1 ∷
    3 ∷ 3 ∷ 0 ∷ 4 ∷ 0 ∷ 5 ∷ 0 ∷ 3 ∷ 3 ∷ 0 ∷ 4 ∷ 0 ∷ 5 ∷ 0 ∷ 4 ∷ 1 ∷ 0 ∷ 4 ∷ 1 ∷ 0 ∷ 1 ∷ 0 ∷ 1 ∷ 0 ∷ 1 ∷ 0 ∷ 3 ∷ 2 ∷ 1
    ∷ 2 ∷ 2 ∷ 1 ∷ 3 ∷ 2 ∷ 2 ∷ 3 ∷ 1 ∷ 3 ∷ 0 ∷ 1 ∷ 2 ∷
    -- possible facets of each orbit
    1 ∷ 3 ∷ 1 ∷ 0 ∷ 2 ∷ 1 ∷ 0 ∷ 1 ∷ 0 ∷ 1 ∷ 2 ∷ 0 ∷ 1 ∷
    1 ∷ 3 ∷ 1 ∷ 0 ∷ 2 ∷ 1 ∷ 0 ∷ 1 ∷ 0 ∷ 1 ∷ 2 ∷ 0 ∷ 2 ∷
    1 ∷ 3 ∷ 1 ∷ 0 ∷ 2 ∷ 1 ∷ 0 ∷ 1 ∷ 0 ∷ 1 ∷ 2 ∷ 0 ∷ 3 ∷
    1 ∷ 3 ∷ 1 ∷ 0 ∷ 2 ∷ 1 ∷ 0 ∷ 1 ∷ 0 ∷ 1 ∷ 2 ∷ 1 ∷ 2 ∷
    1 ∷ 3 ∷ 1 ∷ 0 ∷ 2 ∷ 1 ∷ 0 ∷ 1 ∷ 0 ∷ 1 ∷ 2 ∷ 1 ∷ 3 ∷
    1 ∷ 3 ∷ 1 ∷ 0 ∷ 2 ∷ 1 ∷ 0 ∷ 1 ∷ 0 ∷ 1 ∷ 2 ∷ 2 ∷ 3 ∷
    -- compounds
    0 ∷
    -- summaries
    3 ∷ 3 ∷ 3 ∷ []

unfoldable pub corner_answer : List ℕ
corner_answer =
    -- examined; orbits and their counts
    27 ∷ 4 ∷ 1 ∷ 1 ∷ 1 ∷ 1 ∷
    -- entries
    1 ∷
    4 ∷ 0 ∷ 0 ∷ 1 ∷ 0 ∷ 2 ∷ 0 ∷ 3 ∷ 0 ∷ 4 ∷ 0 ∷ 0 ∷ 1 ∷ 0 ∷ 2 ∷ 0 ∷ 3 ∷ 0 ∷ 5 ∷ 1 ∷ 0 ∷ 4 ∷ 1 ∷ 0 ∷ 1 ∷ 0 ∷ 1 ∷ 0 ∷ 1
    ∷ 0 ∷ 6 ∷ 2 ∷ 0 ∷ 1 ∷ 2 ∷ 0 ∷ 2 ∷ 2 ∷ 0 ∷ 3 ∷ 2 ∷ 1 ∷ 2 ∷ 2 ∷ 1 ∷ 3 ∷ 2 ∷ 2 ∷ 3 ∷ 4 ∷ 3 ∷ 0 ∷ 1 ∷ 3 ∷ 3 ∷ 0
    ∷ 2 ∷ 4 ∷ 3 ∷ 1 ∷ 2 ∷ 5 ∷ 3 ∷ 3 ∷ 4 ∷ 5 ∷ 1 ∷ 4 ∷ 0 ∷ 1 ∷ 2 ∷ 3 ∷
    -- possible facets of each orbit
    1 ∷ 4 ∷ 1 ∷ 0 ∷ 3 ∷ 1 ∷ 0 ∷ 1 ∷ 0 ∷ 1 ∷ 0 ∷ 3 ∷ 2 ∷ 0 ∷ 1 ∷ 2 ∷ 0 ∷ 2 ∷ 2 ∷ 1 ∷ 2 ∷ 1 ∷ 3 ∷ 0 ∷ 1 ∷ 2 ∷
    1 ∷ 4 ∷ 1 ∷ 0 ∷ 3 ∷ 1 ∷ 0 ∷ 1 ∷ 0 ∷ 1 ∷ 0 ∷ 3 ∷ 2 ∷ 0 ∷ 1 ∷ 2 ∷ 0 ∷ 3 ∷ 2 ∷ 1 ∷ 3 ∷ 1 ∷ 3 ∷ 0 ∷ 1 ∷ 2 ∷
    1 ∷ 4 ∷ 1 ∷ 0 ∷ 3 ∷ 1 ∷ 0 ∷ 1 ∷ 0 ∷ 1 ∷ 0 ∷ 3 ∷ 2 ∷ 0 ∷ 2 ∷ 2 ∷ 0 ∷ 3 ∷ 2 ∷ 2 ∷ 3 ∷ 1 ∷ 3 ∷ 0 ∷ 1 ∷ 2 ∷
    1 ∷ 4 ∷ 1 ∷ 0 ∷ 3 ∷ 1 ∷ 0 ∷ 1 ∷ 0 ∷ 1 ∷ 0 ∷ 3 ∷ 2 ∷ 1 ∷ 2 ∷ 2 ∷ 1 ∷ 3 ∷ 2 ∷ 2 ∷ 3 ∷ 1 ∷ 3 ∷ 0 ∷ 1 ∷ 2 ∷
    -- compounds
    0 ∷
    -- summaries
    4 ∷ 6 ∷ 4 ∷ []

unfoldable pub crowded_line_answer : List ℕ
crowded_line_answer =
    -- examined; orbits and their counts
    1 ∷ 1 ∷ 1 ∷
    -- entries
    0 ∷
    -- possible facets of each orbit
    1 ∷ 3 ∷ 1 ∷ 0 ∷ 2 ∷ 1 ∷ 0 ∷ 1 ∷ 0 ∷ 1 ∷ 2 ∷ 0 ∷ 1 ∷
    -- compounds
    0 ∷ []

-- a triangle that is nearly a line: three edges, each an orbit of its own
unfoldable pub flat_triangle_answer : List ℕ
flat_triangle_answer =
    -- examined; orbits and their counts
    5 ∷ 3 ∷ 1 ∷ 1 ∷ 1 ∷
    -- entries
    1 ∷
    3 ∷ 0 ∷ 0 ∷ 1 ∷ 0 ∷ 2 ∷ 0 ∷ 3 ∷ 0 ∷ 0 ∷ 1 ∷ 0 ∷ 2 ∷ 0 ∷ 4 ∷ 1 ∷ 0 ∷ 3 ∷ 1 ∷ 0 ∷ 1 ∷ 0 ∷ 1 ∷ 0 ∷ 3 ∷ 2 ∷ 0 ∷ 1 ∷ 2
    ∷ 0 ∷ 2 ∷ 2 ∷ 1 ∷ 2 ∷ 1 ∷ 3 ∷ 0 ∷ 1 ∷ 2 ∷
    -- possible facets of each orbit
    1 ∷ 3 ∷ 1 ∷ 0 ∷ 2 ∷ 1 ∷ 0 ∷ 1 ∷ 0 ∷ 1 ∷ 2 ∷ 0 ∷ 1 ∷
    1 ∷ 3 ∷ 1 ∷ 0 ∷ 2 ∷ 1 ∷ 0 ∷ 1 ∷ 0 ∷ 1 ∷ 2 ∷ 0 ∷ 2 ∷
    1 ∷ 3 ∷ 1 ∷ 0 ∷ 2 ∷ 1 ∷ 0 ∷ 1 ∷ 0 ∷ 1 ∷ 2 ∷ 1 ∷ 2 ∷
    -- compounds
    0 ∷
    -- summaries
    3 ∷ 3 ∷ 3 ∷ []

-- [14.2] jobs with what is known of them
unfoldable pub starred : List Case
starred =
    -- rank 2: two ends, an orbit each
    answers 0 (segment_job (identity 2)) two_points_answer
    -- and swapped by a row: one orbit of two
    ∷ answers 0 (segment_job ((0 ∷ 1 ∷ []) ∷ (1 ∷ 0 ∷ []) ∷ [])) two_points_swapped_answer
    -- the square with its symmetries: four sides, two diagonals, and the sides close
    ∷ answers 524288 (symmetric_job (plain 3)) symmetric_square_answer
    -- no diagonal is as short as 1.2
    ∷ answers 524288 (symmetric_job (with_max 3 one_point_two)) symmetric_square_max12_answer
    -- and no side as short as 0.5
    ∷ answers 524288 (symmetric_job (with_max 3 half)) symmetric_square_max05_answer
    -- the square with the identity alone: four triangles and three quadrilaterals
    ∷ answers 524288 (square_job (plain 3)) plain_square_answer
    -- with an entry limit of 0 or 1: the first that is emitted
    ∷ answers 524288 (square_job (with_entry_limit 3 0)) square_limit0_answer
    ∷ answers 524288 (square_job (with_entry_limit 3 1)) square_limit0_answer
    -- the tetrahedron, in 27 lists
    ∷ answers 4194304 (corner_job (plain 4)) corner_answer
    -- for which a budget of 26 is one too few
    ∷ refused_with 16 4194304 (corner_job (with_budget 4 26))
    -- three points of a line: its edge joins the first two
    ∷ answers 524288 (three_points (whole_points ((0 ∷ 0 ∷ []) ∷ (1 ∷ 0 ∷ []) ∷ (2 ∷ 0 ∷ []) ∷ []))) crowded_line_answer
    -- (0,0), (1,0), (0.5, 0.00000004): the third point lies within the tolerance of the line through the others,
    -- so there is one orbit, and no entry
    ∷ answers 524288
    (three_points ((0 ∷ 0 ∷ []) ∷ (whole 1 ∷ 0 ∷ []) ∷ (half ∷ four_e_8 ∷ []) ∷ [])) crowded_line_answer
    -- at 0.0000002 it lies off that line: three orbits, and the triangle
    ∷ answers 524288
    (three_points ((0 ∷ 0 ∷ []) ∷ (whole 1 ∷ 0 ∷ []) ∷ (half ∷ two_e_7 ∷ []) ∷ [])) flat_triangle_answer
    ∷ []

-- the two heights are the doubles nearest to 4 and 20 hundred-millionths
pub heights_are : T (eqb (to_bits binary64 (round binary64 false 4 100000000)) four_e_8
    && eqb (to_bits binary64 (round binary64 false 20 100000000)) two_e_7)
unfolding open_all
heights_are = tt

pub starred_jobs : T (all_of passes starred)
unfolding open_all open_examples starred two_points_answer two_points_swapped_answer symmetric_square_answer
    symmetric_square_max12_answer symmetric_square_max05_answer plain_square_answer square_limit0_answer corner_answer
    crowded_line_answer flat_triangle_answer
starred_jobs = tt

-- (0,0), (1,0), (2,0), (0,1), no symmetry. The first three lie on a line, whose edge ends at the first two; so no
-- edge of the triangle ends at the third, and its summary counts three points.
unfoldable pub crowded_triangle_answer : List ℕ
crowded_triangle_answer =
    -- examined; orbits and their counts
    7 ∷ 4 ∷ 1 ∷ 1 ∷ 1 ∷ 1 ∷
    -- entries
    1 ∷
    3 ∷ 0 ∷ 0 ∷ 1 ∷ 0 ∷ 2 ∷ 0 ∷ 3 ∷ 0 ∷ 0 ∷ 1 ∷ 0 ∷ 2 ∷ 0 ∷ 4 ∷ 1 ∷ 0 ∷ 4 ∷ 1 ∷ 0 ∷ 1 ∷ 0 ∷ 1 ∷ 0 ∷ 1 ∷ 0 ∷ 3 ∷ 2 ∷ 0
    ∷ 1 ∷ 2 ∷ 0 ∷ 3 ∷ 2 ∷ 1 ∷ 3 ∷ 1 ∷ 3 ∷ 0 ∷ 1 ∷ 2 ∷
    -- possible facets of each orbit
    1 ∷ 3 ∷ 1 ∷ 0 ∷ 2 ∷ 1 ∷ 0 ∷ 1 ∷ 0 ∷ 1 ∷ 2 ∷ 0 ∷ 1 ∷
    1 ∷ 3 ∷ 1 ∷ 0 ∷ 2 ∷ 1 ∷ 0 ∷ 1 ∷ 0 ∷ 1 ∷ 2 ∷ 0 ∷ 3 ∷
    1 ∷ 3 ∷ 1 ∷ 0 ∷ 2 ∷ 1 ∷ 0 ∷ 1 ∷ 0 ∷ 1 ∷ 2 ∷ 1 ∷ 3 ∷
    1 ∷ 3 ∷ 1 ∷ 0 ∷ 2 ∷ 1 ∷ 0 ∷ 1 ∷ 0 ∷ 1 ∷ 2 ∷ 2 ∷ 3 ∷
    -- compounds
    0 ∷
    -- summaries
    3 ∷ 3 ∷ 3 ∷ []

pub crowded_triangle : T (passes (answers 524288 (job_with (plain 3) 2 (whole_points ((0 ∷ 0 ∷ []) ∷ (1 ∷ 0 ∷ [])
    ∷ (2 ∷ 0 ∷ []) ∷ (0 ∷ 1 ∷ []) ∷ [])) (identity 4)) crowded_triangle_answer))
unfolding open_all open_examples crowded_triangle_answer
crowded_triangle = tt
