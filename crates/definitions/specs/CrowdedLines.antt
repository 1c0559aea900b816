-- What the rule of a job decides [5.8]: whether a line of a rank 3 call with more than two points opens an orbit, in
-- the outermost call and in an inner one. Sets of a rank 4 call and the edge of a rank 2 job stay. The answers were
-- reckoned by hand.
use Rattle.std.specs.Prelude.{List, [], ◌∷◌, ℕ, T}
use Rattle.definitions.specs.Lists.{all_of}
use Rattle.definitions.specs.Job.{Bytes}
use Rattle.definitions.specs.Open.{open_all}
use Rattle.definitions.specs.Examples.{Case, open_examples, passes, answers, whole_points, one_e_7, under_rule}
use Rattle.definitions.specs.Examples.{job_with, identity}
use Rattle.definitions.specs.KnownJobs.{two_points_answer, crowded_triangle_answer}

-- ---- jobs

-- (0,0), (1,0), (2,0), (0,1)
unfoldable pub triangle_under : ℕ → Bytes
triangle_under rule =
    job_with (under_rule 3 one_e_7 rule) 2
    (whole_points ((0 ∷ 0 ∷ []) ∷ (1 ∷ 0 ∷ []) ∷ (2 ∷ 0 ∷ []) ∷ (0 ∷ 1 ∷ []) ∷ [])) (identity 4)

-- the same points in space: one plane of a rank 4 call, with the crowded line in it
unfoldable pub plane_under : ℕ → Bytes
plane_under rule =
    job_with (under_rule 4 one_e_7 rule) 3
    (whole_points ((0 ∷ 0 ∷ 0 ∷ []) ∷ (1 ∷ 0 ∷ 0 ∷ []) ∷ (2 ∷ 0 ∷ 0 ∷ []) ∷ (0 ∷ 1 ∷ 0 ∷ []) ∷ [])) (identity 4)

-- three points of a line at rank 2
unfoldable pub line_under : ℕ → Bytes
line_under rule =
    job_with (under_rule 2 one_e_7 rule) 1 (whole_points ((0 ∷ []) ∷ (1 ∷ []) ∷ (2 ∷ []) ∷ [])) (identity 3)

-- the 3 × 3 grid with its eight symmetries, at rank 3
unfoldable pub grid_under : ℕ → Bytes
grid_under rule =
    job_with (under_rule 3 one_e_7 rule) 2
    (whole_points ((0 ∷ 0 ∷ []) ∷ (1 ∷ 0 ∷ []) ∷ (2 ∷ 0 ∷ []) ∷ (0 ∷ 1 ∷ []) ∷ (1 ∷ 1 ∷ []) ∷ (2 ∷ 1 ∷ [])
    ∷ (0 ∷ 2 ∷ []) ∷ (1 ∷ 2 ∷ []) ∷ (2 ∷ 2 ∷ []) ∷ []))
    ((0 ∷ 1 ∷ 2 ∷ 3 ∷ 4 ∷ 5 ∷ 6 ∷ 7 ∷ 8 ∷ []) ∷ (2 ∷ 5 ∷ 8 ∷ 1 ∷ 4 ∷ 7 ∷ 0 ∷ 3 ∷ 6 ∷ [])
    ∷ (8 ∷ 7 ∷ 6 ∷ 5 ∷ 4 ∷ 3 ∷ 2 ∷ 1 ∷ 0 ∷ []) ∷ (6 ∷ 3 ∷ 0 ∷ 7 ∷ 4 ∷ 1 ∷ 8 ∷ 5 ∷ 2 ∷ [])
    ∷ (2 ∷ 1 ∷ 0 ∷ 5 ∷ 4 ∷ 3 ∷ 8 ∷ 7 ∷ 6 ∷ []) ∷ (6 ∷ 7 ∷ 8 ∷ 3 ∷ 4 ∷ 5 ∷ 0 ∷ 1 ∷ 2 ∷ [])
    ∷ (0 ∷ 3 ∷ 6 ∷ 1 ∷ 4 ∷ 7 ∷ 2 ∷ 5 ∷ 8 ∷ []) ∷ (8 ∷ 5 ∷ 2 ∷ 7 ∷ 4 ∷ 1 ∷ 6 ∷ 3 ∷ 0 ∷ []) ∷ [])

-- ---- their answers

-- three edges at the fourth point, and no triangle
unfoldable pub triangle_rule2_answer : List ℕ
triangle_rule2_answer =
    -- examined; orbits and their counts
    4 ∷ 3 ∷ 1 ∷ 1 ∷ 1 ∷
    -- entries
    0 ∷
    -- possible facets of each orbit
    1 ∷ 3 ∷ 1 ∷ 0 ∷ 2 ∷ 1 ∷ 0 ∷ 1 ∷ 0 ∷ 1 ∷ 2 ∷ 0 ∷ 3 ∷
    1 ∷ 3 ∷ 1 ∷ 0 ∷ 2 ∷ 1 ∷ 0 ∷ 1 ∷ 0 ∷ 1 ∷ 2 ∷ 1 ∷ 3 ∷
    1 ∷ 3 ∷ 1 ∷ 0 ∷ 2 ∷ 1 ∷ 0 ∷ 1 ∷ 0 ∷ 1 ∷ 2 ∷ 2 ∷ 3 ∷
    -- compounds
    0 ∷ []

-- one plane, whose only possible facet is that triangle
unfoldable pub plane_rule1_answer : List ℕ
plane_rule1_answer =
    -- examined; orbits and their counts
    8 ∷ 1 ∷ 1 ∷
    -- entries
    0 ∷
    -- possible facets of the orbit
    1 ∷ 4 ∷ 1 ∷ 0 ∷ 4 ∷ 1 ∷ 0 ∷ 1 ∷ 0 ∷ 1 ∷ 0 ∷ 1 ∷ 0 ∷ 3 ∷ 2 ∷ 0 ∷ 1 ∷ 2 ∷ 0 ∷ 3 ∷ 2 ∷ 1 ∷ 3 ∷ 1 ∷ 3 ∷ 0 ∷ 1 ∷ 2 ∷
    -- compounds
    0 ∷ []

-- one plane still, and no possible facet in it
unfoldable pub plane_rule2_answer : List ℕ
plane_rule2_answer = 4 ∷ 1 ∷ 1 ∷ 0 ∷ 0 ∷ 0 ∷ []

-- an octagram of knight's moves and the square of the midpoints; no other line has just two points
unfoldable pub grid_rule2_answer : List ℕ
grid_rule2_answer =
    -- examined; orbits and their counts
    3 ∷ 2 ∷ 8 ∷ 4 ∷
    -- entries
    2 ∷
    1 ∷ 0 ∷ 0 ∷ 1 ∷ 0 ∷ 0 ∷ 4 ∷ 1 ∷ 0 ∷ 9 ∷ 1 ∷ 0 ∷ 1 ∷ 0 ∷ 1 ∷ 0 ∷ 1 ∷ 0 ∷ 1 ∷ 0 ∷ 1 ∷ 0 ∷ 1 ∷ 0 ∷ 1 ∷ 0 ∷ 1 ∷ 0 ∷ 8
    ∷ 2 ∷ 0 ∷ 5 ∷ 2 ∷ 0 ∷ 7 ∷ 2 ∷ 1 ∷ 6 ∷ 2 ∷ 1 ∷ 8 ∷ 2 ∷ 2 ∷ 3 ∷ 2 ∷ 2 ∷ 7 ∷ 2 ∷ 3 ∷ 8 ∷ 2 ∷ 5 ∷ 6 ∷ 1 ∷ 8 ∷ 0
    ∷ 1 ∷ 2 ∷ 3 ∷ 4 ∷ 5 ∷ 6 ∷ 7 ∷
    1 ∷ 1 ∷ 0 ∷ 1 ∷ 1 ∷ 0 ∷ 4 ∷ 1 ∷ 0 ∷ 9 ∷ 1 ∷ 0 ∷ 1 ∷ 0 ∷ 1 ∷ 0 ∷ 1 ∷ 0 ∷ 1 ∷ 0 ∷ 1 ∷ 0 ∷ 1 ∷ 0 ∷ 1 ∷ 0 ∷ 1 ∷ 0 ∷ 4
    ∷ 2 ∷ 1 ∷ 3 ∷ 2 ∷ 1 ∷ 5 ∷ 2 ∷ 3 ∷ 7 ∷ 2 ∷ 5 ∷ 7 ∷ 1 ∷ 4 ∷ 0 ∷ 1 ∷ 2 ∷ 3 ∷
    -- possible facets of each orbit
    1 ∷ 3 ∷ 1 ∷ 0 ∷ 2 ∷ 1 ∷ 0 ∷ 1 ∷ 0 ∷ 1 ∷ 2 ∷ 0 ∷ 5 ∷
    1 ∷ 3 ∷ 1 ∷ 0 ∷ 2 ∷ 1 ∷ 0 ∷ 1 ∷ 0 ∷ 1 ∷ 2 ∷ 1 ∷ 3 ∷
    -- compounds
    0 ∷
    -- summaries
    8 ∷ 8 ∷ 8 ∷ 4 ∷ 4 ∷ 4 ∷ []

unfoldable pub under_rules : List Case
under_rules =
    answers 524288 (triangle_under 1) crowded_triangle_answer ∷ answers 524288 (triangle_under 2) triangle_rule2_answer
    ∷ answers 4194304 (plane_under 1) plane_rule1_answer ∷ answers 4194304 (plane_under 2) plane_rule2_answer
    ∷ answers 524288 (grid_under 2) grid_rule2_answer
    ∷ answers 0 (line_under 1) two_points_answer ∷ answers 0 (line_under 2) two_points_answer
    ∷ []

pub rule_decides : T (all_of passes under_rules)
unfolding open_all open_examples triangle_under plane_under line_under grid_under under_rules triangle_rule2_answer
    plane_rule1_answer plane_rule2_answer grid_rule2_answer two_points_answer crowded_triangle_answer
rule_decides = tt
