-- A job for each refusal of chapter 11 that a short evaluation can reach, the order of the refusals, and both sides
-- of the bounds. 13 and both kinds of 15 are shown with small bounds passed in.
use mathlib.Core.List.{List, [], ◌∷◌, ◌++◌, flat_map}
use Rattle.std.specs.Prelude.{ℕ, ◌+◌, ◌-◌, ◌*◌, T, length, take, drop, replicate}
use Rattle.definitions.specs.Lists.{all_of, count_from}
use Rattle.definitions.specs.Recursion.{Bounds}
use Rattle.definitions.specs.Job.{Bytes}
use Rattle.definitions.specs.Open.{open_all}
use Rattle.definitions.specs.Examples.{Case, gives, refuses, open_examples, passes, passes_within, answers}
use Rattle.definitions.specs.Examples.{refused_with, bytes_of, whole, job_with, plain, with_budget, with_min, with_max}
use Rattle.definitions.specs.Examples.{within_tolerance, under_rule, identity, square, whole_points, thousandth}
use Rattle.definitions.specs.Examples.{five_e_8, one_e_7, one_e_9, segment_job, square_job, symmetric_job, corner_job}
use Rattle.definitions.specs.Examples.{three_points}
use Rattle.definitions.specs.KnownJobs.{two_points_answer, symmetric_square_answer, plain_square_answer}

-- ---- the order: each job breaks one rule and all that come after it

-- the first 11 bytes
unfoldable pub header : ℕ → ℕ → ℕ → ℕ → ℕ → ℕ → Bytes
header version rank d n row_count flags =
    (70 ∷ 67 ∷ 84 ∷ []) ++ bytes_of 2 version ++ (rank ∷ d ∷ n ∷ []) ++ bytes_of 2 row_count ++ (flags ∷ [])

-- the square of version 3 with a tolerance and another first coordinate, both given as bit patterns, a rule and other
-- rows
unfoldable pub square_with : ℕ → ℕ → ℕ → List (List ℕ) → Bytes
square_with tolerance rule bits rows =
    let job = job_with (under_rule 3 tolerance rule) 2 square rows in
    take 72 job ++ bytes_of 8 bits ++ drop 80 job

abbrev pub not_a_number : ℕ
not_a_number = 0x7ff8000000000000

unfoldable pub in_order : List Case
in_order =
    refused_with 1 0 (take 10 (header 1 3 2 4 1 0))
    ∷ refused_with 1 0 (70 ∷ 67 ∷ 85 ∷ drop 3 (header 4 9 9 99 0 255))
    ∷ refused_with 2 0 (header 4 9 9 99 0 255)
    ∷ refused_with 3 0 (header 3 9 9 99 0 255)
    ∷ refused_with 4 0 (header 3 3 9 99 0 255)
    ∷ refused_with 5 0 (header 3 3 2 99 0 255)
    ∷ refused_with 6 0 (header 3 3 2 4 0 255)
    ∷ refused_with 7 0 (header 3 3 2 4 2 255)
    ∷ refused_with 8 0 (header 3 3 2 4 2 7)
    ∷ refused_with 9 0 (square_with (whole 1) 3 not_a_number ((1 ∷ 0 ∷ 2 ∷ 3 ∷ []) ∷ (0 ∷ 0 ∷ 2 ∷ 4 ∷ []) ∷ []))
    ∷ refused_with 22 0 (square_with (whole 1) 3 0 ((1 ∷ 0 ∷ 2 ∷ 3 ∷ []) ∷ (0 ∷ 0 ∷ 2 ∷ 4 ∷ []) ∷ []))
    ∷ refused_with 25 0 (square_with thousandth 3 0 ((1 ∷ 0 ∷ 2 ∷ 3 ∷ []) ∷ (0 ∷ 0 ∷ 2 ∷ 4 ∷ []) ∷ []))
    ∷ refused_with 10 0 (square_with thousandth 2 0 ((1 ∷ 0 ∷ 2 ∷ 3 ∷ []) ∷ (0 ∷ 0 ∷ 2 ∷ 4 ∷ []) ∷ []))
    ∷ refused_with 11 0 (square_with thousandth 2 0 ((0 ∷ 1 ∷ 2 ∷ 3 ∷ []) ∷ (0 ∷ 0 ∷ 2 ∷ 4 ∷ []) ∷ []))
    ∷ refused_with 12 0 (square_with thousandth 2 0 ((0 ∷ 1 ∷ 2 ∷ 3 ∷ []) ∷ (1 ∷ 0 ∷ 2 ∷ 3 ∷ []) ∷ []))
    ∷ []

-- ---- both sides of the bounds. A job of rank 2 answers from its rows alone, so it shows what is let pass.

-- n points on a line at rank 2, with so many rows, each the identity
unfoldable pub line : ℕ → ℕ → Bytes
line n rows =
    job_with (plain 2) 1 (whole_points (flat_map (λ (x : ℕ). (x ∷ []) ∷ []) (count_from 0 n)))
    (replicate rows (count_from 0 n))

unfoldable pub counts : List Case
counts =
    refused_with 3 0 (header 1 1 2 4 1 0) ∷ refused_with 3 0 (header 1 5 4 4 1 0)
    ∷ refused_with 4 0 (header 1 3 1 4 1 0) ∷ refused_with 4 0 (header 1 3 5 4 1 0)
    -- 2 to 20 points, and no job of 10 bytes
    ∷ answers 0 (line 20 1) two_points_answer ∷ refused_with 5 0 (line 21 1) ∷ refused_with 5 0 (line 1 1)
    ∷ refused_with 1 0 (take 10 (line 20 1))
    ∷ answers 0 (line 2 120) two_points_answer ∷ refused_with 6 0 (line 2 121) ∷ refused_with 6 0 (line 2 0)
    ∷ refused_with 7 0 (header 1 3 2 4 1 8)
    -- a byte short, and one too many
    ∷ refused_with 8 0 (take 48 (line 2 1)) ∷ refused_with 8 0 (line 2 1 ++ (0 ∷ []))
    ∷ []

-- two points at rank 2 with an f64 at a place: the offset's at 15, the basis vector's at 23, the first point's at 31
unfoldable pub segment_with : ℕ → ℕ → Bytes
segment_with at bits = let job = segment_job (identity 2) in take at job ++ bytes_of 8 bits ++ drop (at + 8) job

-- two points at rank 2 with a limit on lengths
unfoldable pub segment_min : ℕ → Bytes
segment_min bits = job_with (with_min 2 bits) 1 (whole_points ((0 ∷ []) ∷ (1 ∷ []) ∷ [])) (identity 2)

unfoldable pub segment_max : ℕ → Bytes
segment_max bits = job_with (with_max 2 bits) 1 (whole_points ((0 ∷ []) ∷ (1 ∷ []) ∷ [])) (identity 2)

-- one more in the bit pattern is the next double, farther from zero
unfoldable pub floats : List Case
floats =
    answers 0 (segment_with 15 (whole 65536)) two_points_answer ∷ refused_with 9 0 (segment_with 15 (whole 65536 + 1))
    ∷ answers 0 (segment_with 23 (whole 1)) two_points_answer ∷ refused_with 9 0 (segment_with 23 (whole 1 + 1))
    ∷ answers 0 (segment_with 31 (whole 65536)) two_points_answer ∷ refused_with 9 0 (segment_with 31 (whole 65536 + 1))
    -- below zero, by the sign bit
    ∷ answers 0 (segment_with 31 (0x8000000000000000 + whole 65536)) two_points_answer
    ∷ refused_with 9 0 (segment_with 31 (0x8000000000000000 + whole 65536 + 1))
    -- an infinity, either way, and not a number
    ∷ refused_with 9 0 (segment_with 15 0x7ff0000000000000) ∷ refused_with 9 0 (segment_with 23 0xfff0000000000000)
    ∷ refused_with 9 0 (segment_with 31 not_a_number)
    -- min and max: −0 is not below 0
    ∷ answers 0 (segment_min 0x8000000000000000) two_points_answer ∷ refused_with 9 0 (segment_min 0x8000000000000001)
    ∷ answers 0 (segment_min (whole 131072)) two_points_answer ∷ refused_with 9 0 (segment_min (whole 131072 + 1))
    ∷ answers 0 (segment_max (whole 131072)) two_points_answer ∷ refused_with 9 0 (segment_max (whole 131072 + 1))
    ∷ refused_with 9 0 (segment_max not_a_number)
    ∷ []

-- two points at rank 2 in version 2, with a tolerance
unfoldable pub segment_tolerance : ℕ → Bytes
segment_tolerance bits = job_with (within_tolerance 2 bits) 1 (whole_points ((0 ∷ []) ∷ (1 ∷ []) ∷ [])) (identity 2)

unfoldable pub tolerances : List Case
tolerances =
    -- both ends of the range, and the double beyond each
    answers 0 (segment_tolerance one_e_9) two_points_answer ∷ refused_with 22 0 (segment_tolerance (one_e_9 - 1))
    ∷ answers 0 (segment_tolerance thousandth) two_points_answer
    ∷ refused_with 22 0 (segment_tolerance (thousandth + 1))
    -- 0, −0 and what is below
    ∷ refused_with 22 0 (segment_tolerance 0) ∷ refused_with 22 0 (segment_tolerance 0x8000000000000000)
    ∷ refused_with 22 0 (segment_tolerance (0x8000000000000000 + one_e_7))
    -- an infinity, either way, and not a number
    ∷ refused_with 9 0 (segment_tolerance 0x7ff0000000000000)
    ∷ refused_with 9 0 (segment_tolerance 0xfff0000000000000) ∷ refused_with 9 0 (segment_tolerance not_a_number)
    -- versions 0, 4 and 257; version 2 without a tolerance, and version 1 with one
    ∷ refused_with 2 0 (header 0 2 1 2 1 0) ∷ refused_with 2 0 (header 4 2 1 2 1 0)
    ∷ refused_with 2 0 (header 257 2 1 2 1 0)
    ∷ refused_with 8 0 (header 2 2 1 2 1 0 ++ drop 11 (segment_job (identity 2)))
    ∷ refused_with 8 0 (header 1 2 1 2 1 0 ++ drop 11 (segment_tolerance one_e_7))
    ∷ []

-- two points at rank 2 in version 3, with a rule
unfoldable pub segment_rule : ℕ → Bytes
segment_rule rule = job_with (under_rule 2 one_e_7 rule) 1 (whole_points ((0 ∷ []) ∷ (1 ∷ []) ∷ [])) (identity 2)

unfoldable pub rules : List Case
rules =
    answers 0 (segment_rule 1) two_points_answer ∷ answers 0 (segment_rule 2) two_points_answer
    ∷ refused_with 25 0 (segment_rule 0) ∷ refused_with 25 0 (segment_rule 3) ∷ refused_with 25 0 (segment_rule 255)
    -- version 3 without a rule, and version 2 with one
    ∷ refused_with 8 0 (header 3 2 1 2 1 0 ++ drop 11 (segment_tolerance one_e_7))
    ∷ refused_with 8 0 (header 2 2 1 2 1 0 ++ drop 11 (segment_rule 1))
    ∷ []

-- workspace, budget and room
unfoldable pub buffers : List Case
buffers =
    refused_with 12 524287 (square_job (plain 3)) ∷ refused_with 12 4194303 (corner_job (plain 4))
    -- (0,0), (0.001, 0.00000005), (1,0): all lie near the line through the first and the third, and what is made of
    -- them in their order has two basis vectors
    ∷ refused_with 14 524288 (three_points ((0 ∷ 0 ∷ []) ∷ (thousandth ∷ five_e_8 ∷ []) ∷ (whole 1 ∷ 0 ∷ []) ∷ []))
    -- rank 2 examines nothing
    ∷ answers 0 (job_with (with_budget 2 0) 1 (whole_points ((0 ∷ []) ∷ (1 ∷ []) ∷ [])) (identity 2)) two_points_answer
    ∷ refused_with 16 524288 (symmetric_job (with_budget 3 2))
    -- a buffer exactly full, and one byte short
    ∷ record {
      job = symmetric_job (plain 3);
      workspace = 524288;
      room = 4 * length symmetric_square_answer;
      expected = gives symmetric_square_answer;
    }
    ∷ record {
      job = symmetric_job (plain 3);
      workspace = 524288;
      room = 4 * length symmetric_square_answer - 1;
      expected = refuses 17;
    }
    ∷ record { job = symmetric_job (plain 3); workspace = 524288; room = 0; expected = refuses 17 }
    -- and one word short, at rank 2
    ∷ record {
      job = segment_job (identity 2);
      workspace = 0;
      room = 4 * length two_points_answer - 4;
      expected = refuses 17;
    }
    ∷ []

pub refusals : T (all_of passes (in_order ++ counts ++ floats ++ tolerances ++ rules ++ buffers))
unfolding open_all open_examples header square_with in_order line counts segment_with segment_min segment_max floats
    segment_tolerance tolerances segment_rule rules buffers two_points_answer symmetric_square_answer
refusals = tt

-- ---- small bounds: the square has 6 hyperplane orbits, 6 possible facets and 7 entries

unfoldable pub bounded : ℕ → ℕ → ℕ → Bounds
bounded orbits facets entries = record { orbits = orbits; facets = facets; entries = entries }

unfoldable pub square_gives : List ℕ → Case
square_gives words = answers 524288 (square_job (plain 3)) words

unfoldable pub square_refused : ℕ → Case
square_refused number = refused_with number 524288 (square_job (plain 3))

pub thirteen : T (passes_within (bounded 5 5 6) (square_refused 13))
unfolding open_all open_examples bounded square_refused
thirteen = tt

pub fifteen_facets : T (passes_within (bounded 6 5 6) (square_refused 15))
unfolding open_all open_examples bounded square_refused
fifteen_facets = tt

pub fifteen_entries : T (passes_within (bounded 6 6 6) (square_refused 15))
unfolding open_all open_examples bounded square_refused
fifteen_entries = tt

pub none_past_bounds : T (passes_within (bounded 6 6 7) (square_gives plain_square_answer))
unfolding open_all open_examples bounded square_gives plain_square_answer
none_past_bounds = tt
