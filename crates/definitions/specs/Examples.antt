-- Jobs as bytes and what is expected of a call, for the tables of this crate. A job is written here from its
-- fields, by words that share nothing with the definitions that read it.
use Rattle.std.specs.Prelude.{Bool, false, cond, ◌&&◌, ℕ, zero, suc, ◌+◌, ◌-◌, ◌*◌, ◌/◌, ◌%◌, eqb, ℤ, pos, negsuc}
use Rattle.std.specs.Prelude.{neg_ℤ, length, replicate}
use mathlib.Core.List.{List, [], ◌∷◌, ◌++◌, map, flat_map}
use Rattle.std.proofs.Math.Dec.{compare_is_eq}
use Rattle.std.specs.Float.{binary64}
use Rattle.std.specs.Float.Ieee.{round, to_bits}
use Rattle.definitions.specs.Lists.{count_from, compare_nats}
use Rattle.definitions.specs.Recursion.{Bounds}
use Rattle.definitions.specs.Job.{Bytes, bounds1, outcome_within, code_of, buffer_of}

-- a number in so many bytes, the lowest first
unfoldable pub bytes_of : ℕ → ℕ → Bytes
bytes_of zero x = []
bytes_of (suc many) x = x % 256 ∷ bytes_of many (x / 256)

-- A coordinate is an f64's bit pattern; that of a whole number:
unfoldable pub whole : ℕ → ℕ
whole x = to_bits binary64 (round binary64 false x 1)

-- points with whole coordinates
unfoldable pub whole_points : List (List ℕ) → List (List ℕ)
whole_points = map (map whole)

unfoldable pub vector_bytes : List (List ℕ) → Bytes
vector_bytes = flat_map (flat_map (bytes_of 8))

-- the first unit vectors of d coordinates
unfoldable pub unit_vectors : ℕ → ℕ → List (List ℕ)
unit_vectors d many = map (λ (i : ℕ). map (λ (j : ℕ). cond (eqb i j) (whole 1) 0) (count_from 0 d)) (count_from 0 many)

-- what a job says beside its points and rows; `present` is what stands between the flags and the budget
pub record Terms : Type 0 where
  pub version : ℕ
  pub rank : ℕ
  pub flags : ℕ
  pub present : Bytes
  pub budget : ℕ

-- [10.2] a job whose offset is 0 and whose basis is the first rank − 1 unit vectors
unfoldable pub job_with : Terms → ℕ → List (List ℕ) → List (List ℕ) → Bytes
job_with terms d points rows =
    (70 ∷ 67 ∷ 84 ∷ []) ++ bytes_of 2 terms.version ++ (terms.rank ∷ d ∷ length points ∷ [])
    ++ bytes_of 2 (length rows) ++ (terms.flags ∷ [])
    ++ terms.present ++ bytes_of 4 terms.budget
    ++ vector_bytes (replicate d 0 ∷ []) ++ vector_bytes (unit_vectors d (terms.rank - 1)) ++ vector_bytes points
    ++ flat_map (λ (row : List ℕ). row) rows

-- no limits, and a budget of a million
unfoldable pub plain : ℕ → Terms
plain rank = record { version = 1; rank = rank; flags = 0; present = []; budget = 1000000 }

unfoldable pub with_budget : ℕ → ℕ → Terms
with_budget rank budget = record { version = 1; rank = rank; flags = 0; present = []; budget = budget }

-- a limit on lengths, from below or from above, as a bit pattern
unfoldable pub with_min : ℕ → ℕ → Terms
with_min rank shortest = record { version = 1; rank = rank; flags = 1; present = bytes_of 8 shortest; budget = 1000000 }

unfoldable pub with_max : ℕ → ℕ → Terms
with_max rank longest = record { version = 1; rank = rank; flags = 2; present = bytes_of 8 longest; budget = 1000000 }

unfoldable pub with_entry_limit : ℕ → ℕ → Terms
with_entry_limit rank m = record { version = 1; rank = rank; flags = 4; present = bytes_of 4 m; budget = 1000000 }

-- version 2 with a tolerance, as a bit pattern
unfoldable pub within_tolerance : ℕ → ℕ → Terms
within_tolerance rank tolerance = record {
  version = 2;
  rank = rank;
  flags = 0;
  present = bytes_of 8 tolerance;
  budget = 1000000;
}

-- version 3 with a tolerance, as a bit pattern, and a rule
unfoldable pub under_rule : ℕ → ℕ → ℕ → Terms
under_rule rank tolerance rule = record {
  version = 3;
  rank = rank;
  flags = 0;
  present = bytes_of 8 tolerance ++ (rule ∷ []);
  budget = 1000000;
}

-- the identity alone
unfoldable pub identity : ℕ → List (List ℕ)
identity n = count_from 0 n ∷ []

-- ---- bit patterns of other numbers
abbrev pub half : ℕ
half = 0x3fe0000000000000

abbrev pub one_point_two : ℕ
one_point_two = 0x3ff3333333333333

-- 0.001
abbrev pub thousandth : ℕ
thousandth = 0x3f50624dd2f1a9fc

abbrev pub five_e_8 : ℕ
five_e_8 = 0x3e6ad7f29abcaf48

-- 0.00000004
abbrev pub four_e_8 : ℕ
four_e_8 = 0x3e65798ee2308c3a

abbrev pub two_e_7 : ℕ
two_e_7 = 0x3e8ad7f29abcaf48

-- 0.0000001, 0.000000001
abbrev pub one_e_7 : ℕ
one_e_7 = 0x3e7ad7f29abcaf48

abbrev pub one_e_9 : ℕ
one_e_9 = 0x3e112e0be826d695

-- 0.0005
abbrev pub five_e_4 : ℕ
five_e_4 = 0x3f40624dd2f1a9fc

-- ---- jobs

-- [14.1] the square: (0,0), (1,0), (1,1), (0,1)
unfoldable pub square : List (List ℕ)
square = whole_points ((0 ∷ 0 ∷ []) ∷ (1 ∷ 0 ∷ []) ∷ (1 ∷ 1 ∷ []) ∷ (0 ∷ 1 ∷ []) ∷ [])

-- [14.1] its eight symmetries
unfoldable pub square_rows : List (List ℕ)
square_rows =
    (0 ∷ 1 ∷ 2 ∷ 3 ∷ []) ∷ (1 ∷ 2 ∷ 3 ∷ 0 ∷ []) ∷ (2 ∷ 3 ∷ 0 ∷ 1 ∷ []) ∷ (3 ∷ 0 ∷ 1 ∷ 2 ∷ [])
    ∷ (0 ∷ 3 ∷ 2 ∷ 1 ∷ []) ∷ (1 ∷ 0 ∷ 3 ∷ 2 ∷ []) ∷ (2 ∷ 1 ∷ 0 ∷ 3 ∷ []) ∷ (3 ∷ 2 ∷ 1 ∷ 0 ∷ []) ∷ []

-- the square with the identity row only, and with its symmetries, under the given terms
unfoldable pub square_job : Terms → Bytes
square_job terms = job_with terms 2 square (identity 4)

unfoldable pub symmetric_job : Terms → Bytes
symmetric_job terms = job_with terms 2 square square_rows

-- (0,0,0), (1,0,0), (0,1,0), (0,0,1)
unfoldable pub corner_job : Terms → Bytes
corner_job terms =
    job_with terms 3 (whole_points ((0 ∷ 0 ∷ 0 ∷ []) ∷ (1 ∷ 0 ∷ 0 ∷ []) ∷ (0 ∷ 1 ∷ 0 ∷ []) ∷ (0 ∷ 0 ∷ 1 ∷ []) ∷ []))
    (identity 4)

-- two points at rank 2, with the given rows
unfoldable pub segment_job : List (List ℕ) → Bytes
segment_job rows = job_with (plain 2) 1 (whole_points ((0 ∷ []) ∷ (1 ∷ []) ∷ [])) rows

-- three points of the plane
unfoldable pub three_points : List (List ℕ) → Bytes
three_points points = job_with (plain 3) 2 points (identity 3)

-- ---- what is expected of a call

-- the answer's numbers, or a refusal
pub data Expected : Type 0 where
  gives : List ℕ → Expected
  refuses : ℕ → Expected

pub record Case : Type 0 where
  pub job : Bytes
  pub workspace : ℕ
  pub room : ℕ
  pub expected : Expected

-- the return code and the whole answer buffer that are expected
unfoldable pub expected_code : Expected → ℤ
expected_code (gives words) = pos (4 * length words)
expected_code (refuses number) = neg_ℤ (pos number)

unfoldable pub expected_buffer : ℕ → Expected → Bytes
expected_buffer room (gives words) = flat_map (bytes_of 4) words ++ replicate (room - 4 * length words) 0
expected_buffer room (refuses number) = replicate room 0

unfoldable pub same_code : ℤ → ℤ → Bool
same_code (pos a) (pos b) = eqb a b
same_code (pos a) (negsuc b) = false
same_code (negsuc a) (pos b) = false
same_code (negsuc a) (negsuc b) = eqb a b

-- whether a case comes out as expected, from bytes to bytes
unfoldable pub passes_within : Bounds → Case → Bool
passes_within bounds c =
    let result = outcome_within bounds c.job c.workspace c.room in
    same_code (code_of result) (expected_code c.expected)
    && compare_is_eq (compare_nats (buffer_of c.room result) (expected_buffer c.room c.expected))

unfoldable pub passes : Case → Bool
passes = passes_within bounds1

-- a job that is answered: with the least workspace of its rank, and three bytes more than it needs
unfoldable pub answers : ℕ → Bytes → List ℕ → Case
answers workspace job words = record {
  job = job;
  workspace = workspace;
  room = 4 * length words + 3;
  expected = gives words;
}

-- a job that is refused, whatever the room
unfoldable pub refused_with : ℕ → ℕ → Bytes → Case
refused_with number workspace job = record { job = job; workspace = workspace; room = 8; expected = refuses number }

-- `open_examples` on an `unfolding` line opens the words of this file
unfoldable pub open_examples : Unit {0}
unfolding bytes_of whole whole_points vector_bytes unit_vectors job_with plain with_budget with_min with_max
    with_entry_limit within_tolerance under_rule identity square square_rows square_job symmetric_job corner_job
    segment_job three_points expected_code expected_buffer same_code passes_within passes answers refused_with
open_examples = tt
