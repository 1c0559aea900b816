-- Job, refusals and answer: docs/SPECIFICATION.md, chapters 10 to 12. From the job's bytes and the two buffers'
-- lengths to the return value and the whole answer buffer. Leans on Faceting.
use Rattle.std.specs.Prelude.{Bool, true, false, cond, not, ◌&&◌, ℕ, ◌+◌, ◌-◌, ◌*◌, ◌/◌, ◌%◌, leb, ltb, eqb, ℤ, pos}
use Rattle.std.specs.Prelude.{neg_ℤ, length, get_or, take, drop, replicate, Float}
use mathlib.Core.List.{List, [], ◌∷◌, ◌++◌, map, flat_map}
use Rattle.std.specs.Prelude.{Option, Some, None}
use Rattle.std.proofs.Math.Dec.{compare_is_eq}
use Rattle.std.specs.Float.{nan, inf, fin, binary64}
use Rattle.std.specs.Float.Ieee.{of_bits, le}
use Rattle.definitions.specs.Lists.{compare_nats, any_of, all_of, keep, count_from, sort_nats, member_nat}
use Rattle.definitions.specs.Outcome.{Outcome, refused, answered, and_then, refuse_if}
use Rattle.definitions.specs.Vectors.{Vec, zero64}
use Rattle.definitions.specs.Subspace.{Subspace}
use Rattle.definitions.specs.Orbits.{Row}
use Rattle.definitions.specs.Figures.{Figure, Compound, rank_of}
use Rattle.definitions.specs.Search.{Facet}
use Rattle.definitions.specs.Recursion.{Bounds, Rules, Entry, Answer}
use Rattle.definitions.specs.Faceting.{faceting}

-- [10.1] bytes, each a number below 256
abbrev pub Bytes : Type 0
Bytes = List ℕ

-- ---- numbers in bytes

-- [10.1] the lowest byte first
unfoldable pub little : Bytes → ℕ
little [] = 0
little (b ∷ bs) = b + 256 * little bs

-- [10.1] the number in so many bytes from a place on
unfoldable pub number_at : Bytes → ℕ → ℕ → ℕ
number_at bytes at many = little (take many (drop at bytes))

-- [10.1] the f64 at a place
unfoldable pub float_at : Bytes → ℕ → Float
float_at bytes at = of_bits binary64 (number_at bytes at 8)

-- [10.1] so many f64 from a place on
unfoldable pub floats_at : Bytes → ℕ → ℕ → Vec
floats_at bytes at many = map (λ (i : ℕ). float_at bytes (at + 8 * i)) (count_from 0 many)

-- [10.1] so many vectors of d f64 from a place on
unfoldable pub vectors_at : Bytes → ℕ → ℕ → ℕ → List Vec
vectors_at bytes at d many = map (λ (i : ℕ). floats_at bytes (at + 8 * d * i) d) (count_from 0 many)

-- ---- the tolerance

-- [12.2] 1e-7, the tolerance of version 1
abbrev pub tolerance1 : Float
tolerance1 = of_bits binary64 0x3e7ad7f29abcaf48

-- [11.2] the least tolerance, 1e-9, and the greatest, 1e-3: the doubles nearest to them
abbrev pub least_tolerance : Float
least_tolerance = of_bits binary64 0x3e112e0be826d695

-- [11.2]
abbrev pub greatest_tolerance : Float
greatest_tolerance = of_bits binary64 0x3f50624dd2f1a9fc

-- ---- the job

-- [10.2] the job's fields, read where they would stand whether or not the job is long enough
pub record Job : Type 0 where
  pub version : ℕ
  pub rank : ℕ
  pub d : ℕ
  pub n : ℕ
  pub row_count : ℕ
  pub flags : ℕ
  pub shortest : Option Float
  pub longest : Option Float
  pub entry_limit : Option ℕ
  pub tolerance : Float
  pub rule : ℕ
  pub budget : ℕ
  pub offset : Vec
  pub basis : List Vec
  pub points : List Vec
  pub rows : List Row
  pub size : ℕ

-- [10.2] the flag bit of this weight is set
unfoldable pub flag_set : ℕ → ℕ → Bool
flag_set flags weight = eqb 1 (flags / weight % 2)

-- [10.2] a field that is flagged, or nothing
unfoldable pub present : {A : Type 0} → Bool → A → Option A
present true a = Some a
present false a = None

-- [10.2] each field behind the one before; `size` is where the last row ends. The tolerance is there from version 2
-- on, and is 1e-7 before; the rule is there from version 3 on, and is 1 before.
unfoldable pub read_job : Bytes → Job
read_job bytes =
    let version = number_at bytes 3 2 in
    let rank = get_or bytes 5 0 in
    let d = get_or bytes 6 0 in
    let n = get_or bytes 7 0 in
    let row_count = number_at bytes 8 2 in
    let flags = get_or bytes 10 0 in
    let hasMin = flag_set flags 1 in
    let hasMax = flag_set flags 2 in
    let hasLimit = flag_set flags 4 in
    let hasTolerance = leb 2 version in
    let hasRule = leb 3 version in
    let maxAt = 11 + cond hasMin 8 0 in
    let limitAt = maxAt + cond hasMax 8 0 in
    let toleranceAt = limitAt + cond hasLimit 4 0 in
    let ruleAt = toleranceAt + cond hasTolerance 8 0 in
    let budgetAt = ruleAt + cond hasRule 1 0 in
    let offsetAt = budgetAt + 4 in
    let basisAt = offsetAt + 8 * d in
    let pointsAt = basisAt + 8 * d * (rank - 1) in
    let rows_at = pointsAt + 8 * d * n in
    record {
      version = version;
      rank = rank;
      d = d;
      n = n;
      row_count = row_count;
      flags = flags;
      shortest = present hasMin (float_at bytes 11);
      longest = present hasMax (float_at bytes maxAt);
      entry_limit = present hasLimit (number_at bytes limitAt 4);
      tolerance = cond hasTolerance (float_at bytes toleranceAt) tolerance1;
      rule = cond hasRule (get_or bytes ruleAt 0) 1;
      budget = number_at bytes budgetAt 4;
      offset = floats_at bytes offsetAt d;
      basis = vectors_at bytes basisAt d (rank - 1);
      points = vectors_at bytes pointsAt d n;
      rows = map (λ (i : ℕ). take n (drop (rows_at + n * i) bytes)) (count_from 0 row_count);
      size = rows_at + n * row_count;
    }

-- ---- one job in another version

-- [10.2] where the fields that the flags name end
unfoldable pub flagged_end : ℕ → ℕ
flagged_end flags = 11 + cond (flag_set flags 1) 8 0 + cond (flag_set flags 2) 8 0 + cond (flag_set flags 4) 4 0

-- [10.3] a job with another version and with more bytes at a place behind its header
unfoldable pub in_version : ℕ → ℕ → Bytes → Bytes → Bytes
in_version version at more bytes =
    take 3 bytes ++ (version ∷ 0 ∷ []) ++ take (at - 5) (drop 5 bytes) ++ more ++ drop at bytes

-- [10.3] a job of version 1 as one of version 2: the bytes of a tolerance stand before its budget
unfoldable pub with_tolerance : Bytes → Bytes → Bytes
with_tolerance tolerance bytes = in_version 2 (flagged_end (get_or bytes 10 0)) tolerance bytes

-- [10.3] a job of version 2 as one of version 3: the byte of a rule stands behind its tolerance
unfoldable pub with_rule : ℕ → Bytes → Bytes
with_rule rule bytes = in_version 3 (flagged_end (get_or bytes 10 0) + 8) (rule ∷ []) bytes

-- ---- refusals

-- [11.1] from the lowest to the highest, both included
unfoldable pub between : ℕ → ℕ → ℕ → Bool
between lowest highest x = leb lowest x && leb x highest

-- [11.2] finite, and not beyond a whole number in size
unfoldable pub within : ℕ → Float → Bool
within most nan = false
within most (inf s) = false
within most (fin s m e) = le (fin false m e) (fin false most (pos 0))

-- [11.2] each component within
unfoldable pub all_within : ℕ → Vec → Bool
all_within most = all_of (within most)

-- [11.2] a min or max that is not there, or is from 0 to 131,072; −0 is not below 0
unfoldable pub limit_good : Option Float → Bool
limit_good None = true
limit_good (Some x) = within 131072 x && le zero64 x

-- [11.2] neither an infinity nor a NaN
unfoldable pub is_finite : Float → Bool
is_finite nan = false
is_finite (inf s) = false
is_finite (fin s m e) = true

-- [11.2] every f64 of the job is finite and, but for the tolerance, within its bound
unfoldable pub floats_good : Job → Bool
floats_good job =
    limit_good job.shortest && limit_good job.longest && is_finite job.tolerance
    && all_within 65536 job.offset && all_of (all_within 1) job.basis && all_of (all_within 65536) job.points

-- [11.2] from the least tolerance to the greatest, both included
unfoldable pub tolerance_good : Float → Bool
tolerance_good tolerance = le least_tolerance tolerance && le tolerance greatest_tolerance

-- [11.1] two lists of numbers are equal
unfoldable pub same_nats : List ℕ → List ℕ → Bool
same_nats a b = compare_is_eq (compare_nats a b)

-- [11.1] a row that is a permutation of n vertices
unfoldable pub is_permutation : ℕ → Row → Bool
is_permutation n row = same_nats (sort_nats row) (count_from 0 n)

-- [11.3] the least workspace of a rank
unfoldable pub workspace_for : ℕ → ℕ
workspace_for rank = cond (eqb rank 2) 0 (cond (eqb rank 3) 524288 4194304)

-- [11.1] a refusal's number, and whether the job passes it
pub record Test : Type 0 where
  pub number : ℕ
  pub passes : Unit {0} → Bool

-- [11.1] 1 to 8: the header, and the length that it states. Each line is what a job must pass.
unfoldable pub header_tests : Bytes → List Test
header_tests bytes =
    let job = read_job bytes in
    record { number = 1; passes = λ u. leb 11 (length bytes) && same_nats (take 3 bytes) (70 ∷ 67 ∷ 84 ∷ []) }
    ∷ record { number = 2; passes = λ u. between 1 3 job.version }
    ∷ record { number = 3; passes = λ u. between 2 4 job.rank }
    ∷ record { number = 4; passes = λ u. between (job.rank - 1) 4 job.d }
    ∷ record { number = 5; passes = λ u. between 2 20 job.n }
    ∷ record { number = 6; passes = λ u. between 1 120 job.row_count }
    ∷ record { number = 7; passes = λ u. ltb job.flags 8 }
    ∷ record { number = 8; passes = λ u. eqb (length bytes) job.size }
    ∷ []

-- [11.1] 9, 22, 25, 10 and 11: the floats, the tolerance, the rule and the rows
unfoldable pub value_tests : Bytes → List Test
value_tests bytes =
    let job = read_job bytes in
    record { number = 9; passes = λ u. floats_good job }
    ∷ record { number = 22; passes = λ u. tolerance_good job.tolerance }
    ∷ record { number = 25; passes = λ u. between 1 2 job.rule }
    ∷ record { number = 10; passes = λ u. same_nats (get_or job.rows 0 []) (count_from 0 job.n) }
    ∷ record { number = 11; passes = λ u. all_of (is_permutation job.n) job.rows }
    ∷ []

-- [11.1] the job's own tests, in their order: what its bytes alone decide
unfoldable pub job_tests : Bytes → List Test
job_tests bytes = header_tests bytes ++ value_tests bytes

-- [11.1] 12: the workspace that was lent
unfoldable pub workspace_tests : Bytes → ℕ → List Test
workspace_tests bytes workspace = record {
  number = 12;
  passes = λ u. leb (workspace_for (read_job bytes).rank) workspace;
} ∷ []

-- [11.1] all tests before the call, in their order
unfoldable pub tests : Bytes → ℕ → List Test
tests bytes workspace = job_tests bytes ++ workspace_tests bytes workspace

-- [11.1] the first test that is not passed refuses, and what follows is worked out only where all are passed
unfoldable pub pass_all : {A : Type 0} → List Test → (Unit {0} → Outcome A) → Outcome A
pass_all [] next = next tt
pass_all (t ∷ ts) next = refuse_if (not (t.passes tt)) t.number (λ u. pass_all ts next)

-- ---- the call

-- [12.2] [11.4] the bounds: one more is refused with 13, 15, 15
unfoldable pub bounds1 : Bounds
bounds1 = record { orbits = 256; facets = 1024; entries = 1024 }

-- [12.1] [6.2] what is alike in all calls of this job
unfoldable pub rules_of : Bounds → Job → Rules
rules_of bounds job = record {
  tolerance = job.tolerance;
  lengths = record { shortest = job.shortest; longest = job.longest };
  entry_limit = job.entry_limit;
  bounds = bounds;
  rule = job.rule;
}

-- [12.1] the plane of the outermost call
unfoldable pub plane_of : Job → Subspace
plane_of job = record { offset = job.offset; basis = job.basis }

-- [12.1] [11.4] the outermost call: an answer, or one of 13 to 16
unfoldable pub call_of : Bounds → Job → Outcome Answer
call_of bounds job = faceting (job.rank - 2) (rules_of bounds job) (plane_of job) job.points job.rows job.budget

-- ---- the answer's numbers

-- [12.3] how many, and then each
unfoldable pub counted : {A : Type 0} → (A → List ℕ) → List A → List ℕ
counted words items = length items ∷ flat_map words items

-- [12.4] ranks, elements and subs, each behind their number
unfoldable pub figure_words : Figure → List ℕ
figure_words = counted (counted (counted (λ (sub : ℕ). sub ∷ [])))

-- [12.3] of a list of facets: its length, then orbit and number of each
unfoldable pub facet_words : List Facet → List ℕ
facet_words = counted (λ (item : Facet). item.0 ∷ item.1 ∷ [])

-- [12.3] of an entry: its split list, the list before splitting, and its figure
unfoldable pub entry_words : Entry → List ℕ
entry_words e = facet_words e.list ++ facet_words e.before ++ figure_words e.figure

-- [12.3] of a compound: the entry and its two components
unfoldable pub compound_words : Compound → List ℕ
compound_words c = c.whole ∷ c.first ∷ c.second ∷ []

-- [12.5] the point is an end of some edge of the figure
unfoldable pub is_end : Figure → ℕ → Bool
is_end f v = any_of (member_nat v) (rank_of 2 f)

-- [12.5] the points of a figure that are an end of at least one of its edges, each once
unfoldable pub used_points : Figure → List ℕ
used_points f = keep (is_end f) (count_from 0 (length (rank_of 1 f)))

-- [12.5] of an entry: points used, edges, facets
unfoldable pub summary_words : Entry → List ℕ
summary_words e =
    let f = e.figure in
    length (used_points f) ∷ length (rank_of 2 f) ∷ length (rank_of (length f - 2) f) ∷ []

-- [12.3] All numbers of an answer. Lists examined, in all calls, are what was used of the budget.
unfoldable pub answer_words : ℕ → Answer → List ℕ
answer_words budget a =
    (budget - a.left)
    ∷ counted (λ (count : ℕ). count ∷ []) a.counts
    ++ counted entry_words a.entries
    ++ flat_map (counted figure_words) a.possible
    ++ counted compound_words a.compounds
    ++ flat_map summary_words a.entries

-- [12.6] a u32: the remainder by 2 ^ 32, the lowest byte first
unfoldable pub word_bytes : ℕ → Bytes
word_bytes w = w % 256 ∷ w / 256 % 256 ∷ w / 65536 % 256 ∷ w / 16777216 % 256 ∷ []

-- [12.6] the bytes of an answer
unfoldable pub answer_bytes : ℕ → Answer → Bytes
answer_bytes budget a = flat_map word_bytes (answer_words budget a)

-- ---- from bytes to bytes

-- [11.5] the answer, where there is room for it, or 17
unfoldable pub fitting : ℕ → Bytes → Outcome Bytes
fitting room bytes = refuse_if (ltb room (length bytes)) 17 (λ u. answered bytes)

-- [11.6] what a job gets by itself: its answer's bytes, however many, or a refusal that is not 17
unfoldable pub alone : Bytes → ℕ → Outcome Bytes
alone bytes workspace =
    let job = read_job bytes in
    pass_all (tests bytes workspace) (λ u.
    and_then (call_of bounds1 job) (λ (a : Answer). answered (answer_bytes job.budget a)))

-- [1.1] The answer's bytes, or the refusal, for a job with so many bytes of workspace and room for so many bytes of
-- answer; the bounds are passed in.
unfoldable pub outcome_within : Bounds → Bytes → ℕ → ℕ → Outcome Bytes
outcome_within bounds bytes workspace room =
    let job = read_job bytes in
    pass_all (tests bytes workspace) (λ u.
    and_then (call_of bounds job) (λ (a : Answer). fitting room (answer_bytes job.budget a)))

-- [1.1] the outcome at these bounds: everything that the register promises is said of it
unfoldable pub outcome : Bytes → ℕ → ℕ → Outcome Bytes
outcome = outcome_within bounds1

-- [12.7] the return value
unfoldable pub code_of : Outcome Bytes → ℤ
code_of (refused number) = neg_ℤ (pos number)
code_of (answered bytes) = pos (length bytes)

-- [12.7] the whole answer buffer
unfoldable pub buffer_of : ℕ → Outcome Bytes → Bytes
buffer_of room (refused number) = replicate room 0
buffer_of room (answered bytes) = bytes ++ replicate (room - length bytes) 0
