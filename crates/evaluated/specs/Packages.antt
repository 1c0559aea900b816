-- Packages evaluated: which orbits a package keeps where readings of chapter 17 would differ, and both sides of every
-- bound of refusal 18.
use Rattle.std.specs.Prelude.{Bool, not, ◌&&◌, ℕ, T, length, take, replicate}
use mathlib.Core.List.{List, [], ◌∷◌, ◌++◌, map, flat_map}
use Rattle.definitions.specs.Lists.{all_of, count_from}
use Rattle.definitions.specs.Orbits.{Row, Orbit}
use Rattle.definitions.specs.Faceting.{orbits_of}
use Rattle.definitions.specs.Job.{Bytes, read_job, bounds1, rules_of, plane_of, same_nats}
use Rattle.definitions.specs.Noble.{read_package, package_good, kept_by}
use Rattle.definitions.specs.Open.{open_all}
use Rattle.definitions.specs.Examples.{open_examples, bytes_of, identity, plain, whole_points, corner_job}
use Rattle.definitions.specs.Examples.{symmetric_job, three_points}

-- a package's bytes, from its fields
unfoldable pub package_bytes : ℕ → ℕ → List ℕ → List Row → Bytes
package_bytes size count globals rows =
    bytes_of 2 (length rows) ++ (size ∷ []) ++ bytes_of 2 count ++ globals ++ flat_map (λ (row : Row). row) rows

-- ---- kept orbits

-- the numbers, among all orbits of a job of rank 3 + more, of those that a package keeps: their first sets
unfoldable pub kept_of : ℕ → Bytes → Bytes → List (List ℕ)
kept_of more bytes extra =
    let job = read_job bytes in
    map (λ (o : Orbit). o.vertices) (kept_by (read_package job.n extra)
    (orbits_of more (rules_of bounds1 job) (plane_of job) job.points job.rows))

-- what is kept, as one list of numbers: each set behind its length
unfoldable pub flat_sets : List (List ℕ) → List ℕ
flat_sets = flat_map (λ (s : List ℕ). length s ∷ s)

unfoldable pub keeps : ℕ → Bytes → Bytes → List (List ℕ) → Bool
keeps more bytes extra sets = same_nats (flat_sets (kept_of more bytes extra)) (flat_sets sets)

-- (0,0), (1,0), (0,1)
unfoldable pub triangle : Bytes
triangle = three_points (whole_points ((0 ∷ 0 ∷ []) ∷ (1 ∷ 0 ∷ []) ∷ (0 ∷ 1 ∷ []) ∷ []))

unfoldable pub kept : List Bool
kept =
    -- Full rows 012 and 120, count 2. The side 01 opens a tally, and 02 a second one, whose image 01 is marked anew.
    -- 12 adds to the first, which ends at 2; but 01 is marked with the second, which ends at 1. So 12 alone is kept.
    keeps 0 triangle (package_bytes 3 2 (0 ∷ 1 ∷ 2 ∷ []) ((0 ∷ 1 ∷ 2 ∷ []) ∷ (1 ∷ 2 ∷ 0 ∷ []) ∷ [])) ((1 ∷ 2 ∷ []) ∷ [])
    -- the same with the row 201 too: one tally for all three sides
    ∷ keeps 0 triangle
    (package_bytes 3 2 (0 ∷ 1 ∷ 2 ∷ []) ((0 ∷ 1 ∷ 2 ∷ []) ∷ (1 ∷ 2 ∷ 0 ∷ []) ∷ (2 ∷ 0 ∷ 1 ∷ []) ∷ [])) []
    ∷ keeps 0 triangle
    (package_bytes 3 3 (0 ∷ 1 ∷ 2 ∷ []) ((0 ∷ 1 ∷ 2 ∷ []) ∷ (1 ∷ 2 ∷ 0 ∷ []) ∷ (2 ∷ 0 ∷ 1 ∷ []) ∷ []))
    ((0 ∷ 1 ∷ []) ∷ (0 ∷ 2 ∷ []) ∷ (1 ∷ 2 ∷ []) ∷ [])
    -- equal images count once: the identity twice leaves one image, and 2 / 1 is 2
    ∷ keeps 0 triangle (package_bytes 3 2 (0 ∷ 1 ∷ 2 ∷ []) (replicate 2 (0 ∷ 1 ∷ 2 ∷ [])))
    ((0 ∷ 1 ∷ []) ∷ (0 ∷ 2 ∷ []) ∷ (1 ∷ 2 ∷ []) ∷ [])
    -- the key is of global numbers: point 0 is 2 in the full set of four, and the row 0132 carries 2 to 3, which
    -- leaves the key 01 of the side 12 alone
    ∷ keeps 0 triangle (package_bytes 4 2 (2 ∷ 0 ∷ 1 ∷ []) ((0 ∷ 1 ∷ 2 ∷ 3 ∷ []) ∷ (0 ∷ 1 ∷ 3 ∷ 2 ∷ []) ∷ []))
    ((1 ∷ 2 ∷ []) ∷ [])
    -- corners of a cube, count 1: every plane has a tally of its own, which ends at 1
    ∷ keeps 1 (corner_job (plain 4)) (package_bytes 4 1 (0 ∷ 1 ∷ 2 ∷ 3 ∷ []) (identity 4)) []
    -- the square with its symmetries: an orbit counts as many sets as it has
    ∷ keeps 0 (symmetric_job (plain 3)) (package_bytes 4 1 (0 ∷ 1 ∷ 2 ∷ 3 ∷ []) (identity 4))
    ((0 ∷ 1 ∷ []) ∷ (0 ∷ 2 ∷ []) ∷ [])
    ∷ keeps 0 (symmetric_job (plain 3))
    (package_bytes 4 1 (0 ∷ 1 ∷ 2 ∷ 3 ∷ []) ((0 ∷ 1 ∷ 2 ∷ 3 ∷ []) ∷ (1 ∷ 2 ∷ 3 ∷ 0 ∷ []) ∷ [])) ((0 ∷ 1 ∷ []) ∷ [])
    ∷ []

pub kept_orbits_holds : T (all_of (λ (b : Bool). b) kept)
unfolding open_all open_examples package_bytes kept_of flat_sets keeps triangle kept
kept_orbits_holds = tt

-- ---- both sides of every bound of 18

-- two points, which are 0 and 1 of so many, with so many full rows, each the identity
unfoldable pub many : ℕ → ℕ → ℕ → Bytes
many size count rows = package_bytes size count (0 ∷ 1 ∷ []) (replicate rows (count_from 0 size))

unfoldable pub good : List Bytes
good =
    many 2 1 1 ∷ many 2 1 120 ∷ many 20 1 1 ∷ many 2 65535 1
    ∷ package_bytes 3 1 (2 ∷ 0 ∷ []) ((0 ∷ 1 ∷ 2 ∷ []) ∷ (2 ∷ 0 ∷ 1 ∷ []) ∷ []) ∷ []

unfoldable pub bad : List Bytes
bad =
    -- rows, points and count out of their ranges
    many 2 1 0 ∷ many 2 1 121 ∷ package_bytes 1 1 (0 ∷ 0 ∷ []) ((0 ∷ []) ∷ []) ∷ many 21 1 1 ∷ many 2 0 1
    -- a byte short, and one too many; less than the first fields
    ∷ take 8 (many 2 1 1) ∷ (many 2 1 1 ++ (0 ∷ [])) ∷ take 4 (many 2 1 1)
    -- a number that the full set does not have, and one twice
    ∷ package_bytes 2 1 (0 ∷ 2 ∷ []) (identity 2) ∷ package_bytes 2 1 (1 ∷ 1 ∷ []) (identity 2)
    -- a first row that is not the identity, and rows that are no permutations
    ∷ package_bytes 2 1 (0 ∷ 1 ∷ []) ((1 ∷ 0 ∷ []) ∷ [])
    ∷ package_bytes 2 1 (0 ∷ 1 ∷ []) ((0 ∷ 1 ∷ []) ∷ (0 ∷ 0 ∷ []) ∷ [])
    ∷ package_bytes 2 1 (0 ∷ 1 ∷ []) ((0 ∷ 1 ∷ []) ∷ (0 ∷ 2 ∷ []) ∷ [])
    ∷ []

pub packages : T (all_of (package_good 2) good && all_of (λ (p : Bytes). not (package_good 2 p)) bad)
unfolding open_all open_examples package_bytes many good bad
packages = tt

-- three points do not fit into a full set of two
pub too_many_points : T (not (package_good 3 (package_bytes 2 1 (0 ∷ 1 ∷ 0 ∷ []) (identity 2))))
unfolding open_all open_examples package_bytes
too_many_points = tt
