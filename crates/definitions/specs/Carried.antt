-- What the words of Symmetry say of small jobs, evaluated: rows one after another; rows that are closed under
-- composition and rows that are not; ranks that a row keeps and ranks that it does not; that the promise [13.12] is
-- kept for the square, denies an entry that is not carried wherever it stands, and could not be made of rows that
-- are not closed. Leans on Symmetry.
use Rattle.std.specs.Prelude.{◌≡◌, refl, Bool, not, ◌&&◌, ℕ, T, replicate}
use Rattle.std.proofs.Common.{sym, subst, T_not}
use mathlib.Core.List.{List, [], ◌∷◌, flat_map, Memᴰ}
use Rattle.std.proofs.Math.Dec.{compare_is_eq}
use Rattle.definitions.specs.Lists.{compare_nats, all_of}
use Rattle.definitions.specs.Orbits.{Row, image}
use Rattle.definitions.specs.Figures.{Elements, Figure, compare_figures}
use Rattle.definitions.specs.Recursion.{Entry, move_sorted}
use Rattle.definitions.specs.Job.{Bytes, read_job, same_nats}
use Rattle.definitions.specs.Demands.{Accepted}
use Rattle.definitions.specs.Symmetry.{composed, closed_rows, Carries, RanksKept, CarriedByAll, Symmetric}
use Rattle.definitions.specs.Open.{open_all}
use Rattle.definitions.specs.Examples.{open_examples, bytes_of, job_with, plain, whole_points, identity, square_rows}
use Rattle.definitions.specs.Examples.{symmetric_job}
use Rattle.definitions.specs.RuledOut.{entries_after, entries_with, entries_of_job}

-- ---- rows

-- 0 goes to 1, 1 to 2, 2 to 0
unfoldable pub turn : Row
turn = 1 ∷ 2 ∷ 0 ∷ []

-- 0 and 1 are exchanged
unfoldable pub swap : Row
swap = 1 ∷ 0 ∷ 2 ∷ []

-- ---- a row and a figure

-- `Carries` as a test
unfoldable pub is_carried : Row → Figure → Bool
is_carried row figure = compare_is_eq (compare_figures (move_sorted (image row) figure) figure)

-- ---- ranks that a row keeps, and ranks that it does not

-- the edges 01 and 12 with their body
unfoldable pub two_edges : List Elements
two_edges = ((0 ∷ 1 ∷ []) ∷ (1 ∷ 2 ∷ []) ∷ []) ∷ ((0 ∷ 1 ∷ []) ∷ []) ∷ []

-- the six edges on four points; the polygon 012, which has the edges 01, 02 and 12; the body
unfoldable pub one_polygon : List Elements
one_polygon =
    ((0 ∷ 1 ∷ []) ∷ (0 ∷ 2 ∷ []) ∷ (0 ∷ 3 ∷ []) ∷ (1 ∷ 2 ∷ []) ∷ (1 ∷ 3 ∷ []) ∷ (2 ∷ 3 ∷ []) ∷ [])
    ∷ ((0 ∷ 1 ∷ 3 ∷ []) ∷ []) ∷ ((0 ∷ []) ∷ []) ∷ []

-- ---- the square with its eight symmetries

unfoldable pub symmetric_square : Bytes
symmetric_square = symmetric_job (plain 3)

-- every row carries every entry's figure, as a test
unfoldable pub all_carried : List Row → List Entry → Bool
all_carried rows entries = all_of (λ (e : Entry). all_of (λ (row : Row). is_carried row e.figure) rows) entries

-- an entry whose figure is not carried: the triangle 012
unfoldable pub triangle : Entry
triangle = record {
  list = (0, 0) ∷ [];
  before = (0, 0) ∷ [];
  figure =
      ([] ∷ []) ∷ replicate 4 (0 ∷ []) ∷ ((0 ∷ 1 ∷ []) ∷ (0 ∷ 2 ∷ []) ∷ (1 ∷ 2 ∷ []) ∷ []) ∷ ((0 ∷ 1 ∷ 2 ∷ []) ∷ [])
      ∷ [];
}

-- ---- rows that are not closed

-- (0,0), (0,1), (2,2) with the identity and the turn
unfoldable pub turned_job : Bytes
turned_job =
    job_with (plain 3) 2 (whole_points ((0 ∷ 0 ∷ []) ∷ (0 ∷ 1 ∷ []) ∷ (2 ∷ 2 ∷ []) ∷ []))
    ((0 ∷ 1 ∷ 2 ∷ []) ∷ turn ∷ [])

unfoldable pub turned_answer : List ℕ
turned_answer =
    -- examined; orbits and their counts
    3 ∷ 2 ∷ 2 ∷ 1 ∷
    -- entries
    1 ∷
    1 ∷ 0 ∷ 0 ∷ 1 ∷ 0 ∷ 0 ∷ 4 ∷ 1 ∷ 0 ∷ 3 ∷ 1 ∷ 0 ∷ 1 ∷ 0 ∷ 1 ∷ 0 ∷ 2 ∷ 2 ∷ 0 ∷ 1 ∷ 2 ∷ 1 ∷ 2 ∷ 1 ∷ 2 ∷ 0 ∷ 1 ∷
    -- possible facets of each orbit
    1 ∷ 3 ∷ 1 ∷ 0 ∷ 2 ∷ 1 ∷ 0 ∷ 1 ∷ 0 ∷ 1 ∷ 2 ∷ 0 ∷ 1 ∷
    1 ∷ 3 ∷ 1 ∷ 0 ∷ 2 ∷ 1 ∷ 0 ∷ 1 ∷ 0 ∷ 1 ∷ 2 ∷ 0 ∷ 2 ∷
    -- compounds
    0 ∷
    -- summaries
    3 ∷ 2 ∷ 2 ∷ []

-- its one entry has the edges 01 and 12
unfoldable pub path : Entry
path = record {
  list = (0, 0) ∷ [];
  before = (0, 0) ∷ [];
  figure = ([] ∷ []) ∷ replicate 3 (0 ∷ []) ∷ two_edges;
}
