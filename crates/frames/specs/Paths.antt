-- The frames of a path in bytes: what they stand for, with the totals and the orbits in use, and the emitted lists.
-- Leans on the tables' layout and on Pool.
use Rattle.std.specs.Prelude.{◌≡◌, Option, List, [], ◌∷◌, ◌++◌, map, ℕ, zero, suc, ◌+◌, ◌-◌, ◌*◌, ◌≤◌, ◌<◌, T, length}
use Rattle.std.specs.Prelude.{get_or}
use Rattle.definitions.specs.Job.{number_at}
use Rattle.definitions.specs.Search.{Table, Facet, Item}
use Rattle.words.specs.Words.{put}
use Rattle.pool.specs.Pool.{Sound, count, used, closed_lists, opened, pushed}
use Rattle.facets.specs.Frames.{Frame, unused, mark_of}
use Rattle.facets.specs.Sums.{sum_at}
use Rattle.facets.specs.declared.Areas.{Areas}
use Rattle.facets.specs.Layout.{Inputs, Totals, Uses, facet_of, frames_part, KindIn, numbers, ridge_of, code_of}
use Rattle.facets.specs.Layout.{totals_part, used_part}

-- ---- the frames: 16 bytes for each depth. The place (4 bytes), the lowest place (4), the mark (2), the kind (2),
-- the facet taken (2)

unfoldable pub place_at : List ℕ → ℕ → ℕ
place_at p k = number_at p (16 * k) 4

unfoldable pub low_at : List ℕ → ℕ → ℕ
low_at p k = number_at p (16 * k + 4) 4

unfoldable pub mark_at : List ℕ → ℕ → ℕ
mark_at p k = number_at p (16 * k + 8) 2

unfoldable pub kind_at : List ℕ → ℕ → Option ℕ
kind_at p k = ridge_of (number_at p (16 * k + 10) 2)

unfoldable pub taken_at : List ℕ → ℕ → ℕ
taken_at p k = number_at p (16 * k + 12) 2

-- the first k facets taken
unfoldable pub path : List ℕ → ℕ → List ℕ
path p zero = []
path p (suc k) = path p k ++ (taken_at p k ∷ [])

unfoldable pub list_to : Table → List ℕ → ℕ → List Facet
list_to t p k = map (facet_of t) (path p k)

unfoldable pub frame_at : Table → List ℕ → ℕ → Frame
frame_at t p k = record {
  list = list_to t p k;
  mark = mark_at p k;
  ridge = kind_at p k;
  low = low_at p k;
  place = place_at p k;
}

unfoldable pub frames_to : Table → List ℕ → ℕ → List Frame
frames_to t p zero = []
frames_to t p (suc k) = frame_at t p k ∷ frames_to t p k

-- d frames of lists that are not over, of which the first m have taken a facet whose orbit was not in use
pub record Path (t : Table) (a : Areas) (p : List ℕ) (d m : ℕ) : Type 0 where
  pub kinds : (k : ℕ) → k < d → KindIn a (kind_at p k)
  pub places : (k : ℕ) → k < d → place_at p k ≤ length (numbers t (kind_at p k))
  pub taken : (k : ℕ) → k < m → taken_at p k < a.facets
  pub fresh : (k : ℕ) → k < m → T (unused (list_to t p k) (facet_of t (taken_at p k)))
  pub light : (k : ℕ) → k < d → (ridge : ℕ) → ridge < a.ridges → sum_at t (list_to t p k) ridge ≤ 2
  pub inside : m ≤ d
  pub near : d ≤ m + 1

-- d frames, and the first m facets counted
pub record PathHeld (t : Table) (a : Areas) (s : List ℕ) (d m : ℕ) : Type 0 where
  pub inputs : Inputs t a s
  pub frames : Path t a (frames_part a s) d m
  pub totals : Totals t a (list_to t (frames_part a s) m) (totals_part a s)
  pub uses : Uses a (list_to t (frames_part a s) m) (used_part a s)

-- the mark of the list of k + 1 facets
unfoldable pub mark_after : Table → List ℕ → ℕ → ℕ
mark_after t p k = mark_of (kind_at p k) (mark_at p k) (facet_of t (taken_at p k))

-- the list of the first k facets with its mark
unfoldable pub item_at : Table → List ℕ → ℕ → Item
item_at t p k = record { list = list_to t p k; mark = mark_after t p (k - 1) }

-- a place and a facet taken, and a whole frame
unfoldable pub with_place : List ℕ → ℕ → ℕ → ℕ → List ℕ
with_place p k place x = put 2 (put 4 p (16 * k) place) (16 * k + 12) x

unfoldable pub with_frame : List ℕ → ℕ → ℕ → ℕ → ℕ → Option ℕ → List ℕ
with_frame p k place low mark kind =
    put 2 (put 2 (put 4 (put 4 p (16 * k) place) (16 * k + 4) low) (16 * k + 8) mark) (16 * k + 10) (code_of kind)

-- ---- the emitted lists

unfoldable pub emitted_in : Table → Areas → List ℕ → List (List Facet)
emitted_in t a l = map (map (facet_of t)) (closed_lists 2 a.bound l)

-- every item of every list is a facet's number
abbrev pub Numbered : ℕ → List (List ℕ) → Type 0
Numbered facets lists =
    (k i : ℕ) → k < length lists → i < length (get_or lists k []) → get_or (get_or lists k []) i 0 < facets

pub record Emitted (a : Areas) (l : List ℕ) : Type 0 where
  pub sound : Sound 2 a.bound l
  pub none : opened 2 a.bound l ≡ []
  pub numbered : Numbered a.facets (closed_lists 2 a.bound l)
  pub room : used l ≤ count l * a.orbits

-- items pushed one after another
unfoldable pub pushed_all : ℕ → List ℕ → List ℕ → List ℕ
pushed_all most l [] = l
pushed_all most l (v ∷ vs) = pushed_all most (pushed 2 most l v) vs
