-- The promised symmetry: docs/SPECIFICATION.md, [13.9] to [13.12]. Statements only: what is proved of them, and
-- where, docs/READING.md says. Leans on Job.
use Rattle.std.specs.Prelude.{◌≡◌, Bool, ℕ, T, get_or, drop}
use mathlib.Core.List.{List, [], ◌∷◌, map, Memᴰ}
use Rattle.definitions.specs.Lists.{all_of, any_of, sort_nats}
use Rattle.definitions.specs.Orbits.{Row, image}
use Rattle.definitions.specs.Figures.{Elements, Figure, number_in}
use Rattle.definitions.specs.Recursion.{Entry, move_sorted}
use Rattle.definitions.specs.Job.{Bytes, read_job, same_nats, between}

-- ---- rows

-- [13.9] one row after another
unfoldable pub composed : Row → Row → Row
composed second first = map (image second) first

-- [13.9] any row after any row is a row
unfoldable pub closed_rows : List Row → Bool
closed_rows rows = all_of (λ (r : Row). all_of (λ (q : Row). any_of (same_nats (composed r q)) rows) rows) rows

-- ---- a row and a figure

-- [13.10] moved along the row and sorted, the figure is itself again
unfoldable pub Carries : Row → Figure → Type 0
Carries row figure = move_sorted (image row) figure ≡ figure

-- [13.11] the image of an element, whose subs go where `to` says
unfoldable pub element_image : (ℕ → ℕ) → List ℕ → List ℕ
element_image to e = sort_nats (map to e)

-- [13.11] the same elements, in whatever order
pub record SameElements (these those : Elements) : Type 0 where
  pub among : (e : List ℕ) → Memᴰ e these → Memᴰ e those
  pub back : (e : List ℕ) → Memᴰ e those → Memᴰ e these

-- [13.11] From the lowest of these ranks to the second last: the images of its elements are its elements. `to` says
-- where the numbers go that the lowest rank's elements name. The numbers of its own elements then go to those of
-- their images. The last rank has the body alone.
unfoldable pub RanksKept : (ℕ → ℕ) → List Elements → Type 0
RanksKept to [] = Unit {0}
RanksKept to (body ∷ []) = Unit {0}
RanksKept to (elements ∷ next ∷ more) =
    SameElements (map (element_image to) elements) elements
    × RanksKept (λ (i : ℕ). number_in elements (element_image to (get_or elements i []))) (next ∷ more)

-- ---- all rows and all entries

-- [13.12] Every row carries the figure of every entry to itself, and keeps its ranks from the edges up to the facets.
pub record CarriedByAll (rows : List Row) (entries : List Entry) : Type 0 where
  pub figures : (e : Entry) → Memᴰ e entries → (row : Row) → Memᴰ row rows → Carries row e.figure
  pub ranks : (e : Entry) → Memᴰ e entries → (row : Row) → Memᴰ row rows → RanksKept (image row) (drop 2 e.figure)

-- [13.12] of a job's bytes and any list of entries, for jobs of rank 3 or 4 whose rows are closed under composition
pub record Symmetric (bytes : Bytes) (entries : List Entry) : Type 0 where
  pub holds : T (between 3 4 (read_job bytes).rank) → T (closed_rows (read_job bytes).rows)
      → CarriedByAll (read_job bytes).rows entries
