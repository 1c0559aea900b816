-- Rows that compose carry every figure of a call to itself, at every rank from 3: a row sends the set of all row
-- images of some facets to itself, so the figure of that set too. What is asked of the rows: two of them one after
-- the other are one, and every row is such a one with any given row second. Leans on NestedCalls.
use Rattle.std.specs.Prelude.{◌≡◌, ℕ, ◌<◌}
use mathlib.Core.List.{List}
use Rattle.definitions.specs.Orbits.{Row, image}
use Rattle.laws.specs.Lists.{Mem}

-- on n points: first q, then r
pub record Composing (n : ℕ) (rows : List Row) : Type 0 where
  pub after : (r q : Row) → Mem r rows → Mem q rows
      → (s : Row) × Mem s rows × ((v : ℕ) → v < n → image s v ≡ image r (image q v))
  pub onto : (r s : Row) → Mem r rows → Mem s rows
      → (q : Row) × Mem q rows × ((v : ℕ) → v < n → image s v ≡ image r (image q v))
