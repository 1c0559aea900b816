-- What stands in the workspace when an answer is written, said of its bytes alone: what the writing functions ask,
-- and the words of an answer of rank 3 in those terms. Written says that this is what a call leaves, and that the
-- words are the definition's. Leans on Facets and Marks, and on what a call leaves.
use mathlib.Core.List.{List, ◌∷◌, ◌++◌, flat_map}
use Rattle.std.specs.Prelude.{ℕ, ◌+◌, ◌*◌, ◌-◌, ◌≤◌, length, drop}
use Rattle.definitions.specs.Job.{counted, figure_words, compound_words}
use Rattle.definitions.specs.Orbits.{Row}
use Rattle.definitions.specs.Figures.{compounds_from}
use Rattle.words.specs.Words.{words}
use Rattle.pool.specs.Pool.{count, closed_lists, Sound}
use Rattle.orbits.specs.Workspace.{orbits_in}
use Rattle.order.specs.Areas.{HoldsOrder}
use Rattle.labels.specs.Labels.{labels_in}
use Rattle.order.specs.Numbers.{AllBelow}
use Rattle.shapes.specs.EdgeSets.{polygon}
use Rattle.layout.specs.Keeps.{LayoutFits, owners_part, edges_part}
use Rattle.layout.specs.Leaves.{lists_left, both_left, EmittedHeld}
use Rattle.layout.specs.declared.Level.{Level}
use Rattle.possible_facets.specs.Facets.{OwnersBelow, list_words}
use Rattle.edge_marks.specs.Summaries.{summary_marked}
use Rattle.edge_marks.specs.Marks.{EdgesFit, marks_of, codes_marked, edges_marked}
use Rattle.entry_lists.specs.Counts.{count_words}
use Rattle.possible_facets.specs.Possible.{edge_figure_words, possible_from}

-- the orbit of each facet, and the codes of each facet's edges
abbrev pub owners_in : Level → List ℕ → List ℕ
owners_in level s = words 2 (owners_part level.layout s) level.layout.facets

abbrev pub edges_in : Level → List ℕ → List (List ℕ)
edges_in level s = closed_lists 2 1024 (edges_part level.layout s)

-- the split lists and the emitted ones, and the orbits of their facets
pub record ListsHeld (level : Level) (s : List ℕ) : Type 0 where
  pub fits : LayoutFits level.layout (length s)
  pub few_facets : level.layout.facets ≤ 1024
  pub owners : OwnersBelow 256 (owners_in level s)
  pub area : HoldsOrder 1024 level.bytes level.count (drop level.lists s)
  pub few_entries : level.count ≤ 1024
  pub room : level.lists + (level.bytes + 2048 + 4 * level.count) ≤ length s
  pub numbers : AllBelow level.layout.facets (lists_left level s)
  pub emitted : EmittedHeld level s

-- and the orbits, and the edges of the facets
pub record PartsHeld (level : Level) (s : List ℕ) : Type 0 where
  pub listed : ListsHeld level s
  pub few_orbits : level.layout.orbits ≤ 256
  pub edges : Sound 2 1024 (edges_part level.layout s)
  pub each : level.layout.facets ≤ count (edges_part level.layout s)

-- and what the rows do to those edges
pub record EdgesHeld (m : ℕ) (rows : List ℕ) (level : Level) (s : List ℕ) : Type 0 where
  pub listed : ListsHeld level s
  pub few_orbits : level.layout.orbits ≤ 256
  pub rows_fit : 32 * m ≤ length rows
  pub edges : EdgesFit m rows (edges_part level.layout s)
  pub each : level.layout.facets ≤ count (edges_part level.layout s)

-- ---- the words of an answer of rank 3

-- both lists of an entry: split, and before splitting
unfoldable pub both_words : List ℕ → List ℕ × List ℕ → List ℕ
both_words owners both = list_words owners both.0 ++ list_words owners both.1

-- an entry: both lists, and a figure from the split one
unfoldable pub figured : List ℕ → (List ℕ → List ℕ) → List ℕ × List ℕ → List ℕ
figured owners figure both = both_words owners both ++ figure both.0

-- the polygon of all row images of a list's edges
unfoldable pub polygon_from : ℕ → List Row → List (List ℕ) → List ℕ → List ℕ
polygon_from n rows edges numbers = figure_words (polygon n (edges_marked (marks_of rows edges numbers)))

unfoldable pub entry_from : ℕ → List Row → List ℕ → List (List ℕ) → List ℕ × List ℕ → List ℕ
entry_from n rows owners edges both =
    both_words owners both ++ figure_words (polygon n (edges_marked (marks_of rows edges both.0)))

unfoldable pub summary_from : ℕ → List Row → List (List ℕ) → List ℕ → List ℕ
summary_from n rows edges numbers =
    let marks = marks_of rows edges numbers in
    summary_marked n marks (length (codes_marked marks 400))

-- an answer's parts, where a figure and a summary are written of each entry's split list, and a figure of each
-- facet's edges
unfoldable pub parts_from : (List ℕ → List ℕ) → (List ℕ → List ℕ) → (ℕ → List ℕ → List ℕ) → Level → List ℕ → ℕ → ℕ
    → List ℕ
parts_from figure summary facet level s budget left =
    (budget - left)
    ∷ count_words (orbits_in s level.layout.orbits)
    ++ counted (figured (owners_in level s) figure) (both_left level s)
    ++ possible_from facet level.layout.orbits 0 (owners_in level s) (edges_in level s)
    ++ counted compound_words (compounds_from 0 (labels_in (level.bytes + 2048) level.count (drop level.lists s)))
    ++ flat_map summary (lists_left level s)

unfoldable pub answer_from : ℕ → List Row → Level → List ℕ → ℕ → ℕ → List ℕ
answer_from n rows level s budget left =
    (budget - left)
    ∷ count_words (orbits_in s level.layout.orbits)
    ++ counted (entry_from n rows (owners_in level s) (edges_in level s)) (both_left level s)
    ++ possible_from (λ (orbit : ℕ). edge_figure_words) level.layout.orbits 0 (owners_in level s) (edges_in level s)
    ++ counted compound_words (compounds_from 0 (labels_in (level.bytes + 2048) level.count (drop level.lists s)))
    ++ flat_map (summary_from n rows (edges_in level s)) (lists_left level s)
