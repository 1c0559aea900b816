-- The words of an answer of rank 4 from what stands in the workspace and the facets' images in order, said of bytes
-- alone. Leans on EdgesHeld and Images.
use Rattle.std.specs.Prelude.{Bool, false, ℕ, ◌+◌, ◌*◌, ◌-◌, ◌%◌, ◌/◌, ◌≤◌, ◌<◌, length, drop, replicate}
use mathlib.Core.List.{List, ◌∷◌, ◌++◌, map, flat_map}
use Rattle.definitions.specs.Job.{counted, compound_words}
use Rattle.definitions.specs.Figures.{compounds_from}
use Rattle.words.specs.Words.{words}
use Rattle.pool.specs.Pool.{count}
use Rattle.orbits.specs.Workspace.{orbits_in}
use Rattle.rows.specs.Marks.{marked}
use Rattle.rows.specs.Rows.{rows_in}
use Rattle.labels.specs.Labels.{labels_in}
use Rattle.shapes.specs.FigureWords.{point_words, edge_words, body_words}
use Rattle.layout.specs.Keeps.{edges_part}
use Rattle.layout.specs.Leaves.{lists_left, both_left}
use Rattle.layout.specs.declared.Level.{Level}
use Rattle.edge_marks.specs.Summaries.{summary_marked}
use Rattle.edge_marks.specs.Marks.{marks_of, codes_marked, edges_marked}
use Rattle.facet_images.specs.declared.Choice.TheVariants.{Left}
use Rattle.facet_images.specs.Images.{image_marks, IdsBelow, chosen_from}
use Rattle.entry_lists.specs.Counts.{count_words}
use Rattle.possible_facets.specs.Possible.{polygon_words, size_in, possible_from}
use Rattle.writing.specs.EdgesHeld.{owners_in, edges_in, both_words}

-- a facet as its edges' numbers among the marked ones
unfoldable pub facet_from : List Bool → List Bool → List ℕ
facet_from marks image =
    length (codes_marked image 400) ∷ map (λ (code : ℕ). length (codes_marked marks code)) (codes_marked image 400)

-- the image with an id
unfoldable pub image_of : List ℕ → List ℕ → ℕ → List Bool
image_of edges rows id = image_marks edges rows (id % 1024) (id % 131072 / 1024)

unfoldable pub polyhedron_from : ℕ → List Bool → List Bool → List ℕ → List ℕ → List ℕ → List ℕ
polyhedron_from n marks inside ids edges rows =
    let chosen = chosen_from inside Left ids in
    5 ∷ 1 ∷ 0 ∷ n ∷ point_words n
    ++ (length (codes_marked marks 400) ∷ edge_words (edges_marked marks)
    ++ (length chosen ∷ flat_map (λ (id : ℕ). facet_from marks (image_of edges rows id)) chosen
    ++ body_words (length chosen)))

-- the ids fit their area, and are of facets and rows
pub record ImagesHeld (m : ℕ) (level : Level) (s ids : List ℕ) (many : ℕ) : Type 0 where
  pub room : 4 * many ≤ length ids
  pub few : many < 4294967296
  pub below : IdsBelow (count (edges_part level.layout s)) m (words 4 ids many)

module _ (n m : ℕ) (rows : List ℕ) (level : Level) (s ids : List ℕ) where
  -- the marks of the edges of an entry, and its facets
  abbrev pub lines_of : List ℕ → List Bool
  lines_of numbers = marks_of (rows_in 32 m rows) (edges_in level s) numbers

  abbrev pub inside_of : List ℕ → List Bool
  inside_of numbers = marked (replicate 1024 false) numbers

  unfoldable pub solid_from : List ℕ → List ℕ
  solid_from numbers = polyhedron_from n (lines_of numbers) (inside_of numbers) ids (edges_part level.layout s) rows

  unfoldable pub solid_entry_from : List ℕ × List ℕ → List ℕ
  solid_entry_from both = both_words (owners_in level s) both ++ solid_from both.0

  unfoldable pub solid_summary_from : List ℕ → List ℕ
  solid_summary_from numbers = summary_marked n (lines_of numbers) (length (chosen_from (inside_of numbers) Left ids))

  unfoldable pub solid_answer_from : ℕ → ℕ → List ℕ
  solid_answer_from budget left =
      (budget - left)
      ∷ count_words (orbits_in s level.layout.orbits)
      ++ counted solid_entry_from (both_left level s)
      ++ possible_from (λ (orbit : ℕ). polygon_words (size_in n s orbit)) level.layout.orbits 0 (owners_in level s)
      (edges_in level s)
      ++ counted compound_words (compounds_from 0 (labels_in (level.bytes + 2048) level.count (drop level.lists s)))
      ++ flat_map solid_summary_from (lists_left level s)
