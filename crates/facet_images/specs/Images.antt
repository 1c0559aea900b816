-- The images of facets as ids in order: facet x's image under a row is x + 1,024 × row, and 131,072 more where it
-- equals the image before it. Of the images of some facets each is written once, and an edge as its number among the
-- figure's edges. Leans on Marks.
use Rattle.std.specs.Prelude.{◌≡◌, Bool, true, false, cond, ◌&&◌, List, [], ◌∷◌, map, ℕ, ◌*◌, ◌/◌, ◌%◌, ◌≤◌, ◌<◌, leb}
use Rattle.std.specs.Prelude.{length, get_or, drop, replicate}
use Rattle.rows.specs.Marks.{marked}
use Rattle.rows.specs.Rows.{rows_in}
use Rattle.order.specs.Areas.{list_at}
use Rattle.edge_marks.specs.Marks.{image_codes, codes_marked}
use Rattle.facet_images.specs.declared.Choice.{Choice}
use Rattle.facet_images.specs.declared.Choice.TheVariants.{Left, Chosen, Repeated}

-- a table of the marked edges' numbers
pub record NumbersBelow (numbers : List ℕ) : Type 0 where
  pub below : (code : ℕ) → code < 400 → get_or numbers code 0 ≤ 400

pub record NumbersOf (marks : List Bool) (numbers : List ℕ) : Type 0 where
  pub at : (code : ℕ) → code < 400 → get_or numbers code 0 ≡ length (codes_marked marks code)
  pub small : NumbersBelow numbers

-- the edges of the image of facet x under a row
unfoldable pub image_marks : List ℕ → List ℕ → ℕ → ℕ → List Bool
image_marks edges rows x row =
    marked (replicate 400 false) (image_codes (rows_in 32 1 (drop (32 * row) rows)) (list_at 1024 edges x))

unfoldable pub facet_words : List Bool → List ℕ → List ℕ
facet_words image numbers =
    length (codes_marked image 400) ∷ map (λ (code : ℕ). get_or numbers code 0) (codes_marked image 400)

unfoldable pub id_words : List ℕ → List ℕ → List ℕ → ℕ → List ℕ
id_words edges rows numbers id = facet_words (image_marks edges rows (id % 1024) (id % 131072 / 1024)) numbers

-- every id is of a facet and a row
pub record IdsBelow (facets m : ℕ) (ids : List ℕ) : Type 0 where
  pub facet : (i : ℕ) → i < length ids → get_or ids i 0 % 1024 < facets
  pub row : (i : ℕ) → i < length ids → get_or ids i 0 % 131072 / 1024 < m

-- ---- which images are written

-- an image is wanted: it, or one that equals it, is written
abbrev pub is_wanted : Choice → Bool
is_wanted Left = false
is_wanted Chosen = true
is_wanted Repeated = true

abbrev pub is_chosen : Choice → Bool
is_chosen Left = false
is_chosen Chosen = true
is_chosen Repeated = false

unfoldable pub next_choice : List Bool → Choice → ℕ → Choice
next_choice inside before id =
    cond (leb 131072 id && is_wanted before) Repeated (cond (get_or inside (id % 1024) false) Chosen Left)

unfoldable pub chosen_from : List Bool → Choice → List ℕ → List ℕ
chosen_from inside before [] = []
chosen_from inside before (id ∷ ids) =
    let choice = next_choice inside before id in
    let later = chosen_from inside choice ids in
    cond (is_chosen choice) (id ∷ later) later
