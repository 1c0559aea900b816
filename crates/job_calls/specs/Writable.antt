-- What a call above rank 2 leaves can be written: the rows, the edges of its facets and its entries stand as the
-- writing functions ask, and at rank 4 there is room for the images of its facets behind the entries. Leans on what a
-- call keeps and leaves, and on the laws of writing and of the images' order.
use Rattle.std.specs.Prelude.{◌≡◌, List, map, ℕ, suc, ◌+◌, ◌*◌, ◌-◌, ◌≤◌, length, take, drop}
use Rattle.std.proofs.Common.{sym, ap, subst, arith}
use Rattle.definitions.specs.Vectors.{Vec}
use Rattle.definitions.specs.Subspace.{Subspace}
use Rattle.definitions.specs.Recursion.{Rules}
use Rattle.definitions.specs.Faceting.{Way, faceting}
use Rattle.definitions.specs.Job.{answer_words}
use Rattle.pool.specs.Pool.{count}
use Rattle.rows.specs.Rows.{rows_in, RowsFit}
use Rattle.shapes.specs.Answered.{TakesSome, preparation_with}
use Rattle.shapes.specs.Calls.{Given}
use Rattle.shapes.specs.Kept.{Kept, kept_of}
use Rattle.shapes.specs.KeptSizes.{KeptSized}
use Rattle.shapes.proofs.KeptSizes.{kept_sized}
use Rattle.laws.specs.Lists.{Mem}
use Rattle.layout.specs.Keeps.{edges_part}
use Rattle.layout.specs.Leaves.{Leaves, answer_left}
use Rattle.layout.specs.declared.Level.{Level}
use Rattle.layout.specs.Capacities.{images_from, listed_bytes}
use Rattle.words.specs.Words.{words}
use Rattle.words.specs.Lent.{lent_tail}
use Rattle.words.specs.declared.Writer.{Writer}
use Rattle.words.specs.Wrote.{Writes}
use Rattle.writing.specs.EdgesHeld.{EdgesHeld}
use Rattle.writing.specs.Written.{EdgesKept, standing, WroteAnswer}
use Rattle.polyhedra.specs.Solids.{ImagesHeld}
use Rattle.polyhedra.specs.SolidWritten.{WroteSolidAnswer}
use Rattle.polygons.specs.Images.{EdgeLists}
use Rattle.polygons.specs.Drawn.{FewEdges, many_facets}
use Rattle.polygons.specs.Arranges.{images_room, order_asks, standing_after, images_after, answer_written}
use Rattle.polygons.specs.Orders.{Ordered}
use Rattle.polygons.specs.declared.Images.{Images}
use Rattle.inner_answers.specs.AnswerMatches.{AnswerHeld}
use Rattle.job_calls.specs.Spent.{call_spends_with}

pub record Writable (more n m : ℕ) (rows : List ℕ) (kept : List Kept) (level : Level) (budget rest : ℕ)
    (s : List ℕ) : Type 0 where
  pub rows_fit_holds : RowsFit n m rows
  pub few_rows : m ≤ 120
  pub edges : EdgesKept n kept
  pub few_edges_holds : FewEdges kept
  pub leaves : Leaves more n (rows_in n m rows) kept level s
  pub spent : rest ≤ budget
  pub ends : level.lists + (level.bytes + listed_bytes) ≤ images_from
  pub room : more ≡ 1 → 4194304 ≤ length s

-- ---- rank 4: where the images stand

-- behind the entries, their order and their labels, for 1,024 entries
abbrev pub images_at : Level → ℕ
images_at level = level.lists + (level.bytes + listed_bytes)

module _ {n m : ℕ} {rows : List ℕ} {kept : List Kept} {level : Level} {budget rest : ℕ} {s : List ℕ}
    (w : Writable 1 n m rows kept level budget rest s) where
  pub images_fit : images_at level + 8 * (count (edges_part level.layout s) * m) ≤ length s
  images_fit =
      let f = many_facets w.rows_fit_holds w.edges w.leaves.keeps w.few_rows in
      images_room (count (edges_part level.layout s)) m (images_at level) (length s)
      (omega (arith, f, w.leaves.keeps.few_facets)) w.few_rows w.ends (w.room (omega arith))

  pub images_behind : level.lists + (level.bytes + 2048 + 4 * level.count) ≤ images_at level
  images_behind = omega (arith, w.leaves.few_entries)

  -- what `order_images` is asked
  pub images_asked : ((k : ℕ) × EdgeLists k m (edges_part level.layout s) rows)
      × (level.layout.edges ≤ level.layout.labels) × (level.layout.labels ≤ images_at level)
      × (images_at level + 8 * (count (edges_part level.layout s) * m) ≤ length s)
  images_asked =
      order_asks w.rows_fit_holds w.edges w.leaves.keeps w.few_rows (images_at level) w.few_edges_holds
      (omega (arith, w.leaves.behind)) images_fit

  module _ {r : Images} {t : List ℕ}
      (o : Ordered level.layout.edges level.layout.labels (images_at level) m s rows r t) where
    -- the rest of the workspace from the images on, as it is lent
    abbrev pub images_in : List ℕ
    images_in = take (length t - r.at) (drop r.at t)

    pub images_inside : r.at ≤ length t
    images_inside =
        let at : r.at ≡ images_at level = ap (λ (i : Images). i.at) o.is in
        omega (arith, images_fit, o.long)

    -- what `write_solid_answer` is asked
    pub solid_asked : EdgesHeld m rows level t × ImagesHeld m level t images_in r.count × (n ≤ 20) × (rest ≤ budget)
    solid_asked = (
      standing_after w.rows_fit_holds w.edges w.few_rows w.leaves images_behind images_fit o,
      subst (λ (l : List ℕ). ImagesHeld m level t l r.count) (sym (lent_tail r.at t))
          (images_after w.rows_fit_holds w.edges w.few_rows w.leaves images_behind images_fit o),
      omega (arith, w.rows_fit_holds.n_fits),
      w.spent,
    )

    -- and what it writes is the answer of [12.3]
    pub solid_wrote : {before after : Writer}
        → WroteSolidAnswer n m rows level t (words 4 images_in r.count) budget rest before after
        → Writes before after (answer_words budget (answer_left 1 n (rows_in n m rows) kept level s rest))
    solid_wrote {before} {after} h =
        answer_written w.rows_fit_holds w.edges w.few_rows w.leaves images_behind images_fit o
        (subst (λ (l : List ℕ).
        WroteSolidAnswer n m rows level t (words 4 l r.count) budget rest before after) (lent_tail r.at t) h)

-- ---- rank 3

module _ {n m : ℕ} {rows : List ℕ} {kept : List Kept} {level : Level} {budget rest : ℕ} {s : List ℕ}
    (w : Writable 0 n m rows kept level budget rest s) where
  -- what `write_answer` is asked, and what it writes
  pub polygons_asked : EdgesHeld m rows level s × (n ≤ 20) × (rest ≤ budget)
  polygons_asked = (standing w.rows_fit_holds w.edges w.leaves, omega (arith, w.rows_fit_holds.n_fits), w.spent)

  pub polygons_wrote : {before after : Writer} → WroteAnswer n m rows level s budget rest before after
      → Writes before after (answer_words budget (answer_left 0 n (rows_in n m rows) kept level s rest))
  polygons_wrote h = h.wrote kept (record { rows = w.rows_fit_holds; edges = w.edges; leaves = w.leaves })

-- ---- what a call leaves is so

module _ (way : Way) (takes : TakesSome way) (more : ℕ) (rules : Rules) (plane : Subspace) (points : List Vec) (m : ℕ)
    (rows : List ℕ) (budget : ℕ) (level : Level) (rest : ℕ) (s : List ℕ)
    (stands : AnswerHeld way more rules plane points (rows_in (length points) m rows) budget level rest s) where
  -- what it keeps
  abbrev pub kept_by : List Kept
  kept_by = map kept_of stands.before.inner

  pub call_writable : more ≤ 1 → Given points (rows_in (length points) m rows) → RowsFit (length points) m rows
      → m ≤ 120 → (more ≡ 1 → 4194304 ≤ length s)
      → Writable more (length points) m rows kept_by level budget rest s
  unfolding answer_left
  call_writable few given fits few_rows room = record {
    rows_fit_holds = fits;
    few_rows = few_rows;
    edges = record { each = λ k i. (sized k i).edges_many; proper = λ k i l j. ((sized k i).edges_set l j).proper };
    few_edges_holds = record { few = λ k i. (sized k i).few_edges_holds fits.n_fits };
    leaves = stands.leaves;
    spent =
        call_spends_with way (suc more) rules plane points (rows_in (length points) m rows) budget
        (answer_left more (length points) (rows_in (length points) m rows) kept_by level s rest) stands.is;
    ends = stands.ends;
    room = room;
  }
    where
      sized : (k : Kept) → Mem k kept_by → KeptSized more (length points) (rows_in (length points) m rows) k
      sized =
          kept_sized more rules plane points (rows_in (length points) m rows) stands.before few given
          (preparation_with way takes more rules (faceting more rules) plane points
          (rows_in (length points) m rows) budget stands.before stands.prepared)
