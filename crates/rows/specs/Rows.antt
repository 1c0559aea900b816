-- The rows of a call in bytes: row i's image of v stands at 32 · i + v, so that every row begins at a known place.
-- Leans on the rows of the crate of laws.
use Rattle.std.specs.Prelude.{◌≡◌, refl, List, [], ◌∷◌, ◌++◌, map, ℕ, zero, suc, ◌+◌, ◌*◌, ◌≤◌, ◌<◌, length, get_or}
use Rattle.std.specs.Prelude.{take, drop}
use Rattle.std.proofs.Common.{sym, ap, ◌∙◌, arith, get_or-take, get_or-drop, add-one}
use Rattle.std.proofs.lemmas.List.Edits.{sets}
use Rattle.std.proofs.Math.Seq.{length-sets}
use Rattle.definitions.specs.Orbits.{Row, image}
use Rattle.laws.specs.Parts.{rows, map_rows_more}

-- the first m rows of a region, each a permutation of n vertices
unfoldable pub rows_in : ℕ → ℕ → List ℕ → List Row
rows_in n m s = rows 32 n m s

-- rows written at a stride of 32, from row k on
unfoldable pub written_rows : List Row → ℕ → List ℕ → List ℕ
written_rows [] k out = out
written_rows (row ∷ rows) k out = written_rows rows (suc k) (sets out (32 * k) row)

-- the images of v under the first m rows are below a bound
pub record ImagesBelow (bound v m : ℕ) (s : List ℕ) : Type 0 where
  pub below : (i : ℕ) → i < m → get_or s (32 * i + v) 0 < bound

-- m rows of n vertices fit a region, and send vertices to vertices
pub record RowsFit (n m : ℕ) (s : List ℕ) : Type 0 where
  pub n_fits : n ≤ 20
  pub m_fits : 32 * m ≤ length s
  pub images : (v : ℕ) → v < n → ImagesBelow n v m s

-- ---- a row's images, read where they lie

pub image_at_holds : (n i : ℕ) (s : List ℕ) (v : ℕ) → v < n
    → image (take n (drop (32 * i) s)) v ≡ get_or s (32 * i + v) 0
unfolding image
image_at_holds n i s v h = get_or-take n (drop (32 * i) s) v 0 h ∙ get_or-drop (32 * i) s v 0

same_none : {B : Type 0} (f g : Row → B) (n k : ℕ) (s : List ℕ) → map f (rows 32 n 0 s) ≡ map g (rows 32 k 0 s)
unfolding rows
same_none f g n k s = refl

-- A width that takes v in shows the same image of it.
pub same_images : {B : Type 0} (f g : Row → B) (n k m : ℕ) (s : List ℕ)
    → ((i : ℕ) → i < m → f (take n (drop (32 * i) s)) ≡ g (take k (drop (32 * i) s)))
    → map f (rows_in n m s) ≡ map g (rows_in k m s)
unfolding rows_in
same_images f g n k zero s h = same_none f g n k s
same_images f g n k (suc m) s h =
    let before = same_images f g n k m s (λ i l. h i (omega arith)) in
    ap (λ (j : ℕ). map f (rows 32 n j s)) (sym (add-one m))
    ∙ (map_rows_more f 32 n m s
    ∙ (rw (before, h m (omega arith)) refl
    ∙ (sym (map_rows_more g 32 k m s) ∙ ap (λ (j : ℕ). map g (rows 32 k j s)) (add-one m))))

-- row i of a region
unfoldable pub row_at : ℕ → ℕ → List ℕ → Row
row_at n i s = take n (drop (32 * i) s)

-- ---- rows written one behind another

pub written_more : (rows : List Row) (row : Row) (k : ℕ) (out : List ℕ)
    → written_rows (rows ++ (row ∷ [])) k out ≡ sets (written_rows rows k out) (32 * (k + length rows)) row
unfolding written_rows
written_more [] row k out = let e : k ≡ k + 0 = omega arith in ap (λ (j : ℕ). sets out (32 * j) row) e
written_more (first ∷ rows) row k out = let e : suc k + length rows ≡ k + suc (length rows) = omega arith in
    written_more rows row (suc k) (sets out (32 * k) first)
    ∙ ap (λ (j : ℕ). sets (written_rows rows (suc k) (sets out (32 * k) first)) (32 * j) row) e

pub written_length : (rows : List Row) (k : ℕ) (out : List ℕ) → length (written_rows rows k out) ≡ length out
unfolding written_rows
written_length [] k out = refl
written_length (row ∷ rows) k out = written_length rows (suc k) (sets out (32 * k) row) ∙ length-sets out (32 * k) row
