-- Theorems on the definitions of specs/Codes.
use Rattle.std.specs.Prelude.{◌≡◌, refl, Bool, true, List, map, ℕ, ◌+◌, ◌*◌, ◌≤◌, ◌<◌, min, max, get_or, set}
use Rattle.std.proofs.Common.{sym, ap, ◌∙◌, arith}
use Rattle.definitions.specs.Lists.{Pair}
use Rattle.definitions.specs.Orbits.{Row, image, pair_image}
use Rattle.laws.specs.Lists.{Mem, of_map}
use Rattle.laws.specs.Parts.{rows}
use Rattle.rows.specs.Rows.{rows_in, RowsFit, same_images}
use Rattle.rows.specs.Marks.{marked, marked_more}
use Rattle.rows.specs.Codes.{pair_code, pair_codes, code_at, row_below, codes_more}

-- ---- images

pub codes_wide : (n m v w : ℕ) (s : List ℕ) → v < n → w < n → n ≤ 20
    → pair_codes (rows_in 32 m s) (v, w) ≡ pair_codes (rows_in n m s) (v, w)
unfolding pair_codes
codes_wide n m v w s h k l =
    same_images (λ (row : Row). pair_code (pair_image (v, w) row))
    (λ (row : Row). pair_code (pair_image (v, w) row)) 32 n m s
    (λ i _. code_at 32 i s v w (omega arith) (omega arith) ∙ sym (code_at n i s v w h k))

pub image_small : {n m : ℕ} {s : List ℕ} → RowsFit n m s → (p q : Pair) → p.0 < n → p.1 < n
    → Mem q (map (pair_image p) (rows_in n m s)) → q.1 < 20
unfolding pair_image
image_small {n} {m} {s} fits p q a b h =
    let r = of_map (pair_image p) q (rows_in n m s) h in
    let e : q.1 ≡ max (image r.0 p.0) (image r.0 p.1) = ap (λ (x : Pair). x.1) r.2 in
    omega (arith, row_below fits r.0 r.1 p.0 a, row_below fits r.0 r.1 p.1 b, fits.n_fits)

-- ---- the marks of a pair's images, row by row

pub codes_none : (marks : List Bool) (p : Pair) (s : List ℕ) → marks ≡ marked marks (pair_codes (rows_in 32 0 s) p)
unfolding marked pair_codes rows_in rows
codes_none marks p s = refl

-- and of one row more
pub codes_next : (m v w at : ℕ) (s : List ℕ) (marks : List Bool) → v < 32 → w < 32
    → at ≡ 20 * min (get_or s (32 * m + v) 0) (get_or s (32 * m + w) 0)
    + max (get_or s (32 * m + v) 0) (get_or s (32 * m + w) 0)
    → set (marked marks (pair_codes (rows_in 32 m s) (v, w))) at true
    ≡ marked marks (pair_codes (rows_in 32 (m + 1) s) (v, w))
codes_next m v w at s marks h k e =
    rw (codes_more m v w s h k, ← e) (sym (marked_more marks (pair_codes (rows_in 32 m s) (v, w)) at))
