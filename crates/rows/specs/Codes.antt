-- Codes of pairs: a pair is its code, and the codes of a pair's images are read where the rows lie. Leans on Rows.
use Rattle.std.specs.Prelude.{◌≡◌, refl, List, [], ◌∷◌, ◌++◌, map, ℕ, ◌+◌, ◌*◌, ◌/◌, ◌%◌, ◌<◌, min, max, T, eqb, get_or}
use Rattle.std.specs.Prelude.{take, drop}
use Rattle.std.proofs.Common.{sym, ap, subst, ◌∙◌, arith, eqb→eq}
use Rattle.std.proofs.Math.Dec.{eqb_refl, compare_is_eq}
use Rattle.definitions.specs.Lists.{Pair, compare_pair, any_of, member_nat, member_pair}
use Rattle.definitions.specs.Orbits.{Row, image, pair_image}
use Rattle.laws.specs.Bools.{same_test}
use Rattle.laws.specs.Lists.{Mem, here, there, at_member}
use Rattle.laws.specs.Orders.{pairs, is_eq}
use Rattle.laws.specs.Parts.{rows, get_d_rows, length_rows, map_rows_more}
use Rattle.rows.specs.Rows.{rows_in, RowsFit, image_at_holds}

-- ---- a pair as a number

-- a pair's place among the marks
unfoldable pub pair_code : Pair → ℕ
pair_code p = 20 * p.0 + p.1

unfoldable pub pair_of : ℕ → Pair
pair_of code = (code / 20, code % 20)

-- [5.4] the codes of a pair's images under the rows, the smaller vertex first
unfoldable pub pair_codes : List Row → Pair → List ℕ
pair_codes rows p = map (λ (row : Row). pair_code (pair_image p row)) rows

-- ---- a pair is its code

pub pair_of_code : (v w : ℕ) → w < 20 → pair_of (20 * v + w) ≡ (v, w)
unfolding pair_of
pair_of_code v w h =
    let a : (20 * v + w) / 20 ≡ v = omega arith in
    let b : (20 * v + w) % 20 ≡ w = omega arith in
    λ i. (a i, b i)

pair_same : (p q : Pair) → p.0 ≡ q.0 → p.1 ≡ q.1 → p ≡ q
pair_same p q e f = λ i. (e i, f i)

pub same_code_holds : (p q : Pair) → p.1 < 20 → q.1 < 20
    → compare_is_eq (compare_pair p q) ≡ eqb (pair_code p) (pair_code q)
unfolding pair_code
same_code_holds p q a b =
    same_test (compare_is_eq (compare_pair p q)) (eqb (pair_code p) (pair_code q))
    (λ t. let e = pairs.equal p q (is_eq (compare_pair p q) t) in
    subst (λ (x : Pair). T (eqb (pair_code p) (pair_code x))) e (eqb_refl (pair_code p)))
    (λ t.
    let e : 20 * p.0 + p.1 ≡ 20 * q.0 + q.1 = eqb→eq (pair_code p) (pair_code q) t in
    let same = pair_same p q (omega arith) (omega arith) in
    subst (λ (x : Pair). T (compare_is_eq (compare_pair p x))) same (rw (pairs.self p) tt))

pub code_small : (q : Pair) → q.0 < 20 → q.1 < 20 → pair_code q < 400
unfolding pair_code
code_small q h k = omega arith

pub member_codes : (p : Pair) (ps : List Pair) → p.1 < 20 → ((q : Pair) → Mem q ps → q.1 < 20)
    → member_nat (pair_code p) (map pair_code ps) ≡ member_pair p ps
unfolding member_nat member_pair any_of
member_codes p [] a h = refl
member_codes p (q ∷ ps) a h =
    rw (same_code_holds p q a (h q (here refl)), member_codes p ps a (λ x k. h x (there k))) refl

-- ---- images

pub map_codes : (rows : List Row) (p : Pair) → pair_codes rows p ≡ map pair_code (map (pair_image p) rows)
unfolding pair_codes
map_codes [] p = refl
map_codes (row ∷ rows) p = ap (λ (l : List ℕ). pair_code (pair_image p row) ∷ l) (map_codes rows p)

pub code_at : (n i : ℕ) (s : List ℕ) (v w : ℕ) → v < n → w < n
    → pair_code (pair_image (v, w) (take n (drop (32 * i) s))) ≡ 20 * min (get_or s (32 * i + v) 0)
    (get_or s (32 * i + w) 0) + max (get_or s (32 * i + v) 0) (get_or s (32 * i + w) 0)
unfolding pair_code pair_image
code_at n i s v w h k = rw (image_at_holds n i s v h, image_at_holds n i s w k) refl

pub codes_more : (m v w : ℕ) (s : List ℕ) → v < 32 → w < 32
    → pair_codes (rows_in 32 (m + 1) s) (v, w)
    ≡ pair_codes (rows_in 32 m s) (v, w) ++ ((20 * min (get_or s (32 * m + v) 0) (get_or s (32 * m + w) 0)
    + max (get_or s (32 * m + v) 0) (get_or s (32 * m + w) 0)) ∷ [])
unfolding pair_codes rows_in
codes_more m v w s h k =
    map_rows_more (λ (row : Row). pair_code (pair_image (v, w) row)) 32 32 m s
    ∙ ap (λ (u : ℕ). map (λ (row : Row). pair_code (pair_image (v, w) row)) (rows_in 32 m s) ++ (u ∷ []))
    (code_at 32 m s v w h k)

-- rows that fit send vertices to vertices
pub row_below : {n m : ℕ} {s : List ℕ} → RowsFit n m s → (row : Row) → Mem row (rows_in n m s) → (v : ℕ) → v < n
    → image row v < n
unfolding rows_in
row_below {n} {m} {s} fits row h v below =
    let r = at_member row (rows 32 n m s) [] h in
    let len = length_rows 32 n m s in
    let k : r.0 < m = omega (arith, r.1) in
    let is : take n (drop (32 * r.0) s) ≡ row = sym (get_d_rows 32 n m s r.0 k) ∙ r.2 in
    let e : get_or s (32 * r.0 + v) 0 ≡ image row v = sym (image_at_holds n r.0 s v below)
    ∙ ap (λ (l : Row). image l v) is in
    omega (arith, (fits.images v below).below r.0 k)
