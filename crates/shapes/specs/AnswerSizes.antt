-- The counts of an answer, at every rank: one for each orbit, each from 1 to the number of rows, and as many as there
-- are lists of possible facets. Leans on Calls and Sizes.
use Rattle.std.specs.Prelude.{◌≡◌, refl, Bool, true, false, cond, ℕ, ◌/◌, ◌≤◌, T, eqb, length, get_or}
use Rattle.std.proofs.Common.{sym, ap, ◌∙◌, subst, arith, eqb→eq}
use mathlib.Core.List.{List, [], ◌∷◌, Memᴰ}
use Rattle.std.proofs.lemmas.List.{length-map, length-replicate}
use Rattle.definitions.specs.Lists.{any_of, keep, count_from}
use Rattle.definitions.specs.Outcome.{answered}
use Rattle.definitions.specs.Vectors.{Vec}
use Rattle.definitions.specs.Subspace.{Subspace}
use Rattle.definitions.specs.Orbits.{Row, image}
use Rattle.definitions.specs.Recursion.{Rules, Answer, swapped_ends, separate_ends, edge_call, keeps_set, row_within}
use Rattle.definitions.specs.Recursion.{rows_within}
use Rattle.definitions.specs.Faceting.{faceting}
use Rattle.laws.specs.Bools.{true→holds}
use Rattle.laws.specs.Lists.{Mem, count_at, any_witness, keep_few}
use Rattle.shapes.specs.Answered.{answers_equal}
use Rattle.shapes.specs.LowRanks.{RankTwo}
use Rattle.shapes.specs.Sets.{Rows}
use Rattle.shapes.specs.Calls.{Given}
use Rattle.shapes.specs.Sizes.{Counted}

-- ---- orbits

-- rows that keep a set are some of the rows
pub within_few : (vertices : List ℕ) (rows : List Row) → length (rows_within vertices rows) ≤ length rows
unfolding rows_within
within_few vertices rows =
    let e = length-map (keep (keeps_set vertices) rows) (row_within vertices) in
    let k = keep_few (keeps_set vertices) rows in
    omega arith

-- ---- rank 2

-- a row that sends 0 to 1 is not the first
swapped_rows : (n : ℕ) (rows : List Row) → 2 ≤ n → Rows n rows → T (any_of (λ (row : Row). eqb 1 (image row 0)) rows)
    → 2 ≤ length rows
unfolding image
swapped_rows n rows two good t =
    let r = any_witness (λ (row : Row). eqb 1 (get_or row 0 0)) rows t in
    let many = ap length good.identity in
    let more = other r.0 (eqb→eq 1 (get_or r.0 0 0) r.2) good.others
    (subst (λ (l : List Row). Mem r.0 l) good.identity r.1) in
    omega arith
  where
    other : (row : Row) → 1 ≡ get_or row 0 0 → (others : List Row) → Mem row (count_from 0 n ∷ others)
        → 1 ≤ length others
    other row e others (Memᴰ.head q) =
        let a = ap (λ (l : Row). get_or l 0 0) q in
        let b = count_at 0 n 0 0 (omega arith) in
        absurd (omega arith)
    other row e [] (Memᴰ.tail m) = elim m [ ]
    other row e (x ∷ others) (Memᴰ.tail m) = omega arith

some_rows : (n : ℕ) (rows : List Row) → Rows n rows → 1 ≤ length rows
some_rows n rows good = let e = ap length good.identity in omega arith

pub two_counted : (rules : Rules) (plane : Subspace) (points : List Vec) (rows : List Row) (budget : ℕ) (a : Answer)
    → Given points rows → faceting 0 rules plane points rows budget ≡ answered a
    → (c : ℕ) → Mem c a.counts → Counted rows c
unfolding faceting edge_call swapped_ends separate_ends
two_counted rules plane points rows budget a given e =
    subst (λ (x : Answer). (c : ℕ) → Mem c x.counts → Counted rows c)
    (answers_equal (cond swaps (swapped_ends budget) (separate_ends budget)) a e) (go swaps refl)
  where
    swaps : Bool
    swaps = any_of (λ (row : Row). eqb 1 (image row 0)) rows

    one : Counted rows 1
    one = record { some_set = omega arith; few = some_rows (length points) rows given.rows_good }

    go : (b : Bool) → swaps ≡ b → (c : ℕ) → Mem c (cond b (swapped_ends budget) (separate_ends budget)).counts
        → Counted rows c
    go true q c (Memᴰ.head s) =
        subst (Counted rows) (sym s) (record {
          some_set = omega arith;
          few = swapped_rows (length points) rows given.two given.rows_good (true→holds q);
        })
    go true q c (Memᴰ.tail m) = elim m [ ]
    go false q c (Memᴰ.head s) = subst (Counted rows) (sym s) one
    go false q c (Memᴰ.tail (Memᴰ.head s)) = subst (Counted rows) (sym s) one
    go false q c (Memᴰ.tail (Memᴰ.tail m)) = elim m [ ]

-- a rank 2 answer has as many counts as ends
pub two_counts : (budget : ℕ) (a : Answer) (r : RankTwo budget a) → length a.counts ≡ r.ends
two_counts budget a r = ap length r.counts ∙ length-replicate r.ends (2 / r.ends)

-- ---- every rank

pub record AnswerCounted (rows : List Row) (a : Answer) : Type 0 where
  pub possible_many : length a.possible ≡ length a.counts
  pub counted : (c : ℕ) → Mem c a.counts → Counted rows c
