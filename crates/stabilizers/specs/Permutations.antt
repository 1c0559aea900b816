-- Rows that are permutations of n vertices: they send vertices to vertices, no two to one. Leans on the rows in
-- bytes, and on the permutations of the laws.
use Rattle.std.specs.Prelude.{◌≡◌, List, [], ℕ, ◌+◌, ◌*◌, ◌≤◌, ◌<◌, T, length, get_or}
use Rattle.std.proofs.Common.{sym, subst, ◌∙◌, arith}
use Rattle.definitions.specs.Lists.{all_of}
use Rattle.definitions.specs.Orbits.{image}
use Rattle.definitions.specs.Job.{is_permutation}
use Rattle.laws.specs.Lists.{Mem, all_of_holds, member_at}
use Rattle.laws.specs.Parts.{get_d_rows, length_rows}
use Rattle.laws.specs.Ranges.{Permutes, permutes_at, permutes_apart}
use Rattle.laws.specs.Tests.{same_nats_holds}
use Rattle.rows.specs.Rows.{rows_in, row_at, RowsFit, image_at_holds}

-- row i of a region is a permutation of n vertices
pub record Permutation (n i : ℕ) (s : List ℕ) : Type 0 where
  pub n_fits : n ≤ 20
  pub long : 32 * i + 32 ≤ length s
  pub below : (v : ℕ) → v < n → get_or s (32 * i + v) 0 < n
  pub one : (u w : ℕ) → u < n → w < n → get_or s (32 * i + u) 0 ≡ get_or s (32 * i + w) 0 → u ≡ w

-- and so are the first m rows
pub record Permutations (n m : ℕ) (s : List ℕ) : Type 0 where
  pub n_fits : n ≤ 20
  pub long : 32 * m ≤ length s
  pub each : (i : ℕ) → i < m → Permutation n i s

pub rows_fit_holds : {n m : ℕ} {s : List ℕ} → Permutations n m s → RowsFit n m s
rows_fit_holds p = record {
  n_fits = p.n_fits;
  m_fits = p.long;
  images = λ v h. record { below = λ i l. (p.each i l).below v h };
}

-- ---- what the definition's test says

passes_permutes : (n : ℕ) (row : List ℕ) → T (is_permutation n row) → Permutes n row
unfolding is_permutation
passes_permutes n row t = record { sorted = same_nats_holds _ _ t }

permutation_of : (n i : ℕ) (s : List ℕ) → n ≤ 20 → 32 * i + 32 ≤ length s → Permutes n (row_at n i s)
    → Permutation n i s
unfolding row_at image
permutation_of n i s small room p =
    let at = image_at_holds n i s in
    record {
      n_fits = small;
      long = room;
      below = λ v h. subst (λ (k : ℕ). k < n) (at v h) (permutes_at n (row_at n i s) p v h);
      one = λ u w h k e. permutes_apart n (row_at n i s) p u w h k (at u h ∙ (e ∙ sym (at w k)));
    }

-- rows that all pass it
pub permutations_of : (n m : ℕ) (s : List ℕ) → n ≤ 20 → 32 * m ≤ length s
    → T (all_of (is_permutation n) (rows_in n m s)) → Permutations n m s
unfolding rows_in row_at
permutations_of n m s small room t = record {
  n_fits = small;
  long = room;
  each = λ i h.
      let among : Mem (row_at n i s) (rows_in n m s) = subst (λ (r : List ℕ). Mem r (rows_in n m s))
      (get_d_rows 32 n m s i h) (member_at (rows_in n m s) i [] (omega (arith, length_rows 32 n m s))) in
      permutation_of n i s small (omega arith)
      (passes_permutes n (row_at n i s) (all_of_holds (is_permutation n) (rows_in n m s) t (row_at n i s) among));
}
