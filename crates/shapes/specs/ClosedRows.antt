-- Rows closed under composition [13.9]. Rows are permutations and finitely many, so one of them after each of the
-- others gives them all: inverses are not asked for. Leans on the definitions and laws.
use Rattle.std.specs.Prelude.{◌≡◌, List, [], map, ℕ, ◌<◌, T}
use Rattle.std.proofs.Common.{sym, arith}
use Rattle.std.proofs.Math.Path.{subst}
use Rattle.std.proofs.lemmas.List.{length-map}
use Rattle.definitions.specs.Lists.{compare_nats, fresh, all_of, any_of}
use Rattle.definitions.specs.Orbits.{Row, image}
use Rattle.definitions.specs.Job.{same_nats}
use Rattle.definitions.specs.Symmetry.{composed, closed_rows}
use Rattle.laws.specs.Lists.{Mem, of_map, all_of_holds, any_witness, map_at_holds}
use Rattle.laws.specs.Orders.{nat_lists}
use Rattle.laws.specs.Ascending.{tested_equal, fresh_distinct, of_fresh, in_fresh}
use Rattle.laws.specs.Places.{map_apart, distinct_map}
use Rattle.laws.specs.Ranges.{Permutes, permutes_length, permutes_below, permutes_apart, distinct_full}

-- one row after another carries a vertex where the second carries its image under the first
pub composed_at : (n : ℕ) (r q : Row) → Permutes n q → (v : ℕ) → v < n → image r (image q v) ≡ image (composed r q) v
unfolding composed image
composed_at n r q h v below = let l = permutes_length n q h in sym (map_at_holds (image r) q v 0 0 (omega arith))

-- a row after different rows gives different rows
composed_apart : (n : ℕ) (r : Row) → Permutes n r → (q s : Row) → Permutes n q → Permutes n s
    → composed r q ≡ composed r s → q ≡ s
unfolding composed image
composed_apart n r p q s h k =
    map_apart (image r) (λ (v : ℕ). v < n) (permutes_apart n r p) q s (permutes_below n q h) (permutes_below n s k)

module _ (n : ℕ) (rows : List Row) (permute : (row : Row) → Mem row rows → Permutes n row)
    (closed : T (closed_rows rows)) where
  pub composed_row : (r q : Row) → Mem r rows → Mem q rows → Mem (composed r q) rows
  unfolding closed_rows same_nats
  composed_row r q i j =
      let after-r = all_of_holds
      (λ (r : Row). all_of (λ (q : Row). any_of (same_nats (composed r q)) rows) rows) rows closed r i in
      let found = any_witness (same_nats (composed r q)) rows
      (all_of_holds (λ (q : Row). any_of (same_nats (composed r q)) rows) rows after-r q j) in
      subst (λ (s : Row). Mem s rows) (sym (tested_equal compare_nats nat_lists (composed r q) found.0 found.2)) found.1

  -- every row is a given row after some row: the given row after each of the different rows is different, is a row,
  -- and they are as many
  pub composed_onto : (r s : Row) → Mem r rows → Mem s rows → (q : Row) × Mem q rows × (s ≡ composed r q)
  composed_onto r s i j =
      let once = fresh compare_nats [] rows in
      let from : (q : Row) → Mem q once → Mem q rows = λ q m. (of_fresh compare_nats nat_lists [] rows q m).0 in
      let into : (q : Row) → Mem q rows
      → Mem q once = λ q m. in_fresh compare_nats nat_lists [] rows q m (λ k. elim k [ ]) in
      let after = map (composed r) once in
      let different = distinct_map compare_nats nat_lists compare_nats nat_lists (composed r) (Permutes n)
      (composed_apart n r (permute r i)) once (λ q m. permute q (from q m))
      (fresh_distinct compare_nats nat_lists [] rows) in
      let within : (x : Row) → Mem x after → Mem x once = λ x m.
      let q = of_map (composed r) x once m in
      into x (subst (λ (y : Row). Mem y rows) (sym q.2) (composed_row r q.0 i (from q.0 q.1))) in
      let as_many = length-map once (composed r) in
      let found = of_map (composed r) s once (distinct_full after once different within (omega arith) s (into s j)) in
      (found.0, from found.0 found.1, found.2)
