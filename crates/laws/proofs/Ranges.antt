-- Theorems on the definitions of specs/Ranges.
use Rattle.std.specs.Prelude.{◌≡◌}
use Rattle.std.proofs.Math.Path.{refl}
use Rattle.std.proofs.Common.{◌∙◌}
use mathlib.Core.List.{List, [], ◌∷◌}
use Prim.Native.Nat.{ℕ, zero, suc, ◌+◌, ◌≤◌, ◌<◌, compare}
use native.Mathlib.Omega.{arith}
use Rattle.std.proofs.Math.ListN.{length}
use Rattle.definitions.specs.Lists.{sort_nats, count_from}
use Rattle.laws.specs.Lists.{Mem, here, there}
use Rattle.laws.specs.Orders.{nats, compare_lt}
use Rattle.laws.specs.Sorting.{of_sorted}
use Rattle.laws.specs.Ascending.{Distinct, Ascends, sorted_ascends, sorted_length}
use Rattle.laws.specs.Ranges.{Permutes, ascending_span}

-- ---- ascending numbers in a range

-- as many as the range has numbers: all of them
pub ascending_full : (a n : ℕ) (l : List ℕ) → Ascends compare l → ((x : ℕ) → Mem x l → (a ≤ x) × (x < a + n))
    → length l ≡ n → l ≡ count_from a n
unfolding count_from
ascending_full a zero [] h r e = refl
ascending_full a zero (x ∷ l) h r e = absurd (omega arith)
ascending_full a (suc n) [] h r e = absurd (omega arith)
ascending_full a (suc n) (x ∷ l) h r e =
    let p = (r x (here refl)).0 in
    let q = (r x (here refl)).1 in
    let above : (y : ℕ) → Mem y l
    → (suc x ≤ y) × (y < a + suc n) = λ y i. (compare_lt x y (h.0 y i), (r y (there i)).1) in
    let k = ascending_span (suc x) (a + suc n) l q h.1 above in
    let first : x ≡ a = omega arith in
    let rest = ascending_full (suc a) n l h.1
    (λ y i. let s = (above y i).0 in let t = (above y i).1 in (omega arith, omega arith)) (omega arith) in
    λ t. first t ∷ rest t

-- ---- permutations

module _ (n : ℕ) (row : List ℕ) where
  pub permutes_of : Distinct row → ((x : ℕ) → Mem x row → x < n) → length row ≡ n → Permutes n row
  unfolding sort_nats
  permutes_of d h e = record {
    sorted = ascending_full 0 n (sort_nats row) (sorted_ascends compare nats row d)
        (λ x i. let k = h x (of_sorted compare x row i) in (omega arith, omega arith))
        (sorted_length compare nats row ∙ e);
  }
