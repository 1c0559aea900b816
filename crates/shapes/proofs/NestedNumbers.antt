-- Theorems on the definitions of specs/NestedNumbers.
use Prim.Native.Nat.{ℕ, zero, suc, compare}
use Rattle.definitions.specs.Lists.{compare_pair}
use Rattle.laws.specs.Orders.{nats, pairs, lt_compare}
use Rattle.laws.specs.Places.{place_in, place_ascends, keeps_compare}
use Rattle.laws.specs.Subsets.{set_number_order}
use Rattle.shapes.specs.EdgeSets.{Proper}
use Rattle.shapes.specs.AllPairs.{all_pairs, in_all_pairs, all_pairs_ascend}
use Rattle.shapes.specs.NestedNumbers.{Numbering, polygon_number}

-- ---- edges

-- its place among all pairs of n points
pub edges_placed : (n : ℕ) → Numbering n zero (place_in compare_pair pairs (all_pairs n))
edges_placed n = record {
  keeps = keeps_compare compare_pair pairs compare nats (place_in compare_pair pairs (all_pairs n)) (Proper n)
      (λ d e p q h. lt_compare (place_in compare_pair pairs (all_pairs n) d)
      (place_in compare_pair pairs (all_pairs n) e) (place_ascends compare_pair pairs d d e (all_pairs n)
      (all_pairs_ascend n) (in_all_pairs n d p) (in_all_pairs n e q) h));
}

-- ---- sets of edges

pub polygons_numbered : (n : ℕ) → Numbering n (suc zero) (polygon_number n)
unfolding polygon_number
polygons_numbered n = record {
  keeps =
      λ x y h j. set_number_order compare_pair pairs (all_pairs n) (all_pairs_ascend n) x y h.0 j.0
      (λ e m. in_all_pairs n e (h.1 e m)) (λ e m. in_all_pairs n e (j.1 e m));
}
