-- Theorems on the definitions of specs/AllPairs.
use Rattle.std.specs.Prelude.{◌≡◌}
use mathlib.Core.List.{List}
use Prim.Native.Nat.{ℕ}
use Rattle.definitions.specs.Lists.{Pair, compare_pair, keep}
use Rattle.laws.specs.Lists.{Mem}
use Rattle.laws.specs.Orders.{pairs}
use Rattle.laws.specs.Ascending.{seen_among}
use Rattle.laws.specs.Ranges.{in_order_kept, ascending_kept}
use Rattle.shapes.specs.EdgeSets.{Proper, EdgeSet, edges_in_order}
use Rattle.shapes.specs.AllPairs.{all_pairs, all_pairs_ascend, in_all_pairs}

-- ---- edges and polygons

-- edges in order: the pairs among them, pair by pair
pub edges_read : (n : ℕ) (l : List Pair) → ((e : Pair) → Mem e l → Proper n e)
    → edges_in_order l ≡ keep (λ (e : Pair). seen_among compare_pair pairs e l) (all_pairs n)
edges_read n l h =
    in_order_kept compare_pair pairs l (all_pairs n) (all_pairs_ascend n) (λ e m. in_all_pairs n e (h e m))

pub edge_set_read : (n : ℕ) (l : List Pair) → EdgeSet n l
    → keep (λ (e : Pair). seen_among compare_pair pairs e l) (all_pairs n) ≡ l
edge_set_read n l h =
    ascending_kept compare_pair pairs l (all_pairs n) h.ascends (all_pairs_ascend n)
    (λ e m. in_all_pairs n e (h.proper e m))
