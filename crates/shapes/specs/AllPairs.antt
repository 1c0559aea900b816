-- Sets and edge sets read off by a test for each vertex or pair, in ascending order: what code does that keeps sets
-- as bits. A set is the vertices that pass, in order; the edges of a figure are the pairs that pass, in order; the
-- polygons of a figure are those that pass of any ascending list that has them. Leans on EdgeSets and Sets.
use Rattle.std.specs.Prelude.{◌≡◌}
use Rattle.std.proofs.Common.{ap, ◌∙◌, arith}
use mathlib.Core.List.{List, map}
use Prim.Native.Nat.{ℕ, suc, ◌-◌, ◌<◌, compare, Ordering}
use Rattle.definitions.specs.Lists.{Pair, then_by, compare_pair, compare_pairs, keep, count_from}
use Rattle.definitions.specs.Orbits.{above, pairs_from}
use Rattle.laws.specs.Lists.{Mem, in_map, of_map, in_flat_map, of_flat_map, in_count, of_count}
use Rattle.laws.specs.Pairs.{pairs_map, pairs_flat_map, count_ascends}
use Rattle.laws.specs.Orders.{nats, pair_lists, lt_compare}
use Rattle.laws.specs.Ascending.{Ascends, seen_among}
use Rattle.laws.specs.Ranges.{count_ascending, in_order_kept, ascending_kept}
use Rattle.shapes.specs.EdgeSets.{Proper, polygons_in_order}
use Rattle.shapes.specs.Sets.{VertexSet}

-- ---- sets

-- a set, read off vertex by vertex
pub set_read : (n : ℕ) (vertices : List ℕ) → VertexSet n vertices
    → keep (λ (v : ℕ). seen_among compare nats v vertices) (count_from 0 n) ≡ vertices
set_read n vertices h =
    ascending_kept compare nats vertices (count_from 0 n) h.ascends (count_ascending 0 n) (λ v m. let b =
    h.below v m in in_count 0 n v (omega arith) (omega arith))

-- ---- pairs

-- all pairs of n vertices, the smaller first, in the order in which a call walks them [5.4]
unfoldable pub all_pairs : ℕ → List Pair
all_pairs n = pairs_from n (count_from 0 n)

pub in_all_pairs : (n : ℕ) (e : Pair) → Proper n e → Mem e (all_pairs n)
unfolding all_pairs pairs_from above
in_all_pairs n e h =
    let r = h.rises in
    let b = h.below in
    in_flat_map (λ (v : ℕ). map (λ (w : ℕ). (v, w)) (above n v)) e e.0 (count_from 0 n)
    (in_count 0 n e.0 (omega arith) (omega arith))
    (in_map (λ (w : ℕ). (e.0, w)) e.1 (above n e.0) (in_count (suc e.0) (n - suc e.0) e.1 (omega arith) (omega arith)))

pub of_all_pairs : (n : ℕ) (e : Pair) → Mem e (all_pairs n) → Proper n e
unfolding all_pairs pairs_from above
of_all_pairs n e m =
    let r = of_flat_map (λ (v : ℕ). map (λ (w : ℕ). (v, w)) (above n v)) e (count_from 0 n) m in
    let q = of_map (λ (w : ℕ). (r.0, w)) e (above n r.0) r.2 in
    let v = (of_count 0 n r.0 r.1).1 in
    let w = of_count (suc r.0) (n - suc r.0) q.0 q.1 in
    let low = w.0 in
    let high = w.1 in
    let first = ap (λ (p : Pair). p.0) q.2 in
    let second = ap (λ (p : Pair). p.1) q.2 in
    record { rises = omega arith; below = omega arith }

pub all_pairs_ascend : (n : ℕ) → Ascends compare_pair (all_pairs n)
unfolding all_pairs pairs_from above compare_pair then_by
all_pairs_ascend n =
    pairs_flat_map (λ (v w : ℕ). v < w) (λ d e. compare_pair d e ≡ Ordering.lt)
    (λ (v : ℕ). map (λ (w : ℕ). (v, w)) (above n v)) (count_from 0 n)
    (λ v m. pairs_map (λ (x y : ℕ). x < y) (λ d e. compare_pair d e ≡ Ordering.lt) (λ (w : ℕ). (v, w)) (above n v)
    (λ x i y j k. ap (λ (o : Ordering). then_by o (compare x y)) (nats.self v) ∙ lt_compare x y k)
    (count_ascends (suc v) (n - suc v)))
    (λ v i w j k d a e b.
    let p = of_map (λ (x : ℕ). (v, x)) d (above n v) a in
    let q = of_map (λ (x : ℕ). (w, x)) e (above n w) b in
    let first : compare d.0 e.0 ≡ Ordering.lt = (λ t. compare (p.2 t).0 (q.2 t).0) ∙ lt_compare v w k in
    ap (λ (o : Ordering). then_by o (compare d.1 e.1)) first)
    (count_ascends 0 n)

-- ---- edges and polygons

-- polygons in order: those among them, of an ascending list that has them all (say, of all images of all possible
-- facets of the call)
pub polygons_read : (l all : List (List Pair)) → Ascends compare_pairs all → ((s : List Pair) → Mem s l → Mem s all)
    → polygons_in_order l ≡ keep (λ (s : List Pair). seen_among compare_pairs pair_lists s l) all
polygons_read l all = in_order_kept compare_pairs pair_lists l all
