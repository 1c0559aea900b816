-- Edges sent elsewhere, as their ends come or the smaller first; a polygon's edges sent as they come, and read off
-- its figure. Leans on EdgeSets.
use Rattle.std.specs.Prelude.{◌≡◌, refl, ◌⊎◌, List, [], ◌∷◌, map, length, get_or, replicate}
use Rattle.std.proofs.Common.{sym, ◌∙◌, inl, inr, arith}
use Rattle.std.proofs.lemmas.Simd.{map-map}
use Prim.Native.Nat.{Ordering}
use Prim.Native.Nat.{ℕ, ◌<◌, min, max, compare}
use Rattle.std.proofs.lemmas.List.{length-map}
use Rattle.definitions.specs.Lists.{Pair, count_from}
use Rattle.definitions.specs.Figures.{Figure, rank_of, move_ends}
use Rattle.laws.specs.Orders.{nats, compare_lt}
use Rattle.laws.specs.Ascending.{below_or}
use Rattle.laws.specs.Places.{map_self}
use Rattle.shapes.specs.Move.{Into}
use Rattle.shapes.specs.EdgeSets.{Proper, ends, polygon}

-- ---- an edge sent elsewhere

-- as its ends come
unfoldable pub ends_via : (ℕ → ℕ) → Pair → Pair
ends_via to e = (to e.0, to e.1)

-- the smaller end first
unfoldable pub edge_via : (ℕ → ℕ) → Pair → Pair
edge_via to e = (min (to e.0) (to e.1), max (to e.0) (to e.1))

pub via_proper : (n m : ℕ) (to : ℕ → ℕ) → Into n m to → (e : Pair) → Proper n e → Proper m (edge_via to e)
unfolding edge_via
via_proper n m to into e h =
    let r = h.rises in
    let s = h.below in
    let a = into.below e.0 (omega arith) in
    let b = into.below e.1 (omega arith) in
    let differ : to e.0 ≡ to e.1 → ⊥ = λ q. let same = into.apart e.0 e.1 (omega arith) (omega arith) q in
    absurd (omega arith) in
    record { rises = apart_rises (to e.0) (to e.1) differ; below = omega arith }
  where
    apart_rises : (x y : ℕ) → (x ≡ y → ⊥) → min x y < max x y
    apart_rises x y d = go (below_or compare nats x y)
      where
        go : (x ≡ y) ⊎ ((compare x y ≡ Ordering.lt) ⊎ (compare y x ≡ Ordering.lt)) → min x y < max x y
        go (inl q) = absurd (d q)
        go (inr (inl q)) = let k = compare_lt x y q in omega arith
        go (inr (inr q)) = let k = compare_lt y x q in omega arith

-- ---- a polygon's edges

-- sent as they come
pub polygon_raised : (to : ℕ → ℕ) (k : ℕ) (l : List Pair) → move_ends to (polygon k l) ≡ polygon k (map (ends_via to) l)
unfolding move_ends polygon ends ends_via
polygon_raised to k l =
    let edges : map (map to) (map ends l) ≡ map ends (map (ends_via to) l) = map-map (map to) ends l
    ∙ sym (map-map ends (ends_via to) l) in
    let same : length l ≡ length (map (ends_via to) l) = sym (length-map l (ends_via to)) in
    λ t. ([] ∷ []) ∷ replicate k (0 ∷ []) ∷ edges t ∷ (count_from 0 (same t) ∷ []) ∷ []

-- read off a figure

unfoldable pub edge_pairs : Figure → List Pair
edge_pairs f = map (λ (e : List ℕ). (get_or e 0 0, get_or e 1 0)) (rank_of 2 f)

pub polygon_edges : (k : ℕ) (l : List Pair) → edge_pairs (polygon k l) ≡ l
unfolding edge_pairs rank_of polygon ends
polygon_edges k l =
    map-map (λ (e : List ℕ). (get_or e 0 0, get_or e 1 0)) ends l
    ∙ map_self (λ (e : Pair). (e.0, e.1)) l (λ e i. refl)
