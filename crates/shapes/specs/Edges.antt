-- The figures of ranks 1 and 2: a vertex as a ridge, an edge with its ends. How they move, and that two are equal
-- exactly when their vertices are. Leans on the definitions and laws.
use Rattle.std.specs.Prelude.{◌≡◌, refl, cond, List, [], ◌∷◌}
use Rattle.std.proofs.Common.{ap, ◌∙◌, arith}
use Prim.Native.Nat.{ℕ, min, max, compare, Ordering}
use Rattle.definitions.specs.Lists.{Pair, is_gt, insert_by, sort_by, sort_nats, compare_nats, compare_list}
use Rattle.definitions.specs.Figures.{Figure, compare_figures, sort_ranks, sort_strong, move_ends}
use Rattle.definitions.specs.Recursion.{vertex_ridge, move_sorted}
use Rattle.laws.specs.Orders.{Linear, turned, nats, nat_lists, lists, compare_lt}

-- ---- figures compare as lists of lists do

pub figures : Linear compare_figures
unfolding compare_figures
figures = lists (compare_list compare_nats) (lists compare_nats nat_lists)

-- ---- two numbers sorted

pub sort_two : (a b : ℕ) → sort_nats (a ∷ b ∷ []) ≡ min a b ∷ max a b ∷ []
unfolding sort_nats sort_by insert_by is_gt
sort_two a b = go (compare a b) refl
  where
    pair : (v w x y : ℕ) → v ≡ x → w ≡ y → v ∷ w ∷ [] ≡ x ∷ y ∷ []
    pair v w x y e f = λ t. e t ∷ f t ∷ []

    go : (o : Ordering) → compare a b ≡ o → cond (is_gt o) (b ∷ a ∷ []) (a ∷ b ∷ []) ≡ min a b ∷ max a b ∷ []
    go Ordering.lt e = let k = compare_lt a b e in pair a b (min a b) (max a b) (omega arith) (omega arith)
    go Ordering.eq e = let k = nats.equal a b e in pair a b (min a b) (max a b) (omega arith) (omega arith)
    go Ordering.gt e =
        let k = compare_lt b a (nats.mirror a b ∙ ap turned e) in
        pair b a (min a b) (max a b) (omega arith) (omega arith)

-- ---- a vertex

-- moved, it is the ridge of another vertex
pub vertex_moved : (to : ℕ → ℕ) (v : ℕ) → move_sorted to (vertex_ridge v) ≡ vertex_ridge (to v)
unfolding move_sorted sort_strong move_ends vertex_ridge sort_ranks sort_nats sort_by insert_by
vertex_moved to v = refl

-- ---- an edge

unfoldable pub edge_figure : Pair → Figure
edge_figure e = ([] ∷ []) ∷ ((0 ∷ []) ∷ (0 ∷ []) ∷ []) ∷ ((e.0 ∷ e.1 ∷ []) ∷ []) ∷ []

-- moved and sorted, the smaller end first
pub edge_moved : (to : ℕ → ℕ) (e : Pair)
    → move_sorted to (edge_figure e) ≡ edge_figure (min (to e.0) (to e.1), max (to e.0) (to e.1))
unfolding move_sorted sort_strong move_ends edge_figure sort_ranks
edge_moved to e =
    ap (λ (ends : List ℕ). ([] ∷ []) ∷ ((0 ∷ []) ∷ (0 ∷ []) ∷ []) ∷ (ends ∷ []) ∷ []) (sort_two (to e.0) (to e.1))
