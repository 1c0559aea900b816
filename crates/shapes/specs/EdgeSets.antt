-- Edges as pairs of vertices, the smaller first, and figures of rank 3 and 4 written from edge sets alone: a rank 3
-- figure is its edges in the order of the pairs, a rank 4 figure its edges and its polygons, each the list of its
-- edges' numbers, in the order of their lists of edges. EntryFigures shows that nested sets have these figures. Leans
-- on FigureOf.
use Rattle.std.specs.Prelude.{◌≡◌, length, replicate}
use Rattle.std.proofs.Common.{ap, arith}
use mathlib.Core.List.{List, [], ◌∷◌, map, Memᴰ}
use Prim.Native.Nat.{Ordering}
use Prim.Native.Nat.{ℕ, ◌<◌, compare}
use Rattle.definitions.specs.Lists.{Pair, then_by, compare_list, compare_pair, compare_nats, compare_pairs, count_from}
use Rattle.definitions.specs.Figures.{Figure}
use Rattle.laws.specs.Lists.{Mem}
use Rattle.laws.specs.Orders.{pairs, pair_lists, lt_compare, then_alone}
use Rattle.laws.specs.Ascending.{Ascends, in_order}
use Rattle.laws.specs.Places.{place_in}
use Rattle.shapes.specs.Shape.{Element}

-- ---- edges as pairs

-- the smaller end first, both below the number of points
pub record Proper (n : ℕ) (e : Pair) : Type 0 where
  pub rises : e.0 < e.1
  pub below : e.1 < n

-- the element that an edge is
unfoldable pub ends : Pair → List ℕ
ends e = e.0 ∷ e.1 ∷ []

pub compare_ends : (d e : Pair) → compare_nats (ends d) (ends e) ≡ compare_pair d e
unfolding ends compare_nats compare_list compare_pair then_by
compare_ends d e = ap (then_by (compare d.0 e.0)) (then_alone (compare d.1 e.1))

pub ends_element : (n : ℕ) (e : Pair) → Proper n e → Element n (ends e)
unfolding ends
ends_element n e h = record { ascends = (second, ((λ y i. elim i [ ]), tt)); below = either }
  where
    second : (y : ℕ) → Mem y (e.1 ∷ []) → compare e.0 y ≡ Ordering.lt
    second y (Memᴰ.head q) = let r = h.rises in lt_compare e.0 y (omega arith)
    second y (Memᴰ.tail m) = elim m [ ]

    either : (x : ℕ) → Mem x (e.0 ∷ e.1 ∷ []) → x < n
    either x (Memᴰ.head q) = let r = h.rises in let s = h.below in omega arith
    either x (Memᴰ.tail (Memᴰ.head q)) = let s = h.below in omega arith
    either x (Memᴰ.tail (Memᴰ.tail m)) = elim m [ ]

-- edges in order, each once
abbrev pub edges_in_order : List Pair → List Pair
edges_in_order = in_order compare_pair pairs

-- ---- rank 3

-- the figure of rank 3 with so many points and these edges
unfoldable pub polygon : ℕ → List Pair → Figure
polygon n edges = ([] ∷ []) ∷ replicate n (0 ∷ []) ∷ map ends edges ∷ (count_from 0 (length edges) ∷ []) ∷ []

-- ---- rank 4

-- edges in order
pub record EdgeSet (n : ℕ) (l : List Pair) : Type 0 where
  pub ascends : Ascends compare_pair l
  pub proper : (e : Pair) → Mem e l → Proper n e

-- an edge's number among a figure's edges
abbrev pub edge_number : List Pair → Pair → ℕ
edge_number edges e = place_in compare_pair pairs edges e

-- polygons in the order of their lists of edges, each once
abbrev pub polygons_in_order : List (List Pair) → List (List Pair)
polygons_in_order = in_order compare_pairs pair_lists

-- the figure of rank 4 with so many points, these edges, and these polygons given by their edges
unfoldable pub polyhedron : ℕ → List Pair → List (List Pair) → Figure
polyhedron n edges polygons =
    ([] ∷ []) ∷ replicate n (0 ∷ []) ∷ map ends edges ∷ map (map (edge_number edges)) polygons
    ∷ (count_from 0 (length polygons) ∷ []) ∷ []
