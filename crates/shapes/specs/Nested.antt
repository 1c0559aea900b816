-- Nested sets: an edge is a pair of vertices, an element of the next rank an ascending list of elements of this one.
-- One order on those of each rank; an element sent elsewhere, put in order at every rank, or as it comes where the
-- map rises. Maps act on them one after the other, and send no two to one where they send no two points to one. Leans
-- on LevelMoves and Polygons.
use Rattle.std.specs.Prelude.{◌≡◌, refl, ◌⊎◌, List, map}
use Rattle.std.proofs.Common.{sym, ◌∙◌, inl, inr}
use Rattle.std.proofs.Math.Path.{ap, subst}
use Rattle.std.proofs.lemmas.Simd.{map-map}
use Prim.Native.Nat.{ℕ, zero, suc, ◌≤◌, ◌<◌, min, max, compare, Ordering}
use native.Mathlib.Omega.{arith}
use Rattle.definitions.specs.Lists.{Pair, then_by, compare_list, compare_pair}
use Rattle.laws.specs.Lists.{Mem, in_map, of_map}
use Rattle.laws.specs.Orders.{Linear, nats, pairs, lists, lt_compare, compare_lt}
use Rattle.laws.specs.Segments.{le_or_lt}
use Rattle.laws.specs.Ascending.{Ascends, ascends_distinct, same_ascending, in_order, in_order_ascends, in_in_order}
use Rattle.laws.specs.Ascending.{of_in_order, in_order_same}
use Rattle.laws.proofs.Ascending.{sort_ascending}
use Rattle.laws.specs.Places.{keeps_compare, compare_map, sort_distinct, map_same, map_self}
use Rattle.laws.specs.Ranges.{same_map}
use Rattle.shapes.specs.Move.{Into, Rising}
use Rattle.shapes.specs.EdgeSets.{Proper}
use Rattle.shapes.specs.Polygons.{edge_via, ends_via, via_proper}
use Rattle.shapes.specs.Levels.{Levels, Sets, lowest_in}
use Rattle.shapes.specs.LevelMoves.{Sending}

-- ---- nested sets

-- the elements of rank 2 + k
abbrev pub Nested : ℕ → Type 0
Nested zero = Pair
Nested (suc k) = List (Nested k)

-- by their items, a proper prefix first
abbrev pub compare_nested : (k : ℕ) → Nested k → Nested k → Ordering
compare_nested zero = compare_pair
compare_nested (suc k) = compare_list (compare_nested k)

pub nested_order : (k : ℕ) → Linear (compare_nested k)
nested_order zero = pairs
nested_order (suc k) = lists (compare_nested k) (nested_order k)

abbrev pub nested_in_order : (k : ℕ) → List (Nested k) → List (Nested k)
nested_in_order k l = in_order (compare_nested k) (nested_order k) l

-- on so many points: edges between two of them, and every list ascends
abbrev pub NestedSet : (n k : ℕ) → Nested k → Type 0
NestedSet n zero e = Proper n e
NestedSet n (suc k) l = Ascends (compare_nested k) l × ((x : Nested k) → Mem x l → NestedSet n k x)

-- they are levels, whatever the points
abbrev pub nested : Levels
nested = record { Item = Nested; order = compare_nested; linear = nested_order; subs = λ k l. l }

abbrev pub nested_sets : ℕ → Sets nested
nested_sets n = record { Good = NestedSet n; ascends = λ k l h. h.0; good = λ k l h. h.1; by_subs = λ k x y h j. refl }

-- the edges of an element, ascending
abbrev pub edges_under : (k : ℕ) → Nested k → List Pair
edges_under k x = lowest_in nested k x

-- a list put in order is a set
pub in_order_set : (n k : ℕ) (l : List (Nested k)) → ((x : Nested k) → Mem x l → NestedSet n k x)
    → NestedSet n (suc k) (nested_in_order k l)
in_order_set n k l h = (
  in_order_ascends (compare_nested k) (nested_order k) l,
  λ x m.
      h x (of_in_order (compare_nested k) (nested_order k) x l m),
)

-- a set is in order
pub set_in_order : (n k : ℕ) (l : Nested (suc k)) → NestedSet n (suc k) l → nested_in_order k l ≡ l
set_in_order n k l h =
    sym
    (sort_distinct (compare_nested k) (nested_order k) l (ascends_distinct (compare_nested k) (nested_order k) l h.0))
    ∙ sort_ascending (compare_nested k) (nested_order k) l h.0

-- on more points
pub set_wider : (n m k : ℕ) → n ≤ m → (x : Nested k) → NestedSet n k x → NestedSet m k x
set_wider n m zero few e h = record { rises = h.rises; below = let b = h.below in omega arith }
set_wider n m (suc k) few l h = (h.0, λ x i. set_wider n m k few x (h.1 x i))

-- ---- sent elsewhere

-- edges "smaller first", and every list in order again, equal ones once
unfoldable pub move_nested : (ℕ → ℕ) → (k : ℕ) → Nested k → Nested k
move_nested to zero e = edge_via to e
move_nested to (suc k) l = nested_in_order k (map (move_nested to k) l)

-- as it comes
unfoldable pub raise_nested : (ℕ → ℕ) → (k : ℕ) → Nested k → Nested k
raise_nested to zero e = ends_via to e
raise_nested to (suc k) l = map (raise_nested to k) l

pub moved_set : (n m : ℕ) (to : ℕ → ℕ) → Into n m to → (k : ℕ) (x : Nested k) → NestedSet n k x
    → NestedSet m k (move_nested to k x)
unfolding move_nested
moved_set n m to into zero e h = via_proper n m to into e h
moved_set n m to into (suc k) l h =
    in_order_set m k (map (move_nested to k) l)
    (λ y i. let r = of_map (move_nested to k) y l i in
    subst (NestedSet m k) (sym r.2) (moved_set n m to into k r.0 (h.1 r.0 r.1)))

-- different edges stay different
edge_apart : (n m : ℕ) (to : ℕ → ℕ) → Into n m to → (d e : Pair) → Proper n d → Proper n e
    → edge_via to d ≡ edge_via to e → d ≡ e
unfolding edge_via
edge_apart n m to into d e p q same = go (le_or_lt (to d.0) (to d.1)) (le_or_lt (to e.0) (to e.1))
  where
    low : min (to d.0) (to d.1) ≡ min (to e.0) (to e.1)
    low = ap (λ (x : Pair). x.0) same

    high : max (to d.0) (to d.1) ≡ max (to e.0) (to e.1)
    high = ap (λ (x : Pair). x.1) same

    meet : (v w : ℕ) → v < n → w < n → to v ≡ to w → v ≡ w
    meet = into.apart

    straight : to d.0 ≡ to e.0 → to d.1 ≡ to e.1 → d ≡ e
    straight f g =
        let a = p.rises in
        let b = p.below in
        let r = q.rises in
        let s = q.below in
        let first = meet d.0 e.0 (omega arith) (omega arith) f in
        let second = meet d.1 e.1 b s g in
        λ t. (first t, second t)

    crossed : to d.0 ≡ to e.1 → to d.1 ≡ to e.0 → d ≡ e
    crossed f g =
        let a = p.rises in
        let b = p.below in
        let r = q.rises in
        let s = q.below in
        let first = meet d.0 e.1 (omega arith) s f in
        let second = meet d.1 e.0 b (omega arith) g in
        absurd (omega arith)

    go : (to d.0 ≤ to d.1) ⊎ (to d.1 < to d.0) → (to e.0 ≤ to e.1) ⊎ (to e.1 < to e.0) → d ≡ e
    go (inl i) (inl j) = let a = low in let b = high in straight (omega arith) (omega arith)
    go (inl i) (inr j) = let a = low in let b = high in crossed (omega arith) (omega arith)
    go (inr i) (inl j) = let a = low in let b = high in crossed (omega arith) (omega arith)
    go (inr i) (inr j) = let a = low in let b = high in straight (omega arith) (omega arith)

pub moved_apart : (n m : ℕ) (to : ℕ → ℕ) → Into n m to → (k : ℕ) (x y : Nested k) → NestedSet n k x → NestedSet n k y
    → move_nested to k x ≡ move_nested to k y → x ≡ y
unfolding move_nested
moved_apart n m to into zero d e p q same = edge_apart n m to into d e p q same
moved_apart n m to into (suc k) l r p q same =
    let half : (l r : Nested (suc k)) → NestedSet n (suc k) l → NestedSet n (suc k) r
    → nested_in_order k (map (move_nested to k) l) ≡ nested_in_order k (map (move_nested to k) r) → (x : Nested k)
    → Mem x l → Mem x r = λ l r p q e x i.
    let sent = move_nested to k in
    let inside = subst (λ (s : List (Nested k)). Mem (sent x) s) e
    (in_in_order (compare_nested k) (nested_order k) (sent x) (map sent l) (in_map sent x l i)) in
    let w = of_map sent (sent x) r (of_in_order (compare_nested k) (nested_order k) (sent x) (map sent r) inside) in
    subst (λ (z : Nested k). Mem z r) (sym (moved_apart n m to into k x w.0 (p.1 x i) (q.1 w.0 w.1) w.2)) w.1 in
    same_ascending (compare_nested k) (nested_order k) l r p.0 q.0 (record {
      into = half l r p q same;
      back = half r l q p (sym same);
    })

unfoldable pub nested_sending : (n m : ℕ) (to : ℕ → ℕ) → Into n m to
    → Sending nested (nested_sets n) nested (nested_sets m)
unfolding move_nested
nested_sending n m to into = record {
  to = move_nested to;
  subs = λ k x h. refl;
  good = moved_set n m to into;
  apart = moved_apart n m to into;
}

-- ---- by a map that rises

module _ (n m : ℕ) (to : ℕ → ℕ) (up : Rising n m to) where
  pub raised_compare : (k : ℕ) (x y : Nested k) → NestedSet n k x → NestedSet n k y
      → compare_nested k (raise_nested to k x) (raise_nested to k y) ≡ compare_nested k x y
  unfolding raise_nested ends_via compare_pair
  raised_compare zero d e p q =
      let same = keeps_compare compare nats compare nats to (λ x. x < n)
      (λ x y i j k. lt_compare (to x) (to y) (up.rises x y (compare_lt x y k) j)) in
      let a = p.rises in
      let b = p.below in
      let f = q.rises in
      let g = q.below in
      ap (λ (o : Ordering). then_by o (compare (to d.1) (to e.1))) (same d.0 e.0 (omega arith) (omega arith))
      ∙ ap (then_by (compare d.0 e.0)) (same d.1 e.1 b g)
  raised_compare (suc k) x y p q =
      compare_map (compare_nested k) (nested_order k) (compare_nested k) (nested_order k) (raise_nested to k)
      (NestedSet n k) (raised_compare k) x y p.1 q.1

-- ---- maps act

-- a list put in order and sent, or sent as it comes
pub move_in_order : (to : ℕ → ℕ) (k : ℕ) (l : List (Nested k))
    → move_nested to (suc k) (nested_in_order k l) ≡ nested_in_order k (map (move_nested to k) l)
unfolding move_nested
move_in_order to k l =
    in_order_same (compare_nested k) (nested_order k) (map (move_nested to k) (nested_in_order k l))
    (map (move_nested to k) l)
    (same_map (move_nested to k) (nested_in_order k l) l (record {
      into = λ x i. of_in_order (compare_nested k) (nested_order k) x l i;
      back = λ x i. in_in_order (compare_nested k) (nested_order k) x l i;
    }))

edge_twice : (f g : ℕ → ℕ) (e : Pair) → edge_via f (edge_via g e) ≡ edge_via (λ (v : ℕ). f (g v)) e
unfolding edge_via
edge_twice f g e = go (g e.0) (g e.1) (le_or_lt (g e.0) (g e.1))
  where
    both : ℕ → ℕ → Pair
    both v w = (min v w, max v w)

    go : (a b : ℕ) → (a ≤ b) ⊎ (b < a) → both (f (min a b)) (f (max a b)) ≡ both (f a) (f b)
    go a b (inl i) =
        let low : min a b ≡ a = omega arith in
        let high : max a b ≡ b = omega arith in
        λ t. both (f (low t)) (f (high t))
    go a b (inr i) =
        let low : min a b ≡ b = omega arith in
        let high : max a b ≡ a = omega arith in
        let turned-low : min (f b) (f a) ≡ min (f a) (f b) = omega arith in
        let turned-high : max (f b) (f a) ≡ max (f a) (f b) = omega arith in
        (λ t. both (f (low t)) (f (high t))) ∙ (λ t. (turned-low t, turned-high t))

-- one after the other is both at once
pub moved_twice : (f g : ℕ → ℕ) (k : ℕ) (x : Nested k)
    → move_nested f k (move_nested g k x) ≡ move_nested (λ (v : ℕ). f (g v)) k x
unfolding move_nested
moved_twice f g zero e = edge_twice f g e
moved_twice f g (suc k) l =
    move_in_order f k (map (move_nested g k) l)
    ∙ ap (nested_in_order k) (map-map (move_nested f k) (move_nested g k) l
    ∙ map_same (λ (x : Nested k). move_nested f k (move_nested g k x)) (move_nested (λ (v : ℕ). f (g v)) k) l
    (λ x i. moved_twice f g k x))

-- maps alike on the points
pub moved_alike : (n : ℕ) (f g : ℕ → ℕ) → ((v : ℕ) → v < n → f v ≡ g v) → (k : ℕ) (x : Nested k) → NestedSet n k x
    → move_nested f k x ≡ move_nested g k x
unfolding move_nested edge_via
moved_alike n f g same zero e h =
    let r = h.rises in
    let b = h.below in
    let first = same e.0 (omega arith) in
    let second = same e.1 b in
    λ t. (min (first t) (second t), max (first t) (second t))
moved_alike n f g same (suc k) l h =
    ap (nested_in_order k)
    (map_same (move_nested f k) (move_nested g k) l (λ x i. moved_alike n f g same k x (h.1 x i)))

-- a map that keeps every point
pub moved_nowhere : (n : ℕ) (f : ℕ → ℕ) → ((v : ℕ) → v < n → f v ≡ v) → (k : ℕ) (x : Nested k) → NestedSet n k x
    → move_nested f k x ≡ x
unfolding move_nested edge_via
moved_nowhere n f same zero e h =
    let r = h.rises in
    let b = h.below in
    let first = same e.0 (omega arith) in
    let second = same e.1 b in
    let low : min (f e.0) (f e.1) ≡ e.0 = omega arith in
    let high : max (f e.0) (f e.1) ≡ e.1 = omega arith in
    λ t. (low t, high t)
moved_nowhere n f same (suc k) l h =
    ap (nested_in_order k) (map_self (move_nested f k) l (λ x i. moved_nowhere n f same k x (h.1 x i)))
    ∙ set_in_order n k l h

-- A set sent to elements of itself, each of which is some element sent, is itself.
pub move_onto : (n : ℕ) (to : ℕ → ℕ) (k : ℕ) (l : Nested (suc k)) → NestedSet n (suc k) l
    → ((x : Nested k) → Mem x l → Mem (move_nested to k x) l)
    → ((x : Nested k) → Mem x l → (y : Nested k) × Mem y l × (x ≡ move_nested to k y)) → move_nested to (suc k) l ≡ l
unfolding move_nested
move_onto n to k l h inside onto =
    in_order_same (compare_nested k) (nested_order k) (map (move_nested to k) l) l
    (record {
      into =
          λ x m. let r = of_map (move_nested to k) x l m in
          subst (λ (z : Nested k). Mem z l) (sym r.2) (inside r.0 r.1);
      back =
          λ x m. let r = onto x m in
          subst (λ (z : Nested k). Mem z (map (move_nested to k) l)) (sym r.2) (in_map (move_nested to k) r.0 l r.1);
    })
    ∙ set_in_order n k l h
