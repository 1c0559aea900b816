-- Theorems on the definitions of specs/NestedFigures.
use Rattle.std.specs.Prelude.{◌≡◌, refl, List, [], ◌∷◌, map, ℕ, zero, suc, length, drop, replicate}
use Rattle.std.proofs.Common.{sym, ap, ◌∙◌, subst}
use Rattle.std.proofs.lemmas.Simd.{map-map}
use Rattle.definitions.specs.Lists.{Pair, sort_nats}
use Rattle.definitions.specs.Figures.{Elements, Figure, move_ends, figure_of}
use Rattle.definitions.specs.Recursion.{move_sorted}
use Rattle.laws.specs.Lists.{Mem, of_map}
use Rattle.shapes.specs.Edges.{sort_two}
use Rattle.shapes.specs.Shape.{Stack}
use Rattle.shapes.specs.Move.{Into, Rising}
use Rattle.shapes.specs.Gathered.{gathered, sort_all}
use Rattle.shapes.specs.FigureOf.{Stacked}
use Rattle.shapes.proofs.FigureOf.{figure_of_holds}
use Rattle.shapes.specs.EdgeSets.{Proper, ends}
use Rattle.shapes.specs.Polygons.{edge_via, ends_via}
use Rattle.shapes.specs.Levels.{lowest, lowest_in, upper_ranks, body_of, ranks_on, ranks_of, lowest_in_good}
use Rattle.shapes.specs.Levels.{ranks_of_sent}
use Rattle.shapes.proofs.LevelFigures.{ranks_stack, gathered_items}
use Rattle.shapes.specs.LevelMoves.{ranks_kept}
use Rattle.shapes.proofs.LevelMoves.{ranks_sent, ranks_apart}
use Rattle.shapes.specs.Nested.{Nested, nested_in_order, NestedSet, nested, nested_sets, move_nested, raise_nested}
use Rattle.shapes.specs.Nested.{moved_set, nested_sending}
use Rattle.shapes.proofs.Nested.{ends_written, nested_raising}
use Rattle.shapes.specs.NestedFigures.{Pointed, move_ranks, nested_figure, nested_ranks, pointed_figure}

edges_proper : (n k : ℕ) (x : Nested k) → NestedSet n k x → (e : Pair) → Mem e (lowest_in nested k x) → Proper n e
edges_proper n k x h = lowest_in_good nested (nested_sets n) k x h

pub nested_stack : (n k : ℕ) (x : Nested k) → NestedSet n k x → Stack n (nested_ranks k x)
nested_stack n k x h =
    ranks_stack k nested (nested_sets n) n (Proper n) ends (ends_written n) x h (edges_proper n k x h)

-- ---- the figure of facets

-- the figure of a list of facets, each on points of its own: that of the set of their elements
pub figure_of_nested : (n k : ℕ) (xs : List (Pointed k)) → ((x : Pointed k) → Mem x xs → NestedSet n k x.1)
    → figure_of k n (map (pointed_figure k) xs)
    ≡ nested_figure n (suc k) (nested_in_order k (map (λ (x : Pointed k). x.1) xs))
unfolding nested_figure ranks_of
figure_of_nested n k xs h =
    let items = map (λ (x : Pointed k). x.1) xs in
    let good : (x : Nested k) → Mem x items
    → NestedSet n k x = λ x m. let r = of_map (λ (y : Pointed k). y.1) x xs m in
    subst (NestedSet n k) (sym r.2) (h r.0 r.1) in
    let stacked : Stacked n (map (pointed_figure k) xs) = λ f m. let r = of_map (pointed_figure k) f xs m in
    subst (λ (g : Figure). Stack n (drop 2 g)) (sym r.2) (nested_stack n k r.0.1 (h r.0 r.1)) in
    let facets : map (drop 2) (map (pointed_figure k) xs) ≡ map (nested_ranks k) items =
    map-map (drop 2) (pointed_figure k) xs ∙ sym (map-map (nested_ranks k) (λ (x : Pointed k). x.1) xs) in
    figure_of_holds n k (map (pointed_figure k) xs) stacked
    ∙ ap (λ (ranks : List Elements). ([] ∷ []) ∷ replicate n (0 ∷ []) ∷ ranks)
    (ap (gathered k) facets ∙ gathered_items k nested (nested_sets n) n (Proper n) ends (ends_written n) items good
    (λ x m. edges_proper n k x (good x m)))

-- ---- moved

edge_sent : (to : ℕ → ℕ) (e : Pair) → sort_nats (map to (ends e)) ≡ ends (edge_via to e)
unfolding ends edge_via
edge_sent to e = sort_two (to e.0) (to e.1)

ranks_in_order : (n m : ℕ) (to : ℕ → ℕ) → Into n m to → (k : ℕ) (x : Nested k) → NestedSet n k x
    → sort_all (ranks_of nested (λ (e : Pair). ends (edge_via to e)) k x) ≡ nested_ranks k (move_nested to k x)
unfolding move_nested nested_sending
ranks_in_order n m to into k x h =
    ranks_sent k nested (nested_sets n) nested (nested_sets m) (nested_sending n m to into) m (Proper m) ends
    (ends_written m) x h (edges_proper m k (move_nested to k x) (moved_set n m to into k x h))

-- by a map that sends no two points to one, and sorted
pub nested_moved : (n m : ℕ) (to : ℕ → ℕ) → Into n m to → (points k : ℕ) (x : Nested k) → NestedSet n k x
    → move_sorted to (nested_figure points k x) ≡ nested_figure points k (move_nested to k x)
unfolding nested_figure
nested_moved n m to into points k x h =
    move_ranks to ([] ∷ []) (replicate points (0 ∷ [])) (nested_ranks k x)
    ∙ ap (λ (ranks : List Elements). ([] ∷ []) ∷ replicate points (0 ∷ []) ∷ ranks)
    (ap sort_all (ranks_of_sent nested ends (λ (e : Pair). ends (edge_via to e)) to k x (λ e i. edge_sent to e))
    ∙ ranks_in_order n m to into k x h)

-- the ends of the edges alone sent
ends_moved : (to : ℕ → ℕ) (points k : ℕ) (x : Nested k) → move_ends to (nested_figure points k x)
    ≡ ([] ∷ []) ∷ replicate points (0 ∷ []) ∷ ranks_of nested (λ (e : Pair). ends (ends_via to e)) k x
unfolding nested_figure move_ends ranks_of ranks_on ends ends_via
ends_moved to points zero e = refl
ends_moved to points (suc k) l =
    ap (λ (es : Elements). ([] ∷ []) ∷ replicate points (0 ∷ []) ∷ es ∷ upper_ranks nested k l (body_of (length l)))
    (map-map (map to) ends (lowest nested k l))

-- by a map that rises, as it comes
pub nested_raised : (n m : ℕ) (to : ℕ → ℕ) → Rising n m to → (points k : ℕ) (x : Nested k) → NestedSet n k x
    → move_ends to (nested_figure points k x) ≡ nested_figure points k (raise_nested to k x)
unfolding nested_figure raise_nested nested_raising
nested_raised n m to up points k x h =
    ends_moved to points k x
    ∙ ap (λ (ranks : List Elements). ([] ∷ []) ∷ replicate points (0 ∷ []) ∷ ranks)
    (sym (ranks_kept nested (nested_sets n) nested (nested_raising n m to up) ends k x h))

-- ---- equal figures

pub nested_apart : (n points k : ℕ) (x y : Nested k) → NestedSet n k x → NestedSet n k y
    → nested_figure points k x ≡ nested_figure points k y → x ≡ y
unfolding nested_figure
nested_apart n points k x y h j e =
    ranks_apart k nested (nested_sets n) n (Proper n) ends (ends_written n) x y h j (edges_proper n k x h)
    (edges_proper n k y j) (ap (drop 2) e)
