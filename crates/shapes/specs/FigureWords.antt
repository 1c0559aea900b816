-- The answer's numbers of figures from their elements, at every rank: what a writer writes that stores nested sets
-- and no figures. And of rank 2, 3 and 4 from edges and polygons. Leans on NestedFigures and UsedPoints.
use Rattle.std.specs.Prelude.{◌≡◌, replicate}
use Rattle.std.proofs.Math.Path.{refl, ap}
use Rattle.std.proofs.Common.{◌∙◌}
use mathlib.Core.List.{List, [], ◌∷◌, ◌++◌, map, flat_map, append-nil}
use Prim.Native.Nat.{ℕ, zero, suc, ◌+◌, ◌-◌}
use native.Mathlib.Omega.{arith}
use Rattle.std.proofs.Math.ListN.{length, get_or, length-map}
use Rattle.std.proofs.lemmas.List.{length-replicate}
use Rattle.definitions.specs.Lists.{Pair, count_from}
use Rattle.definitions.specs.Figures.{Elements, Figure, rank_of}
use Rattle.definitions.specs.Recursion.{Entry, vertex_ridge}
use Rattle.definitions.specs.Job.{counted, figure_words, used_points, summary_words}
use Rattle.laws.specs.Lists.{Mem, count_length, flat_map_same}
use Rattle.laws.specs.Places.{place_in, flat_singles, flat_map_map}
use Rattle.shapes.specs.Edges.{edge_figure}
use Rattle.shapes.specs.EdgeSets.{ends, edge_number, polygon, polyhedron}
use Rattle.shapes.specs.Levels.{Levels, Sets, AllGood, under, under_good, lowest, places_in, upper_ranks, body_of}
use Rattle.shapes.specs.Levels.{ranks_on, ranks_of}
use Rattle.shapes.specs.LevelMoves.{Keeping, under_kept, places_kept}
use Rattle.shapes.specs.Nested.{Nested, nested}
use Rattle.shapes.specs.NestedFigures.{nested_figure}
use Rattle.shapes.specs.UsedPoints.{ends_used, used_ends}

-- ---- elements and ranks

-- an element: how many subs, then the subs
element_words : (e : List ℕ) → counted (λ (sub : ℕ). sub ∷ []) e ≡ length e ∷ e
unfolding counted
element_words e = ap (λ (l : List ℕ). length e ∷ l) (flat_singles e)

-- a rank: how many elements, then each
unfoldable pub rank_words : Elements → List ℕ
rank_words es = length es ∷ flat_map (λ (e : List ℕ). length e ∷ e) es

rank_words_holds : (es : Elements) → counted (counted (λ (sub : ℕ). sub ∷ [])) es ≡ rank_words es
unfolding counted rank_words
rank_words_holds es =
    ap (λ (l : List ℕ). length es ∷ l) (flat_map_same (λ (e : List ℕ). length e ∷ flat_map (λ (sub : ℕ). sub ∷ []) e)
    (λ (e : List ℕ). length e ∷ e) es (λ e m. ap (λ (l : List ℕ). length e ∷ l) (flat_singles e)))

-- a figure [12.4]: how many ranks, then each
pub figure_words_holds : (f : Figure) → figure_words f ≡ length f ∷ flat_map rank_words f
unfolding figure_words counted
figure_words_holds f =
    ap (λ (l : List ℕ). length f ∷ l)
    (flat_map_same (counted (counted (λ (sub : ℕ). sub ∷ []))) rank_words f (λ es m. rank_words_holds es))

-- an element [0] for each of so many points
unfoldable pub point_words : ℕ → List ℕ
point_words zero = []
point_words (suc n) = 1 ∷ 0 ∷ point_words n

-- the ends of each edge
unfoldable pub edge_words : List Pair → List ℕ
edge_words edges = flat_map (λ (e : Pair). 2 ∷ e.0 ∷ e.1 ∷ []) edges

-- a body that names so many facets
unfoldable pub body_words : ℕ → List ℕ
body_words n = 1 ∷ n ∷ count_from 0 n

points_each : (n : ℕ) → flat_map (λ (e : List ℕ). length e ∷ e) (replicate n (0 ∷ [])) ≡ point_words n
unfolding flat_map point_words
points_each zero = refl
points_each (suc n) = ap (λ (l : List ℕ). 1 ∷ 0 ∷ l) (points_each n)

points_rank : (n : ℕ) → rank_words (replicate n (0 ∷ [])) ≡ n ∷ point_words n
unfolding rank_words
points_rank n = λ t. length-replicate {A = List ℕ} n (0 ∷ []) t ∷ points_each n t

edges_rank : (edges : List Pair) → rank_words (map ends edges) ≡ length edges ∷ edge_words edges
unfolding rank_words edge_words ends
edges_rank edges = λ t. length-map edges ends t ∷ flat_map_map (λ (e : List ℕ). length e ∷ e) ends edges t

body_rank : (n : ℕ) → rank_words (count_from 0 n ∷ []) ≡ body_words n
unfolding rank_words body_words flat_map
body_rank n =
    ap (λ (l : List ℕ). 1 ∷ l) (append-nil (length (count_from 0 n) ∷ count_from 0 n)
    ∙ ap (λ (k : ℕ). k ∷ count_from 0 n) (count_length 0 n))

-- ---- figures

pub edge_words_holds : (e : Pair)
    → figure_words (edge_figure e) ≡ 3 ∷ 1 ∷ 0 ∷ 2 ∷ 1 ∷ 0 ∷ 1 ∷ 0 ∷ 1 ∷ 2 ∷ e.0 ∷ e.1 ∷ []
unfolding figure_words counted edge_figure flat_map
edge_words_holds e = refl

pub vertex_words : (v : ℕ) → figure_words (vertex_ridge v) ≡ 3 ∷ 0 ∷ 1 ∷ 1 ∷ 0 ∷ 1 ∷ 1 ∷ v ∷ []
unfolding figure_words counted vertex_ridge flat_map
vertex_words v = refl

pub polygon_words_holds : (n : ℕ) (edges : List Pair)
    → figure_words (polygon n edges)
    ≡ 4 ∷ 1 ∷ 0 ∷ n ∷ point_words n ++ (length edges ∷ edge_words edges ++ body_words (length edges))
unfolding polygon flat_map rank_words
polygon_words_holds n edges =
    let a = points_rank n in
    let b = edges_rank edges in
    let c = append-nil (rank_words (count_from 0 (length edges) ∷ [])) ∙ body_rank (length edges) in
    figure_words_holds (polygon n edges) ∙ (λ t. 4 ∷ 1 ∷ 0 ∷ a t ++ (b t ++ c t))

polygons_rank : (edges : List Pair) (polygons : List (List Pair))
    → rank_words (map (map (edge_number edges)) polygons)
    ≡ length polygons ∷ flat_map (λ (s : List Pair). length s ∷ map (edge_number edges) s) polygons
unfolding rank_words
polygons_rank edges polygons =
    let number = map (edge_number edges) in
    let each : flat_map (λ (e : List ℕ). length e ∷ e) (map number polygons)
    ≡ flat_map (λ (s : List Pair). length s ∷ number s) polygons =
    flat_map_map (λ (e : List ℕ). length e ∷ e) number polygons
    ∙ flat_map_same (λ (s : List Pair). length (number s) ∷ number s) (λ (s : List Pair). length s ∷ number s)
    polygons (λ s m. ap (λ (k : ℕ). k ∷ number s) (length-map s (edge_number edges))) in
    λ t. length-map polygons number t ∷ each t

pub polyhedron_words : (n : ℕ) (edges : List Pair) (polygons : List (List Pair))
    → figure_words (polyhedron n edges polygons)
    ≡ 5 ∷ 1 ∷ 0 ∷ n ∷ point_words n ++ (length edges ∷ edge_words edges
    ++ (length polygons ∷ flat_map (λ (s : List Pair). length s ∷ map (edge_number edges) s) polygons
    ++ body_words (length polygons)))
unfolding polyhedron flat_map rank_words
polyhedron_words n edges polygons =
    let a = points_rank n in
    let b = edges_rank edges in
    let c = polygons_rank edges polygons in
    let d = append-nil (rank_words (count_from 0 (length polygons) ∷ [])) ∙ body_rank (length polygons) in
    figure_words_holds (polyhedron n edges polygons) ∙ (λ t. 5 ∷ 1 ∷ 0 ∷ a t ++ (b t ++ (c t ++ d t)))

-- ---- summaries [12.5]

pub polygon_summary : (e : Entry) (n : ℕ) (edges : List Pair) → e.figure ≡ polygon n edges
    → summary_words e ≡ ends_used n edges ∷ length edges ∷ length edges ∷ []
unfolding summary_words rank_of polygon
polygon_summary e n edges q =
    let points = used_ends (polygon n edges) n edges refl refl in
    let many = length-map edges ends in
    ap (λ (f : Figure). length (used_points f) ∷ length (rank_of 2 f) ∷ length (rank_of (length f - 2) f) ∷ []) q
    ∙ (λ t. points t ∷ many t ∷ many t ∷ [])

pub polyhedron_summary : (e : Entry) (n : ℕ) (edges : List Pair) (polygons : List (List Pair))
    → e.figure ≡ polyhedron n edges polygons
    → summary_words e ≡ ends_used n edges ∷ length edges ∷ length polygons ∷ []
unfolding summary_words rank_of polyhedron
polyhedron_summary e n edges polygons q =
    let points = used_ends (polyhedron n edges polygons) n edges refl refl in
    let many = length-map edges ends in
    let facets = length-map polygons (map (edge_number edges)) in
    ap (λ (f : Figure). length (used_points f) ∷ length (rank_of 2 f) ∷ length (rank_of (length f - 2) f) ∷ []) q
    ∙ (λ t. points t ∷ many t ∷ facets t ∷ [])

-- ---- at every rank from 3

module _ (T : Levels) where
  -- items as the places of their subs: how many, and for each how many and which
  unfoldable pub item_words : (k : ℕ) → List (T.Item k) → List (T.Item (suc k)) → List ℕ
  item_words k all xs = length xs ∷ flat_map (λ (x : T.Item (suc k)). length (T.subs k x) ∷ places_in T k all x) xs

  -- the ranks above the lowest, the last ones given
  unfoldable pub upper_words : (k : ℕ) → List (T.Item k) → List ℕ → List ℕ
  upper_words zero xs last = last
  upper_words (suc k) xs last = let all = under T k xs in upper_words k all (item_words k all xs ++ last)

  items_rank : (k : ℕ) (all : List (T.Item k)) (xs : List (T.Item (suc k)))
      → rank_words (map (places_in T k all) xs) ≡ item_words k all xs
  unfolding rank_words item_words
  items_rank k all xs =
      let places : T.Item (suc k) → List ℕ = places_in T k all in
      let each : flat_map (λ (e : List ℕ). length e ∷ e) (map places xs)
      ≡ flat_map (λ (x : T.Item (suc k)). length (T.subs k x) ∷ places x) xs =
      flat_map_map (λ (e : List ℕ). length e ∷ e) places xs
      ∙ flat_map_same (λ (x : T.Item (suc k)). length (places x) ∷ places x)
      (λ (x : T.Item (suc k)). length (T.subs k x) ∷ places x) xs
      (λ x m. ap (λ (n : ℕ). n ∷ places x) (length-map (T.subs k x) (place_in (T.order k) (T.linear k) all))) in
      λ t. length-map xs places t ∷ each t

  upper_words_holds : (k : ℕ) (xs : List (T.Item k)) (last : List Elements)
      → flat_map rank_words (upper_ranks T k xs last) ≡ upper_words k xs (flat_map rank_words last)
  unfolding upper_ranks upper_words flat_map
  upper_words_holds zero xs last = refl
  upper_words_holds (suc k) xs last =
      let all = under T k xs in
      upper_words_holds k all (map (places_in T k all) xs ∷ last)
      ∙ ap (λ (l : List ℕ). upper_words k all (l ++ flat_map rank_words last)) (items_rank k all xs)

  upper_length : (k : ℕ) (xs : List (T.Item k)) (last : List Elements)
      → length (upper_ranks T k xs last) ≡ k + length last
  unfolding upper_ranks
  upper_length zero xs last = omega arith
  upper_length (suc k) xs last =
      let r = upper_length k (under T k xs) (map (places_in T k (under T k xs)) xs ∷ last) in
      omega arith

  -- what is given stands last
  upper_at : (k : ℕ) (xs : List (T.Item k)) (last : List Elements) (i : ℕ)
      → get_or (upper_ranks T k xs last) (k + i) [] ≡ get_or last i []
  unfolding upper_ranks
  upper_at zero xs last i = ap (λ (n : ℕ). get_or last n []) (omega arith)
  upper_at (suc k) xs last i =
      let all = under T k xs in
      let place : suc k + i ≡ k + suc i = omega arith in
      ap (λ (n : ℕ). get_or (upper_ranks T k all (map (places_in T k all) xs ∷ last)) n []) place
      ∙ upper_at k all (map (places_in T k all) xs ∷ last) (suc i)

-- the words are the same, from items that stand for others in the same order
module _ (T : Levels) (G : Sets T) (U : Levels) (h : Keeping T G U) where
  items_kept : (k : ℕ) (all : List (T.Item k)) → AllGood T G k all → (xs : List (T.Item (suc k)))
      → AllGood T G (suc k) xs → item_words U k (map (h.to k) all) (map (h.to (suc k)) xs) ≡ item_words T k all xs
  unfolding item_words
  items_kept k all g xs j =
      let one : (x : T.Item (suc k)) → Mem x xs → length (U.subs k (h.to (suc k) x))
      ∷ places_in U k (map (h.to k) all) (h.to (suc k) x) ≡ length (T.subs k x) ∷ places_in T k all x = λ x m.
      let many = ap length (h.subs k x (j x m)) ∙ length-map (T.subs k x) (h.to k) in
      let places = places_kept T G U h k all g x (j x m) in
      λ t. many t ∷ places t in
      let each =
      flat_map_map (λ (y : U.Item (suc k)). length (U.subs k y) ∷ places_in U k (map (h.to k) all) y) (h.to (suc k)) xs
      ∙ flat_map_same (λ (x : T.Item (suc k)). length (U.subs k (h.to (suc k) x))
      ∷ places_in U k (map (h.to k) all)
      (h.to (suc k) x)) (λ (x : T.Item (suc k)). length (T.subs k x) ∷ places_in T k all x) xs one in
      λ t. length-map xs (h.to (suc k)) t ∷ each t

  pub words_kept : (k : ℕ) (xs : List (T.Item k)) → AllGood T G k xs → (last : List ℕ)
      → upper_words U k (map (h.to k) xs) last ≡ upper_words T k xs last
  unfolding upper_words
  words_kept zero xs g last = refl
  words_kept (suc k) xs g last =
      let all = under T k xs in
      let good = under_good T G k xs g in
      ap (λ (l : List (U.Item k)). upper_words U k l (item_words U k l (map (h.to (suc k)) xs) ++ last))
      (under_kept T G U h k xs g)
      ∙ ap (λ (w : List ℕ). upper_words U k (map (h.to k) all) (w ++ last)) (items_kept k all good xs g)
      ∙ words_kept k all good (item_words T k all xs ++ last)

-- the figure with these facets on so many points: its edges, then each rank in order
pub nested_words : (n k : ℕ) (xs : Nested (suc k))
    → figure_words (nested_figure n (suc k) xs)
    ≡ (4 + k) ∷ 1 ∷ 0 ∷ n ∷ point_words n ++ (length (lowest nested k xs) ∷ edge_words (lowest nested k xs)
    ++ upper_words nested k xs (body_words (length xs)))
unfolding nested_figure ranks_of ranks_on flat_map rank_words body_of
nested_words n k xs =
    let many : suc (suc (suc (length (upper_ranks nested k xs (body_of (length xs))))))
    ≡ 4 + k = (let r = upper_length nested k xs (body_of (length xs)) in omega arith) in
    let a = points_rank n in
    let b = edges_rank (lowest nested k xs) in
    let c = upper_words_holds nested k xs (body_of (length xs)) ∙ ap (upper_words nested k xs)
    (append-nil (rank_words (count_from 0 (length xs) ∷ [])) ∙ body_rank (length xs)) in
    figure_words_holds (nested_figure n (suc k) xs) ∙ (λ t. many t ∷ 1 ∷ 0 ∷ a t ++ (b t ++ c t))

-- points used, edges, facets
pub nested_summary : (e : Entry) (n k : ℕ) (xs : Nested (suc k)) → e.figure ≡ nested_figure n (suc k) xs
    → summary_words e ≡ ends_used n (lowest nested k xs) ∷ length (lowest nested k xs) ∷ length xs ∷ []
unfolding summary_words rank_of nested_figure ranks_of ranks_on upper_ranks body_of lowest
nested_summary e n k xs q =
    let f = nested_figure n (suc k) xs in
    let points = used_ends f n (lowest nested k xs) refl refl in
    let edges = length-map (lowest nested k xs) ends in
    ap (λ (g : Figure). length (used_points g) ∷ length (rank_of 2 g) ∷ length (rank_of (length g - 2) g) ∷ []) q
    ∙ (λ t. points t ∷ edges t ∷ facets k xs t ∷ [])
  where
    facets : (k : ℕ) (xs : Nested (suc k))
        → length (get_or (nested_figure n (suc k) xs) (length (nested_figure n (suc k) xs) - 2) []) ≡ length xs
    facets zero xs = length-map xs ends
    facets (suc k) xs =
        let all = under nested k xs in
        let last = map (places_in nested k all) xs ∷ body_of (length xs) in
        let r = upper_length nested k all last in
        let s = upper_at nested k all last 0 in
        let place : length (nested_figure n (suc (suc k)) xs) - 2 ≡ suc (suc (suc (k + 0))) = omega arith in
        ap (λ (i : ℕ). length (get_or (nested_figure n (suc (suc k)) xs) i [])) place ∙ ap length s
        ∙ length-map xs (places_in nested k all)
