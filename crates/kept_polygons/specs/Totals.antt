-- How much is kept at most, for whoever shows that there is room: lists of bounded length, all together, and the
-- edges of all orbits. Leans on Keeps and Rooms.
use Rattle.std.specs.Prelude.{◌≡◌, refl, ℕ, suc, ◌+◌, ◌*◌, ◌≤◌, length, ◌<◌, get_or}
use Rattle.std.proofs.Common.{ap, arith, length-append, sym, ◌∙◌, subst}
use mathlib.Core.List.{List, [], ◌∷◌, flat_map, map}
use Rattle.definitions.specs.Lists.{Pair}
use Rattle.laws.specs.Lists.{Mem, here, there, flat_map_append, of_map}
use Rattle.shapes.specs.Kept.{Kept, kept_of}
use Rattle.layout.specs.Keeps.{joined, facets_in, facets_of, edges_of, places_of}
use Rattle.keep.specs.Rooms.{places_number}
use Rattle.std.proofs.lemmas.List.{length-map}
use Rattle.definitions.specs.Recursion.{Inner}
use Rattle.rows.specs.Rows.{rows_in}
use Rattle.layout.specs.declared.Level.{Level}
use Rattle.layout.specs.Leaves.{answer_left, lists_left}
use Rattle.left_edges.specs.Polygons.{EdgesLeft, entry_edges, polygon_kept, polygon_kept_holds}
use Rattle.left_edges.specs.Reading.{lists_below, lists_many}
use Rattle.left_edges.proofs.Reading.{entry_few}

-- lists of at most so many items each
pub joined_few : {A : Type 0} (most : ℕ) (ls : List (List A)) → ((l : List A) → Mem l ls → length l ≤ most)
    → length (joined ls) ≤ most * length ls
unfolding flat_map
joined_few most [] h = omega arith
joined_few most (l ∷ ls) h =
    let e : most * suc (length ls) ≡ most * length ls + most = omega arith in
    omega (arith, length-append l (joined ls), h l (here refl), joined_few most ls (λ m i. h m (there i)))

-- the edges of the entries of a call of rank 3
pub polygons_few : {n m : ℕ} {inner : List Kept} {level : Level} {rows s : List ℕ} → EdgesLeft n m inner level rows s
    → (to : ℕ → ℕ)
    → length (joined (map (entry_edges to (rows_in n m rows) inner) (lists_left level s))) ≤ 400 * level.count
polygons_few {n} {m} {inner} {level} {rows} {s} left to =
    let all = map (entry_edges to (rows_in n m rows) inner) (lists_left level s) in
    let many : length all ≡ level.count = length-map (lists_left level s) (entry_edges to (rows_in n m rows) inner)
    ∙ lists_many left in
    subst (λ (k : ℕ). length (joined all) ≤ 400 * k) many
    (joined_few 400 all
    (λ l i.
    let r = of_map (entry_edges to (rows_in n m rows) inner) l (lists_left level s) i in
    subst (λ (x : List Pair). length x ≤ 400) (sym r.2)
    (entry_few n m rows inner r.0 left.rows_fit left.each (lists_below left r.0 r.1) to)))

-- what is kept of such a call
pub kept_few : {n m : ℕ} {inner : List Kept} {level : Level} {rows s : List ℕ} → EdgesLeft n m inner level rows s
    → (left_over : ℕ) (i : Inner) → i.answer ≡ answer_left 0 n (rows_in n m rows) inner level s left_over
    → ((x y : ℕ) → x < y → y < n → get_or i.orbit.vertices x 0 < get_or i.orbit.vertices y 0)
    → length (joined (kept_of i).edges) ≤ 400 * facets_in (kept_of i)
unfolding polygon_kept
kept_few {n} {m} {inner} {level} {rows} {s} left left_over i answers rises =
    let e = polygon_kept_holds n (rows_in n m rows) inner level s left_over i answers left.each rises (lists_below left)
    in
    rw (e, lists_many left) (polygons_few left (λ (p : ℕ). get_or i.orbit.vertices p 0))

-- and of all orbits together
edges_sum : (kept : List Kept) → ((k : Kept) → Mem k kept → length (joined k.edges) ≤ 400 * facets_in k)
    → length (joined (flat_map (λ (k : Kept). k.edges) kept)) ≤ 400 * length (flat_map (λ (k : Kept). k.places) kept)
unfolding flat_map
edges_sum [] h = omega arith
edges_sum (k ∷ kept) h =
    omega (
      arith,
      h k (here refl),
      edges_sum kept (λ g i. h g (there i)),
      length-append k.places (flat_map (λ (g : Kept). g.places) kept),
      ap length (flat_map_append (λ (l : List Pair). l) k.edges (flat_map (λ (g : Kept). g.edges) kept)),
      length-append (joined k.edges) (joined (flat_map (λ (g : Kept). g.edges) kept)),
    )

pub edges_few : (kept : List Kept) → ((k : Kept) → Mem k kept → length (joined k.edges) ≤ 400 * facets_in k)
    → length (joined (edges_of kept)) ≤ 400 * length (facets_of kept)
unfolding edges_of places_of
edges_few kept h = omega (arith, places_number kept, edges_sum kept h)
