-- Hyperplane sets and rows. A set's vertices ascend below the number of points; rows that keep a set, rewritten to
-- positions in it, are permutations of the positions, the identity first; a refit with so many basis vectors has more
-- points than that. Leans on the definitions and laws.
use Rattle.std.specs.Prelude.{◌≡◌, Bool, true, false, cond, not, ◌&&◌, T, leb, eqb, length, get_or, Float}
use Rattle.std.proofs.Common.{sym, ◌∙◌, eqb→eq, length-append}
use Rattle.std.proofs.Math.Path.{ap, subst}
use mathlib.Core.List.{List, [], ◌∷◌, ◌++◌, map, Memᴰ}
use Prim.Native.Nat.{ℕ, suc, ◌+◌, ◌≤◌, ◌<◌, compare}
use native.Mathlib.Omega.{arith}
use Rattle.std.proofs.Math.Dec.{eqb_refl, compare_is_eq}
use Rattle.std.proofs.lemmas.List.{length-map}
use Rattle.std.specs.Float.Ieee.{lt}
use Rattle.definitions.specs.Lists.{sort_nats, compare_nats, keep, any_of, fresh, place_of, count_from}
use Rattle.definitions.specs.Vectors.{Vec, norm, normalised}
use Rattle.definitions.specs.Subspace.{Subspace, residual, distance, add_point, add_points, from_points, is_hyperplane}
use Rattle.definitions.specs.Orbits.{Row, Limits, Orbit, image, point_at, points_near, set_image, hyperplanes}
use Rattle.definitions.specs.Orbits.{hyperplane_orbits}
use Rattle.definitions.specs.Recursion.{keeps_set, row_within, rows_within}
use Rattle.laws.specs.Bools.{same_test, holds→true}
use Rattle.laws.specs.Lists.{Mem, kept, of_map, in_map, count_at, member_at}
use Rattle.laws.specs.Orders.{nats, nat_lists, lt_compare, compare_lt}
use Rattle.laws.specs.Sorting.{in_sorted}
use Rattle.laws.specs.Ascending.{Ascends, SameItems, same_ascending, equal_tested, tested_equal, ascends_distinct}
use Rattle.laws.proofs.Ascending.{sort_ascending}
use Rattle.laws.specs.Places.{place_in, place_below, place_apart, place_ascends, ascending_at, ascends_map}
use Rattle.laws.specs.Places.{distinct_map, map_self}
use Rattle.laws.specs.Ranges.{Permutes, permutes_at, permutes_apart}
use Rattle.laws.proofs.Ranges.{permutes_of, ascending_full}
use Rattle.shapes.specs.Move.{Into, Rising}

-- ---- sets

-- a set of vertices, below the number of points
pub record VertexSet (n : ℕ) (vertices : List ℕ) : Type 0 where
  pub ascends : Ascends compare vertices
  pub below : (v : ℕ) → Mem v vertices → v < n

near_range : (tolerance : Float) (s : Subspace) (points : List Vec) (v x : ℕ)
    → Mem x (points_near tolerance s points v) → (v ≤ x) × (x < v + length points)
unfolding points_near
near_range tolerance s [] v x m = elim m [ ]
near_range tolerance s (p ∷ ps) v x m = go (lt (distance s p) tolerance) m (near_range tolerance s ps (suc v) x)
  where
    go : (b : Bool) → Mem x (cond b (v ∷ points_near tolerance s ps (suc v)) (points_near tolerance s ps (suc v)))
        → (Mem x (points_near tolerance s ps (suc v)) → (suc v ≤ x) × (x < suc v + length ps))
        → (v ≤ x) × (x < v + suc (length ps))
    go true (Memᴰ.head e) ih = (omega arith, omega arith)
    go true (Memᴰ.tail k) ih = let a = (ih k).0 in let b = (ih k).1 in (omega arith, omega arith)
    go false k ih = let a = (ih k).0 in let b = (ih k).1 in (omega arith, omega arith)

near_ascends : (tolerance : Float) (s : Subspace) (points : List Vec) (v : ℕ)
    → Ascends compare (points_near tolerance s points v)
unfolding points_near
near_ascends tolerance s [] v = tt
near_ascends tolerance s (p ∷ ps) v = go (lt (distance s p) tolerance) (near_ascends tolerance s ps (suc v))
  where
    go : (b : Bool) → Ascends compare (points_near tolerance s ps (suc v))
        → Ascends compare (cond b (v ∷ points_near tolerance s ps (suc v)) (points_near tolerance s ps (suc v)))
    go true h = ((λ y m. let r = (near_range tolerance s ps (suc v) y m).0 in lt_compare v y (omega arith)), h)
    go false h = h

pub near_set : (tolerance : Float) (s : Subspace) (points : List Vec)
    → VertexSet (length points) (points_near tolerance s points 0)
near_set tolerance s points = record {
  ascends = near_ascends tolerance s points 0;
  below = λ v m. let r = (near_range tolerance s points 0 v m).1 in omega arith;
}

hyperplane_sets : (tolerance : Float) (most : ℕ) (flat : List Vec) (rows : List Row) (seen tuples : List (List ℕ))
    (o : Orbit) → Mem o (hyperplanes tolerance most flat rows seen tuples) → VertexSet (length flat) o.vertices
unfolding hyperplanes
hyperplane_sets tolerance most flat rows seen [] o m = elim m [ ]
hyperplane_sets tolerance most flat rows seen (tuple ∷ ts) o m =
    let s = from_points tolerance (map (point_at flat) tuple) in
    let set = points_near tolerance s flat 0 in
    let joined = fresh compare_nats seen (map (set_image set) rows) in
    go s joined (is_hyperplane s && not (any_of (λ (q : List ℕ). compare_is_eq (compare_nats set q)) seen)
    && leb (length set) most) m (hyperplane_sets tolerance most flat rows seen ts o)
    (hyperplane_sets tolerance most flat rows (joined ++ seen) ts o)
  where
    go : (s : Subspace) (joined : List (List ℕ)) (b : Bool)
        → Mem o (cond b (record {
          vertices = points_near tolerance s flat 0;
          count = length joined;
        } ∷ hyperplanes tolerance most flat rows (joined ++ seen) ts) (hyperplanes tolerance most flat rows seen ts))
        → (Mem o (hyperplanes tolerance most flat rows seen ts) → VertexSet (length flat) o.vertices)
        → (Mem o (hyperplanes tolerance most flat rows (joined ++ seen) ts) → VertexSet (length flat) o.vertices)
        → VertexSet (length flat) o.vertices
    go s joined true (Memᴰ.head e) old new =
        subst (λ (x : Orbit). VertexSet (length flat) x.vertices) (sym e) (near_set tolerance s flat)
    go s joined true (Memᴰ.tail k) old new = new k
    go s joined false k old new = old k

-- every orbit's first set
pub orbit_set : (tolerance : Float) (limits : Limits) (rule more : ℕ) (points flat : List Vec) (rows : List Row)
    (o : Orbit) → Mem o (hyperplane_orbits tolerance limits rule more points flat rows)
    → VertexSet (length flat) o.vertices
unfolding hyperplane_orbits
orbit_set tolerance limits rule more points flat rows o m = hyperplane_sets tolerance _ flat rows [] _ o m

-- the vertex at a place rises with the place
pub set_rising : (n : ℕ) (vertices : List ℕ) → VertexSet n vertices
    → Rising (length vertices) n (λ (v : ℕ). get_or vertices v 0)
set_rising n vertices h = record {
  below = λ i k. h.below (get_or vertices i 0) (member_at vertices i 0 k);
  rises =
      λ i j a b.
      compare_lt (get_or vertices i 0) (get_or vertices j 0) (ascending_at compare nats 0 vertices h.ascends i j a b);
}

-- ---- rows

-- permutations of the vertices, the identity first
pub record Rows (n : ℕ) (rows : List Row) : Type 0 where
  pub others : List Row
  pub identity : rows ≡ count_from 0 n ∷ others
  pub permute : (row : Row) → Mem row rows → Permutes n row

pub row_into : (n : ℕ) (row : Row) → Permutes n row → Into n n (image row)
unfolding image
row_into n row p = record { below = permutes_at n row p; apart = permutes_apart n row p }

-- two sets are equal exactly when they have the same vertices
pub same_set : (n : ℕ) (k l : List ℕ) → VertexSet n k → VertexSet n l → SameItems k l → k ≡ l
same_set n k l h j same = same_ascending compare nats k l h.ascends j.ascends same

-- ---- rows within a set

module _ (n : ℕ) (vertices : List ℕ) (h : VertexSet n vertices) where
  abbrev k : ℕ
  k = length vertices

  place_by_compare : (x : ℕ) → place_of (eqb x) vertices ≡ place_in compare nats vertices x
  place_by_compare x = ap (λ (p : ℕ → Bool). place_of p vertices) (λ t y. test y t)
    where
      test : (y : ℕ) → eqb x y ≡ compare_is_eq (compare x y)
      test y =
          same_test (eqb x y) (compare_is_eq (compare x y)) (λ t. equal_tested compare nats x y (eqb→eq x y t))
          (λ t. subst (λ (z : ℕ). T (eqb x z)) (tested_equal compare nats x y t) (eqb_refl x))

  -- an image in the set
  kept_image : (row : Row) → T (keeps_set vertices row) → (v : ℕ) → Mem v vertices → Mem (image row v) vertices
  unfolding keeps_set set_image sort_nats
  kept_image row t v m =
      subst (λ (l : List ℕ). Mem (image row v) l)
      (tested_equal compare_nats nat_lists (set_image vertices row) vertices t)
      (in_sorted compare (image row v) (map (image row) vertices) (in_map (image row) v vertices m))

  row_within_holds : (row : Row) → Permutes n row → T (keeps_set vertices row) → Permutes k (row_within vertices row)
  unfolding row_within image
  row_within_holds row p t =
      let to : ℕ → ℕ = λ v. place_of (eqb (image row v)) vertices in
      let same : (v : ℕ) → to v ≡ place_in compare nats vertices (image row v) = λ v. place_by_compare (image row v) in
      permutes_of k (row_within vertices row)
      (distinct_map compare nats compare nats to (λ v. Mem v vertices)
      (λ v w i j e.
      permutes_apart n row p v w (h.below v i) (h.below w j)
      (place_apart compare nats 0 (image row v) (image row w) vertices (kept_image row t v i) (kept_image row t w j)
      (sym (same v) ∙ e ∙ same w)))
      vertices (λ v i. i) (ascends_distinct compare nats vertices h.ascends))
      (λ x m.
      let r = of_map to x vertices m in
      subst (λ (z : ℕ). z < k) (sym (r.2 ∙ same r.0))
      (place_below compare nats (image row r.0) vertices (kept_image row t r.0 r.1)))
      (length-map vertices to)

  identity_image : (v : ℕ) → Mem v vertices → image (count_from 0 n) v ≡ v
  unfolding image
  identity_image v m = let b = h.below v m in count_at 0 n v 0 b ∙ omega arith

  identity_kept : T (keeps_set vertices (count_from 0 n))
  unfolding keeps_set set_image sort_nats
  identity_kept =
      equal_tested compare_nats nat_lists (set_image vertices (count_from 0 n)) vertices
      (ap sort_nats (map_self (image (count_from 0 n)) vertices identity_image)
      ∙ sort_ascending compare nats vertices h.ascends)

  identity_within : row_within vertices (count_from 0 n) ≡ count_from 0 k
  unfolding row_within
  identity_within =
      let to : ℕ → ℕ = λ v. place_of (eqb (image (count_from 0 n) v)) vertices in
      let same : (v : ℕ) → Mem v vertices → to v ≡ place_in compare nats vertices v =
      λ v m. ap (λ (x : ℕ). place_of (eqb x) vertices) (identity_image v m) ∙ place_by_compare v in
      ascending_full 0 k (row_within vertices (count_from 0 n))
      (ascends_map compare nats compare nats to (λ v. Mem v vertices)
      (λ v w i j e.
      let q = place_ascends compare nats 0 v w vertices h.ascends i j e in
      let a = same v i in
      let b = same w j in lt_compare (to v) (to w) (omega arith)) vertices (λ v i. i) h.ascends)
      (λ x m.
      let r = of_map to x vertices m in
      let b = subst (λ (z : ℕ). z < k) (sym (r.2 ∙ same r.0 r.1)) (place_below compare nats r.0 vertices r.1) in
      (omega arith, omega arith))
      (length-map vertices to)

  -- [6.5] rows within a set are permutations of its places
  pub rows_within_holds : (rows : List Row) → Rows n rows → Rows k (rows_within vertices rows)
  unfolding rows_within keep
  rows_within_holds rows given = record {
    others = map (row_within vertices) (keep (keeps_set vertices) given.others);
    identity =
        ap (rows_within vertices) given.identity
        ∙ ap (λ (b : Bool). map (row_within vertices)
        (cond b (count_from 0 n ∷ keep (keeps_set vertices) given.others) (keep (keeps_set vertices) given.others)))
        (holds→true (keeps_set vertices (count_from 0 n)) identity_kept)
        ∙ ap (λ (r : Row). r ∷ map (row_within vertices) (keep (keeps_set vertices) given.others)) identity_within;
    permute = λ row m.
        let r = of_map (row_within vertices) row (keep (keeps_set vertices) rows) m in
        let q = kept (keeps_set vertices) r.0 rows r.1 in
        subst (Permutes k) (sym r.2) (row_within_holds r.0 (given.permute r.0 q.0) q.1);
  }

-- ---- the number of points behind a refit

add_point_basis : (tolerance : Float) (s : Subspace) (p : Vec)
    → length (add_point tolerance s p).basis ≤ suc (length s.basis)
unfolding add_point
add_point_basis tolerance s p = go (lt tolerance (norm (residual s p)))
  where
    go : (b : Bool) → length (cond b (record {
      offset = s.offset;
      basis = s.basis ++ (normalised (residual s p) ∷ []);
    }) s).basis ≤ suc (length s.basis)
    go true = let e = length-append s.basis (normalised (residual s p) ∷ []) in omega arith
    go false = omega arith

add_points_basis : (tolerance : Float) (s : Subspace) (ps : List Vec)
    → length (add_points tolerance s ps).basis ≤ length s.basis + length ps
unfolding add_points
add_points_basis tolerance s [] = omega arith
add_points_basis tolerance s (p ∷ ps) =
    let a = add_point_basis tolerance s p in
    let b = add_points_basis tolerance (add_point tolerance s p) ps in
    go (leb (length s.offset) (length s.basis)) (omega arith)
  where
    go : (t : Bool)
        → length (add_points tolerance (add_point tolerance s p) ps).basis ≤ length s.basis + suc (length ps)
        → length (cond t s (add_points tolerance (add_point tolerance s p) ps)).basis ≤ length s.basis + suc (length ps)
    go true h = omega arith
    go false h = h

-- a refit with some basis vectors has one point more at least
pub points_of_refit : (tolerance : Float) (ps : List Vec) (wanted : ℕ)
    → length (from_points tolerance ps).basis ≡ suc wanted → suc (suc wanted) ≤ length ps
unfolding from_points
points_of_refit tolerance [] wanted e = absurd (omega arith)
points_of_refit tolerance (p ∷ ps) wanted e =
    let r = add_points_basis tolerance (record { offset = p; basis = [] }) ps in
    omega arith
