-- A call has no more hyperplane orbits than tuples of points, at every rank from 3: each tuple opens one orbit at
-- most, and openers have no more tuples than all pairs would. At rank 3 these are the pairs; four of ten points are
-- 210. Leans on Sizes and AllPairs.
use Rattle.std.specs.Prelude.{◌≡◌, refl, Bool, true, false, cond, not, ◌&&◌, ◌||◌, ℕ, suc, ◌+◌, ◌*◌, ◌≤◌, T, leb}
use Rattle.std.specs.Prelude.{length, Float}
use Rattle.std.proofs.Common.{ap, ◌∙◌, arith, mul-le-mul_right, leb→le, length-append}
use mathlib.Core.List.{List, [], ◌∷◌, ◌++◌, map, flat_map}
use Rattle.std.proofs.Math.Dec.{compare_is_eq}
use Rattle.std.proofs.lemmas.List.{length-map}
use Rattle.definitions.specs.Lists.{Pair, compare_nats, member_nat, member_pair, any_of, all_of, keep, choose, fresh}
use Rattle.definitions.specs.Lists.{count_from}
use Rattle.definitions.specs.Vectors.{Vec}
use Rattle.definitions.specs.Subspace.{from_points, is_hyperplane}
use Rattle.definitions.specs.Orbits.{Row, Limits, Orbit, image, pair_image, vertex_openers, breaks_limit, pair_openers}
use Rattle.definitions.specs.Orbits.{above, pairs_from, tuples, point_at, points_near, set_image, most_vertices}
use Rattle.definitions.specs.Orbits.{hyperplanes, hyperplane_orbits}
use Rattle.laws.specs.Lists.{all_of_holds, flat_map_append, in_count, keep_few}
use Rattle.shapes.specs.AllPairs.{all_pairs}

-- ---- openers

-- what pairs that open have is no more than what all pairs would
openers_few : {A : Type 0} (g : Pair → List A) (skip : Pair → Bool) (rows : List Row) (marked ps : List Pair)
    → length (flat_map g (pair_openers skip rows marked ps)) ≤ length (flat_map g ps)
unfolding pair_openers flat_map
openers_few g skip rows marked [] = omega arith
openers_few g skip rows marked (p ∷ ps) =
    let after = map (pair_image p) rows ++ marked in
    go (member_pair p marked || skip p) (pair_openers skip rows marked ps) (pair_openers skip rows after ps)
    (openers_few g skip rows marked ps) (openers_few g skip rows after ps)
  where
    go : (b : Bool) (old new : List Pair) → length (flat_map g old) ≤ length (flat_map g ps)
        → length (flat_map g new) ≤ length (flat_map g ps)
        → length (flat_map g (cond b old (p ∷ new))) ≤ length (g p ++ flat_map g ps)
    go true old new h k = let e = length-append (g p) (flat_map g ps) in omega arith
    go false old new h k =
        let e = length-append (g p) (flat_map g ps) in
        let f = length-append (g p) (flat_map g new) in
        omega arith

-- what openers open is no more than what all vertices would
vertices_few : {A : Type 0} (g : ℕ → List A) (rows : List Row) (seen vs : List ℕ)
    → length (flat_map g (vertex_openers rows seen vs)) ≤ length (flat_map g vs)
unfolding vertex_openers flat_map
vertices_few g rows seen [] = omega arith
vertices_few g rows seen (v ∷ vs) =
    let after = map (λ (row : Row). image row v) rows ++ seen in
    go (member_nat v seen) (vertex_openers rows seen vs) (vertex_openers rows after vs) (vertices_few g rows seen vs)
    (vertices_few g rows after vs)
  where
    go : (b : Bool) (old new : List ℕ) → length (flat_map g old) ≤ length (flat_map g vs)
        → length (flat_map g new) ≤ length (flat_map g vs)
        → length (flat_map g (cond b old (v ∷ new))) ≤ length (g v ++ flat_map g vs)
    go true old new h k = let e = length-append (g v) (flat_map g vs) in omega arith
    go false old new h k =
        let e = length-append (g v) (flat_map g vs) in
        let f = length-append (g v) (flat_map g new) in
        omega arith

-- ---- tuples

-- all pairs of n vertices, each with `more` vertices above it
unfoldable pub all_tuples : ℕ → ℕ → List (List ℕ)
all_tuples n more = flat_map (λ (p : Pair). choose (above n p.1) more) (all_pairs n)

tuples_few : (breaks : ℕ → ℕ → Bool) (n more : ℕ) (p : Pair)
    → length (tuples breaks n more p) ≤ length (choose (above n p.1) more)
unfolding tuples
tuples_few breaks n more p =
    let test : List ℕ → Bool = all_of (λ (u : ℕ). not (breaks p.0 u)) in
    let many = length-map (keep test (choose (above n p.1) more)) (λ (added : List ℕ). p.0 ∷ p.1 ∷ added) in
    let few = keep_few test (choose (above n p.1) more) in
    omega arith

flat_few : {A B C : Type 0} (f : A → List B) (g : A → List C) (l : List A) → ((x : A) → length (f x) ≤ length (g x))
    → length (flat_map f l) ≤ length (flat_map g l)
unfolding flat_map
flat_few f g [] h = omega arith
flat_few f g (x ∷ l) h =
    let e = length-append (f x) (flat_map f l) in
    let d = length-append (g x) (flat_map g l) in
    let a = h x in
    let b = flat_few f g l h in
    omega arith

flat_twice : {A B C : Type 0} (g : B → List C) (f : A → List B) (l : List A)
    → flat_map g (flat_map f l) ≡ flat_map (λ (x : A). flat_map g (f x)) l
unfolding flat_map
flat_twice g f [] = refl
flat_twice {C = C} g f (x ∷ l) = flat_map_append g (f x) (flat_map f l)
    ∙ ap (λ (r : List C). flat_map g (f x) ++ r) (flat_twice g f l)

-- ---- orbits

hyperplanes_few : (tolerance : Float) (most : ℕ) (flat : List Vec) (rows : List Row) (seen ts : List (List ℕ))
    → length (hyperplanes tolerance most flat rows seen ts) ≤ length ts
unfolding hyperplanes
hyperplanes_few tolerance most flat rows seen [] = omega arith
hyperplanes_few tolerance most flat rows seen (tuple ∷ ts) =
    let s = from_points tolerance (map (point_at flat) tuple) in
    let set = points_near tolerance s flat 0 in
    let joined = fresh compare_nats seen (map (set_image set) rows) in
    go (is_hyperplane s && not (any_of (λ (q : List ℕ). compare_is_eq (compare_nats set q)) seen)
    && leb (length set) most) (record { vertices = set; count = length joined })
    (hyperplanes tolerance most flat rows seen ts) (hyperplanes tolerance most flat rows (joined ++ seen) ts)
    (hyperplanes_few tolerance most flat rows seen ts) (hyperplanes_few tolerance most flat rows (joined ++ seen) ts)
  where
    go : (b : Bool) (o : Orbit) (old new : List Orbit) → length old ≤ length ts → length new ≤ length ts
        → length (cond b (o ∷ new) old) ≤ suc (length ts)
    go true o old new h k = omega arith
    go false o old new h k = omega arith

-- no more than tuples
pub orbits_tuples : (tolerance : Float) (limits : Limits) (rule more : ℕ) (points flat : List Vec) (rows : List Row)
    → length (hyperplane_orbits tolerance limits rule more points flat rows) ≤ length (all_tuples (length points) more)
unfolding hyperplane_orbits pairs_from all_pairs all_tuples
orbits_tuples tolerance limits rule more points flat rows =
    let n = length points in
    let breaks = breaks_limit tolerance limits points in
    let openers = vertex_openers rows [] (count_from 0 n) in
    let from : ℕ → List Pair = λ v. map (λ (w : ℕ). (v, w)) (above n v) in
    let skip : Pair → Bool = λ p. breaks p.0 p.1 in
    let added : Pair → List (List ℕ) = λ p. choose (above n p.1) more in
    let pairs = pair_openers skip rows [] (pairs_from n openers) in
    let a =
    hyperplanes_few tolerance (most_vertices rule more n) flat rows [] (flat_map (tuples breaks n more) pairs) in
    let b = flat_few (tuples breaks n more) added pairs (tuples_few breaks n more) in
    let c = openers_few added skip rows [] (pairs_from n openers) in
    let d = vertices_few (λ (v : ℕ). flat_map added (from v)) rows [] (count_from 0 n) in
    let e = ap length (flat_twice added from openers) in
    let f = ap length (flat_twice added from (count_from 0 n)) in
    omega arith

-- the pairs of 20 points at most
pub pairs_few : (n many : ℕ) → n ≤ 20 → 2 * many + n ≤ n * n → many ≤ 190
pairs_few n many h k = let s = mul-le-mul_right n h in omega arith

-- four of ten points at most, evaluated for each number of points
few_of_ten : T (all_of (λ (n : ℕ). leb (length (all_tuples n 2)) 210) (count_from 0 11))
unfolding all_tuples all_pairs pairs_from above choose flat_map count_from all_of
few_of_ten = tt

pub tuples_of_ten : (n : ℕ) → n ≤ 10 → length (all_tuples n 2) ≤ 210
tuples_of_ten n h =
    leb→le (length (all_tuples n 2)) 210 (all_of_holds (λ (k : ℕ). leb (length (all_tuples k 2)) 210)
    (count_from 0 11) few_of_ten n (in_count 0 11 n (omega arith) (omega arith)))
