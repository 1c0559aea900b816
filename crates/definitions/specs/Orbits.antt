-- Orbits of vertices, pairs and hyperplanes in one call: docs/SPECIFICATION.md, chapter 5. Leans on Subspace.
use Rattle.std.specs.Prelude.{Bool, false, cond, not, ◌&&◌, ◌||◌, ℕ, suc, ◌-◌, min, max, leb, eqb, length, get_or}
use Rattle.std.specs.Prelude.{Float}
use mathlib.Core.List.{List, [], ◌∷◌, ◌++◌, map, flat_map}
use Rattle.std.specs.Prelude.{Option, Some, None}
use Rattle.std.proofs.Math.Dec.{compare_is_eq}
use Rattle.std.specs.Float.{binary64}
use Rattle.std.specs.Float.Ieee.{add, sub, lt}
use Rattle.definitions.specs.Lists.{Pair, member_nat, member_pair, sort_nats, any_of, all_of, keep, choose, count_from}
use Rattle.definitions.specs.Lists.{fresh, compare_nats}
use Rattle.definitions.specs.Vectors.{Vec, norm, minus}
use Rattle.definitions.specs.Subspace.{Subspace, from_points, is_hyperplane, distance}

-- [5.1] A row is a permutation of the vertices: v goes to the number at place v.
abbrev pub Row : Type 0
Row = List ℕ

-- [5.1] where a row carries a vertex
unfoldable pub image : Row → ℕ → ℕ
image row v = get_or row v 0

-- [5.1] the point with a vertex's number
unfoldable pub point_at : List Vec → ℕ → Vec
point_at points v = get_or points v []

-- [5.3] min and max, each there or not
pub record Limits : Type 0 where
  pub shortest : Option Float
  pub longest : Option Float

-- ---- vertices

-- [5.2] a vertex that is not seen opens an orbit; where the rows carry it is seen from then on
unfoldable pub vertex_openers : List Row → List ℕ → List ℕ → List ℕ
vertex_openers rows seen [] = []
vertex_openers rows seen (v ∷ vs) =
    let old = vertex_openers rows seen vs in
    let new = v ∷ vertex_openers rows (map (λ (row : Row). image row v) rows ++ seen) vs in
    cond (member_nat v seen) old new

-- ---- pairs

-- [5.3] below min less the tolerance
unfoldable pub too_short : Float → Option Float → Float → Bool
too_short tolerance None length = false
too_short tolerance (Some shortest) length = lt length (sub binary64 shortest tolerance)

-- [5.3] above max and the tolerance
unfoldable pub too_long : Float → Option Float → Float → Bool
too_long tolerance None length = false
too_long tolerance (Some longest) length = lt (add binary64 longest tolerance) length

-- [5.3] the length between two vertices, of the points as passed, breaks a limit
unfoldable pub breaks_limit : Float → Limits → List Vec → ℕ → ℕ → Bool
breaks_limit tolerance limits points v w =
    let length = norm (minus (point_at points w) (point_at points v)) in
    too_short tolerance limits.shortest length || too_long tolerance limits.longest length

-- [5.4] a pair's image, the smaller vertex first
unfoldable pub pair_image : Pair → Row → Pair
pair_image p row = (min (image row p.0) (image row p.1), max (image row p.0) (image row p.1))

-- [5.4] a pair that is marked or breaks a limit opens nothing and marks nothing; any other opens an orbit and marks
-- its images
unfoldable pub pair_openers : (Pair → Bool) → List Row → List Pair → List Pair → List Pair
pair_openers skip rows marked [] = []
pair_openers skip rows marked (p ∷ ps) =
    let old = pair_openers skip rows marked ps in
    let new = p ∷ pair_openers skip rows (map (pair_image p) rows ++ marked) ps in
    cond (member_pair p marked || skip p) old new

-- [5.4] the vertices above v, of n
unfoldable pub above : ℕ → ℕ → List ℕ
above n v = count_from (suc v) (n - suc v)

-- [5.4] the pairs of each opener with the vertices above it, in order
unfoldable pub pairs_from : ℕ → List ℕ → List Pair
pairs_from n openers = flat_map (λ (v : ℕ). map (λ (w : ℕ). (v, w)) (above n v)) openers

-- ---- hyperplanes

-- [5.5] a pair with `more` vertices above it, where none of those added breaks a limit with the first; `more` is
-- rank − 3
unfoldable pub tuples : (ℕ → ℕ → Bool) → ℕ → ℕ → Pair → List (List ℕ)
tuples breaks n more p =
    map (λ (added : List ℕ). p.0 ∷ p.1 ∷ added)
    (keep (all_of (λ (u : ℕ). not (breaks p.0 u))) (choose (above n p.1) more))

-- [5.6] the vertices whose distance is below the tolerance, ascending from v on
unfoldable pub points_near : Float → Subspace → List Vec → ℕ → List ℕ
points_near tolerance s [] v = []
points_near tolerance s (p ∷ ps) v =
    let rest = points_near tolerance s ps (suc v) in
    cond (lt (distance s p) tolerance) (v ∷ rest) rest

-- [5.1] a set's image, ascending
unfoldable pub set_image : List ℕ → Row → List ℕ
set_image vertices row = sort_nats (map (image row) vertices)

-- [5.7] a hyperplane orbit: its first set, and how many sets it has
pub record Orbit : Type 0 where
  pub vertices : List ℕ
  pub count : ℕ

-- [5.8] The most vertices that a set may have to open an orbit. Under rule 2 a line of a rank 3 call may have two;
-- elsewhere a set may have all n. `more` is rank − 3.
unfoldable pub most_vertices : ℕ → ℕ → ℕ → ℕ
most_vertices rule more n = cond (eqb rule 2 && eqb more 0) 2 n

-- [5.6] [5.7] [5.8] A tuple that makes no hyperplane, or whose set is seen or has more than `most` vertices, is
-- passed over. Any other opens an orbit; its images that are new join it and are seen from then on.
unfoldable pub hyperplanes : Float → ℕ → List Vec → List Row → List (List ℕ) → List (List ℕ) → List Orbit
hyperplanes tolerance most flat rows seen [] = []
hyperplanes tolerance most flat rows seen (tuple ∷ ts) =
    let s = from_points tolerance (map (point_at flat) tuple) in
    let set = points_near tolerance s flat 0 in
    let joined = fresh compare_nats seen (map (set_image set) rows) in
    let orbit : Orbit = record { vertices = set; count = length joined } in
    let old = hyperplanes tolerance most flat rows seen ts in
    let new = orbit ∷ hyperplanes tolerance most flat rows (joined ++ seen) ts in
    cond (is_hyperplane s && not (any_of (λ (q : List ℕ). compare_is_eq (compare_nats set q)) seen)
    && leb (length set) most) new old

-- [5.7] all hyperplane orbits of a call, from its points as passed and its flattened points
unfoldable pub hyperplane_orbits : Float → Limits → ℕ → ℕ → List Vec → List Vec → List Row → List Orbit
hyperplane_orbits tolerance limits rule more points flat rows =
    let n = length points in
    let breaks = breaks_limit tolerance limits points in
    let pairs = pair_openers (λ (p : Pair). breaks p.0 p.1) rows []
    (pairs_from n (vertex_openers rows [] (count_from 0 n))) in
    hyperplanes tolerance (most_vertices rule more n) flat rows [] (flat_map (tuples breaks n more) pairs)
