-- Theorems on the definitions of specs/FewOrbits.
use Rattle.std.specs.Prelude.{◌≡◌, refl, ℕ, ◌+◌, ◌*◌, ◌≤◌, length, Float}
use Rattle.std.proofs.Common.{arith, length-append}
use mathlib.Core.List.{List, [], ◌∷◌, flat_map}
use Rattle.definitions.specs.Lists.{Pair, choose}
use Rattle.definitions.specs.Vectors.{Vec}
use Rattle.definitions.specs.Orbits.{Row, Limits, above, hyperplane_orbits}
use Rattle.shapes.specs.Sizes.{edges_few}
use Rattle.shapes.specs.AllPairs.{all_pairs, of_all_pairs, all_pairs_ascend}
use Rattle.shapes.specs.FewOrbits.{all_tuples, orbits_tuples}

-- ---- tuples

-- at rank 3 a tuple is its pair
pairs_tuples : (n : ℕ) → length (all_tuples n 0) ≤ length (all_pairs n)
unfolding all_tuples choose flat_map
pairs_tuples n = ones (all_pairs n)
  where
    one : (l : List ℕ) → length (choose l 0) ≡ 1
    one [] = refl
    one (x ∷ l) = refl

    ones : (ps : List Pair) → length (flat_map (λ (p : Pair). choose (above n p.1) 0) ps) ≤ length ps
    ones [] = omega arith
    ones (p ∷ ps) =
        let e = length-append (choose (above n p.1) 0) (flat_map (λ (q : Pair). choose (above n q.1) 0) ps) in
        let a = one (above n p.1) in
        let b = ones ps in
        omega arith

-- ---- orbits

-- at rank 3 no more than n (n − 1) / 2
pub orbits_few : (tolerance : Float) (limits : Limits) (rule : ℕ) (points flat : List Vec) (rows : List Row)
    → 2 * length (hyperplane_orbits tolerance limits rule 0 points flat rows) + length points
    ≤ length points * length points
orbits_few tolerance limits rule points flat rows =
    let n = length points in
    let a = orbits_tuples tolerance limits rule 0 points flat rows in
    let b = pairs_tuples n in
    let e = edges_few n (all_pairs n) (record { ascends = all_pairs_ascend n; proper = of_all_pairs n }) in
    omega arith
