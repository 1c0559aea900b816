-- Theorems on the definitions of specs/CallOrbits.
use Rattle.std.proofs.Common.{sym}
use Rattle.std.proofs.Math.Path.{subst}
use Rattle.std.specs.Prelude.{List, map, ℕ, ◌+◌, ◌*◌, ◌≤◌, length}
use Rattle.std.proofs.lemmas.List.{length-map}
use Rattle.definitions.specs.Vectors.{Vec}
use Rattle.definitions.specs.Subspace.{Subspace, flatten}
use Rattle.definitions.specs.Orbits.{Row, Orbit}
use Rattle.definitions.specs.Recursion.{Rules}
use Rattle.definitions.specs.Faceting.{orbits_of}
use Rattle.laws.specs.Lists.{Mem}
use Rattle.shapes.specs.Sets.{Rows}
use Rattle.shapes.specs.Sizes.{Counted}
use Rattle.shapes.proofs.Sizes.{orbit_counted}
use Rattle.shapes.specs.FewOrbits.{pairs_few}
use Rattle.shapes.proofs.FewOrbits.{orbits_few}

module _ (more : ℕ) (rules : Rules) (plane : Subspace) (points : List Vec) (rows : List Row) where
  -- every orbit has a set, and no more than rows
  pub call_orbit_counted : Rows (length points) rows → (o : Orbit) → Mem o (orbits_of more rules plane points rows)
      → Counted rows o.count
  unfolding orbits_of
  call_orbit_counted good o m =
      orbit_counted rules.tolerance rules.lengths rules.rule more points (map (flatten plane) points) rows
      (subst (λ (n : ℕ). Rows n rows) (sym (length-map points (flatten plane))) good) o m

-- the orbits of a call of rank 3 are no more than its pairs of points
pub call_orbits_few : (rules : Rules) (plane : Subspace) (points : List Vec) (rows : List Row)
    → 2 * length (orbits_of 0 rules plane points rows) + length points ≤ length points * length points
unfolding orbits_of
call_orbits_few rules plane points rows =
    orbits_few rules.tolerance rules.lengths rules.rule points (map (flatten plane) points) rows

pub call_orbits_most : (rules : Rules) (plane : Subspace) (points : List Vec) (rows : List Row) → length points ≤ 20
    → length (orbits_of 0 rules plane points rows) ≤ 190
call_orbits_most rules plane points rows few =
    pairs_few (length points) (length (orbits_of 0 rules plane points rows)) few
    (call_orbits_few rules plane points rows)
