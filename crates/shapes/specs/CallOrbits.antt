-- The hyperplane orbits of a call, by the one name that the definitions have for them: what an orbit's first set and
-- count are, and how many orbits a call of rank 3 has. Leans on Sets, Sizes and FewOrbits.
use Rattle.std.proofs.Math.Path.{subst}
use Rattle.std.specs.Prelude.{List, map, ℕ, length}
use Rattle.std.proofs.lemmas.List.{length-map}
use Rattle.definitions.specs.Vectors.{Vec}
use Rattle.definitions.specs.Subspace.{Subspace, flatten}
use Rattle.definitions.specs.Orbits.{Row, Orbit}
use Rattle.definitions.specs.Recursion.{Rules}
use Rattle.definitions.specs.Faceting.{orbits_of}
use Rattle.laws.specs.Lists.{Mem}
use Rattle.shapes.specs.Sets.{VertexSet, orbit_set}

module _ (more : ℕ) (rules : Rules) (plane : Subspace) (points : List Vec) (rows : List Row) where
  -- the vertices of an orbit's first set ascend, below the number of points
  pub call_orbit_set : (o : Orbit) → Mem o (orbits_of more rules plane points rows)
      → VertexSet (length points) o.vertices
  unfolding orbits_of
  call_orbit_set o m =
      subst (λ (n : ℕ). VertexSet n o.vertices) (length-map points (flatten plane))
      (orbit_set rules.tolerance rules.lengths rules.rule more points (map (flatten plane) points) rows o m)
