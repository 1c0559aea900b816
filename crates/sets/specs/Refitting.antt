-- What a refit answers [6.4]: refusal 14 where the plane of a set's points has another number of basis vectors than
-- is wanted. Leans on what the structs mean.
use Rattle.std.specs.Prelude.{◌≡◌, cond, ℕ, ◌<◌, eqb, length}
use Rattle.std.specs.Prelude.{Result, Ok, Err}
use Rattle.definitions.specs.Outcome.{Outcome, refused, answered}
use Rattle.definitions.specs.Subspace.{Subspace}
use Rattle.space.specs.declared.Points.{Points}
use Rattle.space.specs.Meaning.{subspace_of, HoldsSubspace}
use Rattle.space.specs.declared.Subspace.{Subspace as StoredSubspace}

-- the plane of an answer, or refusal 14
unfoldable pub refitted_plane : Result StoredSubspace StoredSubspace → Outcome Subspace
refitted_plane (Ok plane) = answered (subspace_of plane)
refitted_plane (Err plane) = refused 14

-- the plane that is handed back, wanted or not
unfoldable pub plane_in : Result StoredSubspace StoredSubspace → StoredSubspace
plane_in (Ok plane) = plane
plane_in (Err plane) = plane

-- refusal 14: exactly where the number of basis vectors is not the one wanted. What is handed back holds the plane
-- either way, with the d of the points.
pub record Refitted (r : Result StoredSubspace StoredSubspace) (points : Points) (plane : Subspace)
    (wanted : ℕ) : Type 0 where
  pub answer : refitted_plane r ≡ cond (eqb (length plane.basis) wanted) (answered plane) (refused 14)
  pub holds : HoldsSubspace (plane_in r) plane
  pub same_d : 0 < points.n → (plane_in r).d ≡ points.d
