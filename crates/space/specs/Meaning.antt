-- What the structs of this crate mean in the definitions' terms. Numbers lie in flat arrays, in rows of five; a row
-- means its first d numbers, and zeros stand behind all that the counts reach, so that a struct is known from what it
-- means. Leans on the definitions and on the rows of the crate of laws.
use Rattle.std.specs.Prelude.{is_none, ◌&&◌, ◌≡◌, Bool, List, [], ◌∷◌, ◌++◌, ℕ, leb, length}
use Rattle.definitions.specs.Vectors.{Vec}
use Rattle.definitions.specs.Subspace.{Subspace}
use Rattle.definitions.specs.Orbits.{Limits}
use Rattle.laws.specs.Parts.{rows}
use Rattle.vectors.specs.Meaning.{vector_of}
use Rattle.space.specs.declared.Subspace.{Subspace as StoredSubspace}
use Rattle.space.specs.declared.Points.{Points}
use Rattle.space.specs.declared.Limits.{Limits as StoredLimits}

-- ---- a subspace

unfoldable pub subspace_of : StoredSubspace → Subspace
subspace_of s = record { offset = vector_of s.d s.offset; basis = rows 5 s.d s.rank s.basis }

-- The struct holds a subspace, and no other struct holds the same one: `one_subspace`. That its counts are those of
-- the subspace follows; it is said for whoever calls.
pub record HoldsSubspace (s : StoredSubspace) (meaning : Subspace) : Type 0 where
  pub d_is : s.d ≡ length meaning.offset
  pub rank_is : s.rank ≡ length meaning.basis
  pub means : subspace_of s ≡ meaning

-- the subspace that is one point
unfoldable pub point_alone : Vec → Subspace
point_alone p = record { offset = p; basis = [] }

-- a vector joins the basis
unfoldable pub with_vector : Subspace → Vec → Subspace
with_vector s v = record { offset = s.offset; basis = s.basis ++ (v ∷ []) }

-- [4.4] the basis has d vectors
unfoldable pub is_full_rank : Subspace → Bool
is_full_rank s = leb (length s.offset) (length s.basis)

-- ---- points

unfoldable pub points_of : Points → List Vec
points_of p = rows 5 p.d p.n p.at

-- The struct holds points of d numbers each, and no other struct holds the same ones: `one_points`.
pub record HoldsPoints (p : Points) (d : ℕ) (points : List Vec) : Type 0 where
  pub d_is : p.d ≡ d
  pub n_is : p.n ≡ length points
  pub means : points_of p ≡ points

-- ---- limits

-- [5.3] each limit is absent, or a length
unfoldable pub limits_of : StoredLimits → Limits
limits_of l = record { shortest = l.shortest; longest = l.longest }

-- neither limit is given
abbrev pub no_limits : StoredLimits → Bool
no_limits l = is_none l.shortest && is_none l.longest
