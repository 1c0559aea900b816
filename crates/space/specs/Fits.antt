-- What is true of every struct of this crate: its counts fit its arrays, and zeros stand behind all that they reach.
-- It is said of the fields alone, so that the structs can carry it.
use Rattle.std.specs.Prelude.{◌≡◌, List, [], ◌∷◌, ◌++◌, ℕ, ◌≤◌, Float}
use Rattle.definitions.specs.Vectors.{Vec}
use Rattle.laws.specs.Parts.{rows}
use Rattle.laws.specs.Segments.{onto}
use Rattle.vectors.specs.Meaning.{vector_of, zeros, five}

-- vectors in rows: one behind the other, each in five places
unfoldable pub joined : List Vec → List Float
joined [] = []
joined (v ∷ vs) = five v ++ joined vs

-- the array of so many numbers that holds them
unfoldable pub in_rows : ℕ → List Vec → List Float
in_rows most vs = onto (joined vs) (zeros most)

-- a subspace of d numbers of offset and `rank` basis vectors
pub record SubspaceFits (offset basis : List Float) (d rank : ℕ) : Type 0 where
  pub d_fits : d ≤ 5
  pub rank_fits : rank ≤ 5
  pub offset_is : offset ≡ five (vector_of d offset)
  pub basis_is : basis ≡ in_rows 25 (rows 5 d rank basis)

-- n points of d numbers each
pub record PointsFit (at : List Float) (n d : ℕ) : Type 0 where
  pub n_fits : n ≤ 20
  pub d_fits : d ≤ 5
  pub at_is : at ≡ in_rows 100 (rows 5 d n at)
