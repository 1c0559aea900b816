-- Theorems on the definitions of specs/Wholes.
use Rattle.std.specs.Prelude.{◌≡◌, List, [], ℕ, length, Float}
use Rattle.definitions.specs.Vectors.{Vec}
use Rattle.vectors.specs.Meaning.{vector_of, five}
use Rattle.vectors.specs.Wholes.{five_means}

-- ---- a front, and what stands behind it

-- what an array that holds a vector means, and what stands behind it
module _ (r : List Float) (v : Vec) (d : ℕ) (is : r ≡ five v) (long : length v ≡ d) where
  pub five_own : r ≡ five (vector_of d r)
  five_own = rw (five_means r v d is long) is
