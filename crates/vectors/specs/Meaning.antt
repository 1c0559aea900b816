-- A vector of the code is an array of five numbers with a count d: it means its first d numbers. What the code makes
-- has zeros behind them, so that an array is known from what it means. Leans on the definitions and on the laws of
-- segments.
use Rattle.std.specs.Prelude.{List, ℕ, take, replicate, Float}
use Rattle.definitions.specs.Vectors.{Vec, zero64}
use Rattle.laws.specs.Segments.{onto}

abbrev pub vector_of : ℕ → List Float → Vec
vector_of d numbers = take d numbers

unfoldable pub zeros : ℕ → List Float
zeros n = replicate n zero64

-- the array that holds a vector
unfoldable pub five : Vec → List Float
five v = onto v (zeros 5)
