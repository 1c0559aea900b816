-- The words of the counts of orbits.
use Rattle.std.specs.Prelude.{List, ◌∷◌, map, ℕ, length}
use Rattle.definitions.specs.Lists.{Pair}

-- how many orbits, and the count of each
unfoldable pub count_words : List Pair → List ℕ
count_words orbits = length orbits ∷ map (λ (p : Pair). p.1) orbits
