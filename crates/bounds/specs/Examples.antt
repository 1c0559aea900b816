-- What the definitions of this crate give at some values, evaluated.
use Rattle.std.specs.Prelude.{◌≡◌, refl, Bool, true, false, [], ◌∷◌, ℕ, ◌+◌, ◌*◌, leb, pos}
use Rattle.std.specs.Float.{fin}
use Rattle.definitions.specs.Open.{open_all}
use Rattle.definitions.specs.Vectors.{dot, has_root}
use Rattle.bounds.specs.Calls.{bound_at}

-- The promise says something: there are finite vectors whose norm asks for a root without a value. (2 ^ 512)² is an
-- infinity, (2 ^ 511)² is not.
long_vector : has_root (dot (fin false 1 (pos 512) ∷ []) (fin false 1 (pos 512) ∷ [])) ≡ false
unfolding open_all
long_vector = refl

shorter_vector : has_root (dot (fin false 1 (pos 511) ∷ []) (fin false 1 (pos 511) ∷ [])) ≡ true
unfolding open_all
shorter_vector = refl

-- for points of 5 coordinates there is room at depth 67 and none at depth 68
room : ℕ → Bool
room depth = leb (2 * bound_at 5 16 depth + 12 + 7 * 5) 1023

deepest_room : room 67 ≡ true
unfolding bound_at room
deepest_room = refl

no_room_below : room 68 ≡ false
unfolding bound_at room
no_room_below = refl
