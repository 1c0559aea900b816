-- A length between two points of a list is that of the two alone.
use Rattle.std.specs.Prelude.{◌≡◌, refl, List, [], ◌∷◌, ℕ, Float}
use Rattle.definitions.specs.Vectors.{Vec}
use Rattle.definitions.specs.Orbits.{Limits, point_at, breaks_limit}

pub two_alone : (tolerance : Float) (limits : Limits) (ps : List Vec) (v w : ℕ) (p q : Vec) → point_at ps v ≡ p
    → point_at ps w ≡ q → breaks_limit tolerance limits (p ∷ q ∷ []) 0 1 ≡ breaks_limit tolerance limits ps v w
unfolding breaks_limit point_at
two_alone tolerance limits ps v w p q is-p is-q = rw (← is-p, ← is-q) refl
