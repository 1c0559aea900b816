-- Small cases of `label_irc` [8.8], on lists of numbers, evaluated.
use Rattle.std.specs.Prelude.{◌≡◌, refl, [], ◌∷◌}
use Prim.Native.Nat.{compare}
use Rattle.definitions.specs.Figures.{label_irc}
use Rattle.definitions.specs.Open.{open_all}

-- 1 / 2 / 2,1: the last holds 2, and 1 is left, but no list behind the second is 1
pub left_before : label_irc compare ((1 ∷ []) ∷ (2 ∷ []) ∷ (2 ∷ 1 ∷ []) ∷ []) ≡ []
unfolding open_all
left_before = refl

-- 0 / 0,0: what is left of the second is the first itself, which is not behind itself
pub left_itself : label_irc compare ((0 ∷ []) ∷ (0 ∷ 0 ∷ []) ∷ []) ≡ []
unfolding open_all
left_itself = refl

-- 0,1,2 / 0,2 / 1: the first holds the second, and leaves the third; it does not hold itself
pub left_behind : label_irc compare ((0 ∷ 1 ∷ 2 ∷ []) ∷ (0 ∷ 2 ∷ []) ∷ (1 ∷ []) ∷ [])
    ≡ record { whole = 0; first = 1; second = 2 } ∷ []
unfolding open_all
left_behind = refl

-- 0 / 0,1 / 0,1,2 / 2: the first list found inside decides. 0 is found in 0,1,2 and leaves 1,2, which is none of
-- them, so that 0,1 and 2 are not tried.
pub first_decides : label_irc compare ((0 ∷ []) ∷ (0 ∷ 1 ∷ []) ∷ (0 ∷ 1 ∷ 2 ∷ []) ∷ (2 ∷ []) ∷ []) ≡ []
unfolding open_all
first_decides = refl
