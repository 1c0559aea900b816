-- `filter_irc` [18.2], evaluated on small lists. Jobs are evaluated in `crates/evaluated`.
use Rattle.std.specs.Prelude.{◌≡◌, refl, [], ◌∷◌}
use Prim.Native.Nat.{compare}
use Rattle.definitions.specs.Plain.{filter_irc}
use Rattle.definitions.specs.Open.{open_all}

-- 0 / 0: of two equal lists neither is kept
pub equal_lists : filter_irc compare ((0 ∷ []) ∷ (0 ∷ []) ∷ []) ≡ []
unfolding open_all
equal_lists = refl

-- 0 / 0,2: the second holds the first. It has no label, for 2 is no list
pub no_label : filter_irc compare ((0 ∷ []) ∷ (0 ∷ 2 ∷ []) ∷ []) ≡ 0 ∷ []
unfolding open_all
no_label = refl

-- 0,4 / 4: the first holds the second, which begins above it, and is kept
pub begins_above_holds : filter_irc compare ((0 ∷ 4 ∷ []) ∷ (4 ∷ []) ∷ []) ≡ 0 ∷ 1 ∷ []
unfolding open_all
begins_above_holds = refl

-- 1,2 / 1,4,2: the second holds the first, but the walk ends at 4, which is above 2
pub walk_ends_holds : filter_irc compare ((1 ∷ 2 ∷ []) ∷ (1 ∷ 4 ∷ 2 ∷ []) ∷ []) ≡ 0 ∷ 1 ∷ []
unfolding open_all
walk_ends_holds = refl
