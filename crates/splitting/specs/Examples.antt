-- Small cases, evaluated: the order of lists, splitting first in first out. Leans on the definitions.
use Rattle.std.specs.Prelude.{◌≡◌, refl, [], ◌∷◌}
use Rattle.std.specs.Prelude.{Some, None}
use Rattle.definitions.specs.Lists.{compare_nats, sort_by}
use Rattle.definitions.specs.Open.{open_all}
use Rattle.splitting.specs.Splitting.{split_nats, split_list}

-- a proper prefix first, and items in their own order
pub prefix_first : sort_by compare_nats ((2 ∷ 1 ∷ []) ∷ (1 ∷ 3 ∷ []) ∷ (1 ∷ []) ∷ [])
    ≡ (1 ∷ []) ∷ (1 ∷ 3 ∷ []) ∷ (2 ∷ 1 ∷ []) ∷ []
unfolding open_all
prefix_first = refl

-- 4 is 3 and 2, and 3 is 0 and 1: 2 comes before the parts of 3. Each facet of a list has a queue of its own.
pub first_in : split_list 6 (None ∷ None ∷ None ∷ Some (0, 1) ∷ Some (3, 2) ∷ []) (4 ∷ 2 ∷ []) ≡ 2 ∷ 0 ∷ 1 ∷ 2 ∷ []
unfolding open_all split_nats split_list
first_in = refl
