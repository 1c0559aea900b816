-- What a figure costs [16.3] and its slip [16.6], evaluated on one triangle: the discount is taken of the polygon and
-- of its joints, and from no number of the slip. Quotes of whole jobs are evaluated in `crates/evaluated`.
use Rattle.std.specs.Prelude.{◌≡◌, refl, [], ◌∷◌, take, drop}
use Rattle.definitions.specs.Figures.{Figure}
use Rattle.definitions.specs.Prices.{Tariff, total_of, slip_of}
use Rattle.definitions.specs.Open.{open_all}

-- three points, three edges, one polygon, and the body
unfoldable pub triangle : Figure
triangle =
    ([] ∷ [])
    ∷ ((0 ∷ []) ∷ (0 ∷ []) ∷ (0 ∷ []) ∷ [])
    ∷ ((0 ∷ 1 ∷ []) ∷ (0 ∷ 2 ∷ []) ∷ (1 ∷ 2 ∷ []) ∷ [])
    ∷ ((0 ∷ 1 ∷ 2 ∷ []) ∷ [])
    ∷ ((0 ∷ []) ∷ [])
    ∷ []

-- a triangle at 3 pence, a joint at 1, and half of it off
unfoldable pub half_off : Tariff
half_off = record { prices = 0 ∷ 0 ∷ 3 ∷ []; joint = 1; discount = 500 }

pub triangle_costs : total_of half_off triangle ≡ 3
unfolding open_all triangle half_off
triangle_costs = refl

pub triangle_slip : take 8 (drop 16 (slip_of half_off triangle)) ≡ 3 ∷ 0 ∷ 0 ∷ 0 ∷ 0 ∷ 0 ∷ 0 ∷ 0 ∷ []
unfolding open_all triangle half_off
triangle_slip = refl
