-- A double above zero as a whole number of 53 binary digits and a power of two. Definitions only.
use Rattle.std.specs.Prelude.{ℕ, ◌*◌, ◌^◌, ◌≤◌, ◌<◌, false, Float}
use Rattle.std.specs.Float.Ieee.Exact.{HasValue}

-- x is q × 2^w / 2^1126, and q has all the digits that a double has: 2^1126 lifts the smallest double, 2^-1074, to
-- them
pub record ScaledBy (x : Float) (q w : ℕ) : Type 0 where
  pub low : 2 ^ 52 ≤ q
  pub high : q < 2 ^ 53
  pub reach : w < 2098
  pub value : HasValue x false (q * 2 ^ w) (2 ^ 1126)
