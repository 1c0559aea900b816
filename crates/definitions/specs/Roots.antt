-- The square root [3.2] at some values, evaluated: bit patterns of x and of its root, as a processor's own root
-- instruction gives them.
use Rattle.std.specs.Prelude.{Bool, ◌&&◌, List, [], ◌∷◌, ℕ, T, eqb, Float}
use Rattle.std.specs.Prelude.{Option, Some, None}
use Rattle.std.specs.Float.{binary64}
use Rattle.std.specs.Float.Ieee.{of_bits, to_bits}
use Rattle.definitions.specs.Lists.{Pair, all_of}
use Rattle.definitions.specs.Vectors.{square_root}
use Rattle.definitions.specs.Open.{open_all}

unfoldable pub bits_or : ℕ → Option Float → ℕ
bits_or other None = other
bits_or other (Some r) = to_bits binary64 r

-- the root of the first is the second
unfoldable pub rooted : Pair → Bool
rooted p = eqb (bits_or 1 (square_root (of_bits binary64 p.0))) p.1

-- there is no root
unfoldable pub rootless : ℕ → Bool
rootless bits = eqb (bits_or 1 (square_root (of_bits binary64 bits))) 1

unfoldable pub roots : List Pair
roots =
    -- 0
    (0x0000000000000000, 0x0000000000000000)
    -- −0
    ∷ (0x8000000000000000, 0x8000000000000000)
    -- 1
    ∷ (0x3ff0000000000000, 0x3ff0000000000000)
    -- 2
    ∷ (0x4000000000000000, 0x3ff6a09e667f3bcd)
    -- 3
    ∷ (0x4008000000000000, 0x3ffbb67ae8584caa)
    -- 4
    ∷ (0x4010000000000000, 0x4000000000000000)
    -- 0.5
    ∷ (0x3fe0000000000000, 0x3fe6a09e667f3bcd)
    -- 0.1
    ∷ (0x3fb999999999999a, 0x3fd43d136248490f)
    -- 1e-7
    ∷ (0x3e7ad7f29abcaf48, 0x3f34b96be9c2da2c)
    -- the smallest double
    ∷ (0x0000000000000001, 0x1e60000000000000)
    -- the largest subnormal
    ∷ (0x000fffffffffffff, 0x1fffffffffffffff)
    -- the smallest normal
    ∷ (0x0010000000000000, 0x2000000000000000)
    -- the largest double
    ∷ (0x7fefffffffffffff, 0x5fefffffffffffff)
    -- just below 1
    ∷ (0x3fefffffffffffff, 0x3fefffffffffffff)
    -- just above 1
    ∷ (0x3ff0000000000001, 0x3ff0000000000000)
    -- just below 4
    ∷ (0x400fffffffffffff, 0x3fffffffffffffff)
    -- a square of 53 digits, and its neighbours
    ∷ (0x4330000008000001, 0x4190000004000000)
    ∷ (0x4330000008000000, 0x4190000004000000)
    ∷ (0x4330000008000002, 0x4190000004000000)
    -- some others
    ∷ (0x7953a6f252e6b439, 0x5ca1bb777450ee8f)
    ∷ (0x32899387269e0d38, 0x393c9bc09b8b60dc)
    ∷ (0x062e3fe8a6a3a451, 0x230f1ccdcb02892e)
    ∷ (0x691f8412128b2f34, 0x548674a2d84c2b62)
    ∷ (0x0c0c7408892f902c, 0x25fe2cb011b672f7)
    ∷ (0x4a98cc2e5d9dc9f9, 0x4543eb3af63787f3)
    ∷ (0x74712eca0ed90476, 0x5a3094b214518dc3)
    ∷ (0x1b7b3ae681e74ef6, 0x2db4df7b96d97e31)
    ∷ []

-- below zero, the infinities, not a number
unfoldable pub without_root : List ℕ
without_root =
    0x8000000000000001 ∷ 0xbff0000000000000 ∷ 0x7ff0000000000000 ∷ 0xfff0000000000000 ∷ 0x7ff8000000000000 ∷ []

pub roots_agree : T (all_of rooted roots && all_of rootless without_root)
unfolding open_all bits_or rooted rootless roots without_root
roots_agree = tt
