-- `pool::item` meets its contract: a width is at least one byte, so that what fits in the region is a count. Assumes
-- nothing.
use Prim.Native.Nat.{ℕ, ◌+◌, ◌*◌, ◌≤◌, ◌<◌}
use mathlib.Core.Path.{◌≡◌}
use native.Mathlib.Omega.{arith}
use Rattle.std.proofs.Common.{le-mul_of_pos_right, mul_comm}
use Rattle.pool.specs.Pool.{start, place_at}
use Rattle.pool.proofs.item.Goals as goal

at_most : (w n : ℕ) → 0 < w → n ≤ w * n
at_most w n h = rw (mul_comm w n) (le-mul_of_pos_right n h)

-- what the call asks, at the numbers that were read
room : (w b a x i m l : ℕ) → 0 < w → b ≡ w → a ≡ x → 12 + 4 * m + w * (x + i) + w ≤ l
    → (12 + 4 * m + b * (a + i) + w ≤ l) × (a + i ≤ b * (a + i))
room w b a x i m l p e f h = rw (e, f) (h, at_most w (x + i) p)

pub overflow_mul-most : goal.overflow_mul-most
unfolding place_at start
overflow_mul-most g c = omega arith

pub overflow_add-most : goal.overflow_add-most
unfolding place_at start
overflow_add-most g c = omega arith

pub overflow_add-a : goal.overflow_add-a
unfolding place_at start
overflow_add-a g c =
    let h = room _ _ _ _ c.args.i c.args.most _ g.met.T.Word.wide c.BYTES.ensures c.get-a.ensures c.requires.1 in
    omega arith

pub overflow_mul-BYTES : goal.overflow_mul-BYTES
unfolding place_at start
overflow_mul-BYTES g c =
    let h = room _ _ _ _ c.args.i c.args.most _ g.met.T.Word.wide c.BYTES.ensures c.get-a.ensures c.requires.1 in
    omega arith

pub overflow_add-most-2 : goal.overflow_add-most-2
unfolding place_at start
overflow_add-most-2 g c =
    let h = room _ _ _ _ c.args.i c.args.most _ g.met.T.Word.wide c.BYTES.ensures c.get-a.ensures c.requires.1 in
    omega arith

pub get-requires : goal.get-requires
unfolding place_at start
get-requires g c =
    (room _ _ _ _ c.args.i c.args.most _ g.met.T.Word.wide c.BYTES.ensures c.get-a.ensures c.requires.1).0

pub returns : goal.returns
unfolding place_at start
returns g c = cc
