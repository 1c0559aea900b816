-- `pool::push` meets its contract: the item begins where the open list ends, and a width is at least one byte.
-- Assumes nothing.
use Prim.Native.Nat.{ℕ, ◌+◌, ◌*◌, ◌≤◌}
use mathlib.Core.Path.{◌≡◌}
use native.Mathlib.Omega.{arith}
use Rattle.std.proofs.Common.{mul-add, mul-one}
use Rattle.pool.specs.Pool.{used, pushed}
use Rattle.pool.proofs.push.Goals as goal

-- what the call asks, at the numbers that were read
room : (w b u x m l : ℕ) → b ≡ w → u ≡ x → 12 + 4 * m + w * (x + 1) ≤ l → 12 + 4 * m + b * u + w ≤ l
room w b u x m l e f h = rw (e, f) (omega (arith, mul-add w x 1, mul-one w))

pub put-requires : goal.put-requires
unfolding used
put-requires g c = room _ _ _ _ c.args.most _ c.BYTES.ensures c.get-used.ensures c.requires.0

pub overflow_mul-BYTES : goal.overflow_mul-BYTES
unfolding used
overflow_mul-BYTES g c =
    let h = room _ _ _ _ c.args.most _ c.BYTES.ensures c.get-used.ensures c.requires.0 in
    omega arith

pub overflow_add-most-2 : goal.overflow_add-most-2
unfolding used
overflow_add-most-2 g c =
    let h = room _ _ _ _ c.args.most _ c.BYTES.ensures c.get-used.ensures c.requires.0 in
    omega arith

pub overflow_add-used : goal.overflow_add-used
unfolding used
overflow_add-used g c = omega (arith, c.get-used.ensures, c.requires.1)

pub returns : goal.returns
unfolding pushed used
returns g c = cc
