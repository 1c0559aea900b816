-- `root::scale` meets its contract, by the fields of a bit pattern. Assumes nothing.
use native.Mathlib.Omega.{arith}
use native.Mathlib.Nat.{mod-eq_of_lt, lt_of_lt_of_le}
use lib.Dec.{lit≤}
use Rattle.root.specs.Pattern.{scaled_normal, scaled_subnormal}
use Rattle.root.proofs.scale.Goals as goal

pub returns-then-field-gt0 : goal.returns-then-field-gt0
returns-then-field-gt0 c = scaled_normal c.args.bits _ c.requires.1 c.if-field-gt0.true (omega arith)

pub overflow_sub-result : goal.overflow_sub-result
overflow_sub-result c = rw c.from-zeros.ensures (scaled_subnormal c.args.bits c.requires.0 (omega arith)).least

pub returns-else-field-gt0 : goal.returns-else-field-gt0
returns-else-field-gt0 c =
    let m = scaled_subnormal c.args.bits c.requires.0 (omega arith) in
    rw (c.from-zeros.ensures, mod-eq_of_lt (lt_of_lt_of_le m.fits (lit≤ tt))) m.scaled
