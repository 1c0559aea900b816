-- `vectors::dot_at` meets its contract: a turn adds one product (`dot_more`), and at the end i is d.
use mathlib.Core.Path.{◌≡◌, refl}
use Prim.Native.Nat.{◌<◌}
use native.Mathlib.Omega.{arith}
use lib.Ieee.{nan}
use lib.ListN.{length, drop, length-drop}
use lib.Seq.{get_or-drop}
use Rattle.definitions.specs.Vectors.{dot, dot_from}
use Rattle.vectors.proofs.Laws.{dot_more}
use Rattle.vectors.proofs.dot_at.Goals as goal

pub loop-i-init : goal.loop-i-init
unfolding dot dot_from
loop-i-init c = (omega arith, refl)

pub loop-i-preserved : goal.loop-i-preserved
loop-i-preserved c =
    let l = c.loop-i in
    let a = c.args in
    let fits-b : l.i < length (drop a.at a.b.now) = omega (arith, length-drop a.at a.b.now) in (
      omega arith,
      rw (
        l.invariant.1,
        ← (get_or-drop a.at a.b.now l.i nan),
      ) (dot_more a.a.now (drop a.at a.b.now) l.i (omega arith) fits-b),
    )

pub returns : goal.returns
returns c =
    let l = c.loop-i in
    let end : l.i ≡ c.args.d = omega arith in
    rw (← end) l.invariant.1
