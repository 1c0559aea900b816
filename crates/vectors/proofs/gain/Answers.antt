-- `vectors::gain` meets its contract: one number more gains its part in a turn (`plus_times_more`). At the end i is
-- d, and the front with the rest as it was is the whole (`whole`).
use mathlib.Core.Path.{◌≡◌, refl, ◌∙◌}
use Prim.Native.Nat.{◌+◌, ◌<◌}
use native.Mathlib.Omega.{arith}
use lib.Ieee.{nan}
use lib.ListN.{length, drop, length-drop, length-set}
use lib.Seq.{get_or-drop, drop-set-lt}
use Rattle.definitions.specs.Vectors.{plus_times}
use Rattle.laws.specs.Parts.{take_more_set}
use Rattle.vectors.specs.Wholes.{whole, rest_same}
use Rattle.vectors.proofs.Laws.{plus_times_more}
use Rattle.vectors.proofs.gain.Goals as goal

pub loop-i-init : goal.loop-i-init
unfolding plus_times
loop-i-init c = (omega arith, refl, refl, refl)

pub loop-i-preserved : goal.loop-i-preserved
loop-i-preserved c =
    let l = c.loop-i in
    let a = c.args in
    let fits-b : l.i < length (drop a.at a.b.now) = omega (arith, length-drop a.at a.b.now) in
    let same = rest_same l.q a.q.now l.i nan l.invariant.3 in (
      omega arith,
      length-set l.q l.i _ ∙ l.invariant.1,
      take_more_set l.q l.i _ (omega (arith, l.invariant.1))
          ∙ rw (l.invariant.2, same.0, ← (get_or-drop a.at a.b.now l.i nan))
          (plus_times_more a.q.now (drop a.at a.b.now) l.i (omega arith) fits-b a.s),
      drop-set-lt (l.i + 1) l.q l.i _ (omega arith) ∙ same.1,
    )

pub returns : goal.returns
returns c =
    let l = c.loop-i in
    let a = c.args in
    let end : l.i ≡ a.d = omega arith in
    rw (← end) (whole l.q a.q.now _ l.i (omega (arith, l.invariant.1)) l.invariant.2 l.invariant.3)
