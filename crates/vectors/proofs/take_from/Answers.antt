-- `vectors::take_from` meets its contract: a turn writes one difference more (`minus_more`). At the end i is d, and
-- the front with the rest as it was is the whole (`whole`).
use mathlib.Core.Path.{◌≡◌, refl, ◌∙◌}
use Prim.Native.Nat.{◌+◌, ◌<◌}
use native.Mathlib.Omega.{arith}
use lib.Ieee.{nan}
use lib.ListN.{length, drop, length-drop, length-set}
use lib.Seq.{get_or-drop, drop-set-lt}
use Rattle.definitions.specs.Vectors.{minus}
use Rattle.laws.specs.Parts.{take_more_set}
use Rattle.vectors.specs.Wholes.{whole, rest_same}
use Rattle.vectors.proofs.Laws.{minus_more}
use Rattle.vectors.proofs.take_from.Goals as goal

pub loop-i-init : goal.loop-i-init
unfolding minus
loop-i-init c = (omega arith, refl, refl, refl)

pub loop-i-preserved : goal.loop-i-preserved
loop-i-preserved c =
    let l = c.loop-i in
    let a = c.args in
    let fits-p : l.i < length (drop a.at a.p.now) = omega (arith, length-drop a.at a.p.now) in (
      omega arith,
      length-set l.out l.i _ ∙ l.invariant.1,
      take_more_set l.out l.i _ (omega (arith, l.invariant.1)) ∙ rw (
        l.invariant.2,
        ← (get_or-drop a.at a.p.now l.i nan),
      ) (minus_more (drop a.at a.p.now) a.q.now l.i fits-p (omega arith)),
      drop-set-lt (l.i + 1) l.out l.i _ (omega arith) ∙ (rest_same l.out a.out.now l.i nan l.invariant.3).1,
    )

pub returns : goal.returns
returns c =
    let l = c.loop-i in
    let a = c.args in
    let end : l.i ≡ a.d = omega arith in
    rw (← end) (whole l.out a.out.now _ l.i (omega (arith, l.invariant.1)) l.invariant.2 l.invariant.3)
