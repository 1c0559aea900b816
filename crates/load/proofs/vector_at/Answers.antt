-- `load::vector_at` meets its contract: a turn reads one number more (`floats_more`). At the end i is d, and the
-- front with the zeros behind it is the whole (`whole`).
use mathlib.Core.Path.{◌≡◌, refl, ◌∙◌}
use Prim.Native.Nat.{◌+◌}
use native.Mathlib.Omega.{arith}
use lib.ListN.{length-set}
use lib.Seq.{drop-set-lt}
use lib.Ieee.{nan}
use Rattle.definitions.specs.Job.{floats_at}
use Rattle.definitions.specs.Lists.{count_from}
use Rattle.laws.specs.Parts.{take_more_set}
use Rattle.vectors.specs.Meaning.{zeros, five}
use Rattle.vectors.specs.Wholes.{whole, rest_same}
use Rattle.load.proofs.Laws.{floats_more}
use Rattle.load.proofs.vector_at.Goals as goal

pub loop-i-init : goal.loop-i-init
unfolding floats_at count_from zeros
loop-i-init c = (omega arith, refl, refl, refl)

pub loop-i-preserved : goal.loop-i-preserved
loop-i-preserved c =
    let l = c.loop-i in (
      omega arith,
      length-set l.v l.i _ ∙ l.invariant.1,
      take_more_set l.v l.i _ (omega arith) ∙ rw (l.invariant.2, c.float_at.ensures, floats_more) refl,
      drop-set-lt (l.i + 1) l.v l.i _ (omega arith) ∙ (rest_same l.v (zeros 5) l.i nan l.invariant.3).1,
    )

pub returns : goal.returns
unfolding five
returns c =
    let l = c.loop-i in
    let end : l.i ≡ c.args.d = omega arith in
    rw (← end) (whole l.v (zeros 5) _ l.i (omega (arith, l.invariant.1)) l.invariant.2 l.invariant.3)
