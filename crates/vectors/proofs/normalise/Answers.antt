-- `vectors::normalise` meets its contract: a turn divides one number more (`take_more_set`). At the end i is d, and
-- the front with the zeros behind it is the whole (`whole`).
use mathlib.Core.Path.{◌≡◌, refl, sym, ◌∙◌}
use Prim.Native.Nat.{◌+◌}
use native.Mathlib.Omega.{arith}
use borrow.Author.Rules.{rules}
use lib.ListN.{length, length-set}
use lib.Seq.{drop-set-lt}
use lib.Ieee.{nan}
use Rattle.definitions.specs.Vectors.{normalised}
use Rattle.laws.specs.Parts.{take_more_set, map_take_more}
use Rattle.vectors.specs.Meaning.{zeros, five}
use Rattle.vectors.specs.Wholes.{whole, rest_same}
use Rattle.vectors.proofs.normalise.Goals as goal

pub loop-i-init : goal.loop-i-init
unfolding zeros
loop-i-init c = (omega arith, refl, refl, refl)

pub loop-i-preserved : goal.loop-i-preserved
loop-i-preserved c =
    let l = c.loop-i in
    let v = c.args.v in
    let long : length v ≡ 5 = search rules in (
      omega arith,
      length-set l.r l.i _ ∙ l.invariant.1,
      take_more_set l.r l.i _ (omega arith) ∙ rw l.invariant.2 (sym (map_take_more _ v l.i nan (omega arith))),
      drop-set-lt (l.i + 1) l.r l.i _ (omega arith) ∙ (rest_same l.r (zeros 5) l.i nan l.invariant.3).1,
    )

pub returns : goal.returns
unfolding normalised five
returns c =
    let l = c.loop-i in
    let end : l.i ≡ c.args.d = omega arith in (
      rw (← c.norm-length.ensures, ← end)
          (whole l.r (zeros 5) _ l.i (omega (arith, l.invariant.1)) l.invariant.2 l.invariant.3),
      c.norm-length.ensures,
    )
