-- `plain::write_numbers` meets its contract: a turn writes one number more (`words_next`), and at the end the count
-- stands before all of them (`number_words_holds`).
use mathlib.Core.Path.{◌≡◌}
use native.Mathlib.Omega.{arith}
use lib.ListN.{drop}
use Rattle.words.specs.Wrote.{writes_none, writes_then, writes_as}
use Rattle.plain.specs.Numbers.{words_none, words_next, number_words_holds}
use Rattle.plain.proofs.write_numbers.Goals as goal

pub loop-i-init : goal.loop-i-init
loop-i-init c = (omega arith, writes_as (writes_none _) (words_none _))

pub loop-i-preserved : goal.loop-i-preserved
loop-i-preserved c =
    let l = c.loop-i in (
      omega arith,
      writes_as (writes_then l.invariant.1 c.push-in-loop-i.ensures.writes)
          (words_next c.args.s.now c.args.from l.i _ c.get.ensures),
    )

pub returns : goal.returns
returns c =
    let l = c.loop-i in
    let e : l.i ≡ c.args.many = omega (arith, l.invariant.0) in
    writes_as (writes_then c.push.ensures.writes l.invariant.1)
    (number_words_holds (drop c.args.from c.args.s.now) l.i c.args.many e)
