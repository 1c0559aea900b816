-- `NumberedFacets::write_facet` meets its contract: a code with a mark adds its number and another adds none. At the
-- end `code` is 400, and the count stands before the numbers (`facet_is`).
use native.Mathlib.Omega.{arith}
use Rattle.words.specs.Wrote.{writes_none, writes_then, writes_as}
use Rattle.facet_images.proofs.Choosing.{numbers_start, number_more, number_passed, facet_is}
use Rattle.facet_images.proofs.NumberedFacets.write_facet.Goals.{then-marked, else-marked}
use Rattle.facet_images.proofs.NumberedFacets.write_facet.Goals as goal

pub loop-code-init : goal.loop-code-init
loop-code-init c = (omega arith, writes_as (writes_none _) (numbers_start c.args.image.now c.args.self.numbers.now))

pub loop-code-preserved : goal.loop-code-preserved
loop-code-preserved c = let l = c.loop-code in (
  omega arith,
  elim c.if-marked.branch [
    | then-marked w ↦ rw w.w-is (writes_as (writes_then l.invariant.1 w.push-then-marked.ensures.writes)
        (number_more c.args.image.now c.args.self.numbers.now l.code w.if-marked.true))
    | else-marked w ↦ rw w.w-is
        (writes_as l.invariant.1 (number_passed c.args.image.now c.args.self.numbers.now l.code w.if-marked.false))
  ],
)

pub returns : goal.returns
returns c =
    let l = c.loop-code in
    writes_as (writes_then c.push.ensures.writes l.invariant.1)
    (facet_is c.args.image.now c.args.self.numbers.now _ l.code c.count_marks.ensures.0 (omega arith))
