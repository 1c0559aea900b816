-- `numbering::open_ridge` meets its contract: an image without a mark gets the number and is counted
-- (`opening_joins`), and another is passed (`opening_stays`). At the end i is the number of rows.
use mathlib.Core.Path.{◌≡◌, sym, ap, ◌∙◌}
use mathlib.Core.Bool.{not}
use Rattle.numbering.proofs.Images.{key_is, sent_below, opening_start, opening_joins, opening_stays}
use native.Mathlib.Omega.{arith}
use Rattle.numbering.proofs.open_ridge.Goals as goal
use Rattle.numbering.proofs.open_ridge.Goals.{then-is_none, else-is_none}

pub loop-i-init : goal.loop-i-init
loop-i-init c = opening_start _ _ _ _ _

pub pair_image-at-requires : goal.pair_image-at-requires
pair_image-at-requires c =
    let l = c.loop-i in
    let b = sent_below c.args.key c.requires.1 l.i c.loop-i-test.true in
    (omega arith, omega arith, b.0, b.1)

pub loop-i-preserved : goal.loop-i-preserved
loop-i-preserved c =
    let l = c.loop-i in
    let code = c.pair_image-at.ensures.code ∙ sym (key_is l.i c.args.key c.args.rows.bytes.now c.requires.0) in
    elim c.if-is_none.branch [
      | then-is_none w ↦ rw (w.marks-is, w.count-is) (opening_joins l.invariant c.loop-i-test.true c.requires.0 _ code
          (ap not (rw w.if-is_none.true at c.is_none.ensures)))
      | else-is_none w ↦ rw (w.marks-is, w.count-is) (opening_stays l.invariant c.loop-i-test.true c.requires.0 _ code
          (ap not (rw w.if-is_none.false at c.is_none.ensures)))
    ]

pub returns : goal.returns
returns c =
    let l = c.loop-i in
    let e : l.i ≡ c.args.rows.count = omega (arith, l.invariant.within) in
    record { counts = rw e at l.invariant.count_is; marks = rw e at l.invariant.marks_are }
