-- `rows::mark_pair_images` meets its contract: a turn marks the image under one row more (`codes_next`).
use mathlib.Core.Path.{refl, ◌∙◌}
use native.Mathlib.Omega.{arith}
use lib.ListN.{length-set}
use Rattle.rows.proofs.Codes.{codes_none, codes_next}
use Rattle.rows.proofs.mark_pair_images.Goals as goal

pub loop-i-init : goal.loop-i-init
loop-i-init c = (omega arith, refl, codes_none _ _ _)

pub loop-i-preserved : goal.loop-i-preserved
loop-i-preserved c = let l = c.loop-i in (
  omega arith,
  length-set l.marks _ _ ∙ l.invariant.1,
  rw l.invariant.2 (codes_next l.i c.args.v c.args.w _ c.args.rows.bytes.now c.args.marks.now c.requires.0
      c.requires.1 c.pair_image-at.ensures.code),
)
