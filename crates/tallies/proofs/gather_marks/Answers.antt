-- `tallies::gather_marks` meets its contract: a turn inserts the mark of the image under one row more
-- (`gathered_more`), and images are small enough that no mark wraps (`image_small`).
use mathlib.Core.Path.{ap, ◌∙◌}
use native.Mathlib.Omega.{arith}
use lib.ListN.{length, length-map}
use Rattle.orbits.specs.Numbers.{image_is}
use Rattle.sets.specs.Vertices.{row_sends}
use Rattle.tallies.specs.Marks.{mark_number}
use Rattle.tallies.proofs.Laws.{images_to, gathered_none, gathered_more, images_to_most, image_small}
use Rattle.tallies.proofs.gather_marks.Goals as goal

pub loop-i-init : goal.loop-i-init
loop-i-init c = c.new-new.ensures ∙ gathered_none c.args.full.n c.args.key c.args.full.rows.bytes.now c.args.tally

pub set_image-image-requires : goal.set_image-image-requires
set_image-image-requires c = let p = c.args.full.permute.each c.loop-i.i (omega arith) in
    rw c.vertices_of-vertices.ensures (row_sends c.loop-i.i c.args.full.n c.args.key c.args.full.rows.bytes.now
    (omega (arith, p.long, p.n_fits)) (λ v h. omega (arith, p.below v h, p.n_fits)))

pub overflow_mul-image : goal.overflow_mul-image
overflow_mul-image c = let l = c.loop-i in
    let is = image_is c.args.full.n c.args.key l.i c.args.full.rows.bytes.now _ c.set_image-image.result
    c.vertices_of-vertices.ensures c.set_image-image.ensures in
    omega (
      arith,
      is,
      image_small c.args.full.n l.i c.args.key c.args.full.rows.bytes.now
          (c.args.full.permute.each l.i (omega arith)),
    )

pub overflow_add-image : goal.overflow_add-image
overflow_add-image c = let l = c.loop-i in
    let is = image_is c.args.full.n c.args.key l.i c.args.full.rows.bytes.now _ c.set_image-image.result
    c.vertices_of-vertices.ensures c.set_image-image.ensures in
    omega (
      arith,
      c.requires.1,
      is,
      image_small c.args.full.n l.i c.args.key c.args.full.rows.bytes.now
          (c.args.full.permute.each l.i (omega arith)),
    )

pub insert-requires : goal.insert-requires
insert-requires c = let l = c.loop-i in
    omega (
      arith,
      ap length l.invariant,
      length-map (images_to c.args.full.n c.args.key c.args.full.rows.bytes.now l.i) (mark_number c.args.tally),
      c.requires.0,
      images_to_most c.args.full.n c.args.key c.args.full.rows.bytes.now l.i,
    )

pub loop-i-preserved : goal.loop-i-preserved
loop-i-preserved c = let l = c.loop-i in
    gathered_more c.args.full.n c.args.key c.args.full.rows.bytes.now c.args.tally l.i c.set_image-image.result
    l.new.items _
    (image_is c.args.full.n c.args.key l.i c.args.full.rows.bytes.now _ c.set_image-image.result
    c.vertices_of-vertices.ensures c.set_image-image.ensures) l.invariant c.insert.ensures
