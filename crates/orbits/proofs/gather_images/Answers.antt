-- `orbits::gather_images` meets its contract: the image under one row more is gathered unless it was seen
-- (`gathering_more`), and a turn adds one at most (`gathered_few`).
use native.Mathlib.Omega.{arith}
use Rattle.words.specs.Words.{words}
use Rattle.sorted.specs.Gathering.{gathering_more, gathered_few}
use Rattle.sets.specs.Vertices.{row_sends}
use Rattle.rows.specs.Rows.{rows_in}
use Rattle.orbits.specs.Numbers.{image_numbers, image_is}
use Rattle.orbits.proofs.Laws.{images_none, images_more}
use Rattle.orbits.proofs.gather_images.Goals as goal

pub loop-i-init : goal.loop-i-init
loop-i-init c = let s = c.args.seen in
    rw c.new-new.ensures
    (omega arith, images_none (words 4 s.bytes.now s.count) c.args.full.n c.args.set c.args.full.rows.bytes.now)

pub set_image-requires : goal.set_image-requires
set_image-requires c = let p = c.args.full.permute.each c.loop-i.i (omega arith) in
    rw c.vertices_of-vertices.ensures (row_sends c.loop-i.i c.args.full.n c.args.set c.args.full.rows.bytes.now
    (omega (arith, p.long, p.n_fits)) (λ v h. omega (arith, p.below v h, p.n_fits)))

pub loop-i-preserved : goal.loop-i-preserved
loop-i-preserved c = let l = c.loop-i in
    let s = c.args.seen in
    let held = words 4 s.bytes.now s.count in
    let x = image_is c.args.full.n c.args.set l.i c.args.full.rows.bytes.now _ c.set_image.result
    c.vertices_of-vertices.ensures c.set_image.ensures in (
      rw c.gather.ensures (omega (arith, l.invariant.0, (gathered_few held l.new.items c.set_image.result).1)),
      rw (c.gather.ensures, images_more c.args.full.n c.args.set l.i c.args.full.rows.bytes.now, ← x)
          (gathering_more held
          (image_numbers c.args.full.n c.args.set (rows_in c.args.full.n l.i c.args.full.rows.bytes.now))
          l.new.items c.set_image.result s.ascends.1 l.invariant.1),
    )
