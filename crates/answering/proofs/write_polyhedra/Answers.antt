-- `answering::write_polyhedra` meets its contract: the laws of Writable say what is asked, and that the words written
-- are the definition's. Assumes nothing.
use borrow.Author.Rules.{rules}
use Rattle.job_calls.specs.Writable.{images_asked, images_inside, solid_asked, solid_wrote}
use Rattle.answering.proofs.write_polyhedra.Goals as goal

pub order_left-images-requires : goal.order_left-images-requires
order_left-images-requires c = images_asked c.requires.1

pub slice_bounds-ids-count : goal.slice_bounds-ids-count
slice_bounds-ids-count c = images_inside c.requires.1 c.order_left-images.ensures

pub slice_bounds-ids-start : goal.slice_bounds-ids-start
slice_bounds-ids-start c =
    let h = images_inside c.requires.1 c.order_left-images.ensures in
    search rules

pub invariant_of-left : goal.invariant_of-left
invariant_of-left c =
    let asked = solid_asked c.requires.1 c.order_left-images.ensures in
    record { standing = asked.0.listed }

pub invariant_of-ids : goal.invariant_of-ids
invariant_of-ids c = let asked = solid_asked c.requires.1 c.order_left-images.ensures in record { room = asked.1.room }

pub new-carried-requires : goal.new-carried-requires
new-carried-requires c = let asked = solid_asked c.requires.1 c.order_left-images.ensures in asked.0

pub new-imaged-requires : goal.new-imaged-requires
new-imaged-requires c =
    let asked = solid_asked c.requires.1 c.order_left-images.ensures in
    let carried = c.new-carried.ensures in
    rw (carried.0, carried.1, carried.2) asked.1

pub write_solid_answer-requires : goal.write_solid_answer-requires
write_solid_answer-requires c = let asked = solid_asked c.requires.1 c.order_left-images.ensures in asked.2

pub returns : goal.returns
returns c =
    let carried = c.new-carried.ensures in
    let imaged = c.new-imaged.ensures in
    let wrote = rw (
      imaged.0,
      imaged.1,
      imaged.2,
      imaged.3,
      imaged.4,
      imaged.5,
      carried.0,
      carried.1,
      carried.2,
      carried.3,
    ) at c.write_solid_answer.ensures in
    λ kept w. solid_wrote w c.order_left-images.ensures wrote
