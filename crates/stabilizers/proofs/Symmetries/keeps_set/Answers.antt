-- `Symmetries::keeps_set` meets its contract.
use native.Mathlib.Omega.{arith}
use Rattle.sets.specs.Vertices.{vertex_below, row_sends}
use Rattle.stabilizers.specs.Places.{keeps_number}
use Rattle.stabilizers.proofs.Symmetries.keeps_set.Goals as goal

pub set_image-requires : goal.set_image-requires
set_image-requires c =
    let p = c.args.self.permute.each c.args.i c.requires.0 in
    rw c.requires.2 (row_sends c.args.i c.args.self.n c.args.set c.args.self.rows.bytes.now (omega (
      arith,
      p.long,
      p.n_fits,
    )) (λ v h. omega (arith, p.below v h, p.n_fits)))

pub returns : goal.returns
returns c =
    let n = c.args.self.n in
    let image = c.set_image.ensures n (rw c.requires.2 (vertex_below n c.args.set)) in
    rw (image, c.requires.2) (keeps_number n c.args.i c.args.self.rows.bytes.now
    (c.args.self.permute.each c.args.i c.requires.0) c.args.set c.requires.1)
