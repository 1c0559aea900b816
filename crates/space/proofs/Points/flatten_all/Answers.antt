-- `Points::flatten_all` meets its contract: a turn adds one point more, flattened (`one_more`), and at the end i is
-- n.
use mathlib.Core.Path.{◌≡◌, ap, subst, ◌∙◌}
use Prim.Native.Nat.{ℕ, ◌*◌, ◌<◌}
use native.Mathlib.Omega.{arith}
use lib.ListN.{take, drop}
use Rattle.definitions.specs.Subspace.{flatten}
use Rattle.laws.specs.Parts.{map_rows_more, rows}
use Rattle.vectors.specs.Meaning.{vector_of, five}
use Rattle.vectors.specs.Wholes.{five_means}
use Rattle.vectors.proofs.Wholes.{five_own}
use Rattle.space.specs.Meaning.{points_of, subspace_of}
use Rattle.space.specs.Counts.{point_row, point_means, flatten_length}
use Rattle.space.specs.Counts.{one_more}
use Rattle.space.proofs.Points.flatten_all.Goals as goal

pub loop-i-init : goal.loop-i-init
unfolding rows
loop-i-init c = (omega arith, c.new-flat.ensures.n_is, c.new-flat.ensures)

pub push-requires : goal.push-requires
push-requires c =
    let l = c.loop-i in
    let plane = c.args.plane.now in
    let own : c.flatten.result ≡ five (vector_of plane.rank c.flatten.result) =
    five_own c.flatten.result _ plane.rank c.flatten.ensures (flatten_length plane _) in
    (omega (arith, l.invariant.1, c.args.self.now.fits.n_fits), cc own)

pub loop-i-preserved : goal.loop-i-preserved
loop-i-preserved c =
    let l = c.loop-i in
    let p = c.args.self.now in
    let plane = c.args.plane.now in
    let inside : l.i < p.n = omega arith in
    let row = take p.d (drop (5 * l.i) p.at) in
    let point : vector_of p.d c.point.result ≡ row = point_means p l.i inside _ c.point.ensures
    ∙ point_row p l.i inside in
    let same : vector_of plane.d c.point.result
    ≡ row = subst (λ (k : ℕ). vector_of k c.point.result ≡ row) c.requires point in
    let flat : vector_of plane.rank c.flatten.result ≡ flatten (subspace_of plane) row =
    five_means c.flatten.result _ plane.rank c.flatten.ensures (flatten_length plane _)
    ∙ ap (flatten (subspace_of plane)) same in (
      omega arith,
      omega arith,
      rw (map_rows_more (flatten (subspace_of plane)) 5 p.d l.i p.at)
          (one_more l.flat _ plane.rank _ c.flatten.result _ l.invariant.2 flat c.push.ensures.0),
    )

pub returns : goal.returns
unfolding points_of
returns c =
    let l = c.loop-i in
    let end : l.i ≡ c.args.self.now.n = omega arith in
    (rw (← end) l.invariant.2, l.invariant.1 ∙ end)
