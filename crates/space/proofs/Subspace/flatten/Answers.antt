-- `Subspace::flatten` meets its contract: a turn writes one dot product more (`map_rows_more`). At the end j is the
-- rank, and the front with the zeros behind it is the whole (`whole`).
use mathlib.Core.Path.{◌≡◌, refl, sym, ◌∙◌}
use Prim.Native.Nat.{◌+◌}
use native.Mathlib.Omega.{arith}
use lib.ListN.{length-set}
use lib.Seq.{drop-set-lt}
use lib.Ieee.{nan}
use Rattle.definitions.specs.Subspace.{flatten}
use Rattle.laws.specs.Parts.{rows, map_rows_more, take_more_set}
use Rattle.vectors.specs.Meaning.{zeros, five}
use Rattle.vectors.specs.Wholes.{whole, rest_same}
use Rattle.space.specs.Meaning.{subspace_of}
use Rattle.space.proofs.Subspace.flatten.Goals as goal

pub loop-j-init : goal.loop-j-init
unfolding rows zeros
loop-j-init c = (omega arith, refl, refl, refl)

pub loop-j-preserved : goal.loop-j-preserved
loop-j-preserved c =
    let l = c.loop-j in
    let s = c.args.self.now in (
      omega arith,
      length-set l.r l.j _ ∙ l.invariant.1,
      take_more_set l.r l.j _ (omega arith)
          ∙ rw (l.invariant.2, c.dot_at.ensures) (sym (map_rows_more _ 5 s.d l.j s.basis)),
      drop-set-lt (l.j + 1) l.r l.j _ (omega arith) ∙ (rest_same l.r (zeros 5) l.j nan l.invariant.3).1,
    )

pub returns : goal.returns
unfolding flatten subspace_of five
returns c =
    let l = c.loop-j in
    let end : l.j ≡ c.args.self.now.rank = omega arith in
    rw (← end, ← c.away-away.ensures)
    (whole l.r (zeros 5) _ l.j (omega (arith, l.invariant.1)) l.invariant.2 l.invariant.3)
