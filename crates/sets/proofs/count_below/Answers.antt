-- `count_below` meets its contract.
use mathlib.Core.Path.{◌≡◌, sym, ap, ◌∙◌}
use Prim.Native.Nat.{ℕ, ◌%◌, ◌^◌}
use native.Mathlib.Omega.{arith}
use lib.Count.{ones}
use lib.ListN.{length}
use Rattle.laws.specs.Sets.{vertices_of}
use Rattle.sets.specs.Vertices.{vertices_few}
use Rattle.sets.proofs.Laws.{shifted, all_bits, count_bits}
use Rattle.sets.proofs.count_below.Goals as goal
use Rattle.sets.proofs.count_below.Goals.{then-n-lt32, else-n-lt32}

pub returns : goal.returns
unfolding vertices_of
returns c =
    let n = c.args.n in
    let set = c.args.set in
    let lowest : c.if-n-lt32.below ≡ set % 2 ^ n = elim c.if-n-lt32.branch [
      | then-n-lt32 w ↦ w.below-is ∙ ap (λ (k : ℕ). set % k) (shifted n w.if-n-lt32.true)
      | else-n-lt32 w ↦ w.below-is ∙ sym (all_bits n set w.if-n-lt32.false (omega arith))
    ] in
    let counted : ones c.if-n-lt32.below ≡ length (vertices_of n set) = ap ones lowest ∙ count_bits 0 n set in
    (counted, omega (arith, vertices_few 0 n set))
