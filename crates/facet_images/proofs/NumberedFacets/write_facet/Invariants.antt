-- `NumberedFacets::write_facet` meets its contract. The loop's invariant: behind the count, the numbers of the
-- image's edges below `code` are written.
use mathlib.Core.List.{map}
use Prim.Native.Nat.{ℕ, ◌≤◌}
use lib.ListN.{get_or}
use Rattle.words.specs.Wrote.{Writes}
use Rattle.edge_marks.specs.Marks.{codes_marked}
use Rattle.facet_images.proofs.NumberedFacets.write_facet.Given as goal

abbrev pub invariant-loop-code : goal.invariant-loop-code
invariant-loop-code l =
    (l.code ≤ 400)
    × Writes l.initial.w l.w (map (λ (c : ℕ). get_or l.self.numbers.now c 0) (codes_marked l.image l.code))
