-- `possible_facets::write_possible` meets its contract. The loop's invariant: what is written, and what is still to
-- come of the orbits from `orbit` on and the facets from x on, is all that is to be written.
use Prim.Native.Nat.{ℕ, ◌≤◌}
use Rattle.words.specs.Words.{words}
use Rattle.pool.specs.Pool.{closed_lists}
use Rattle.possible_facets.proofs.Possible.{SoFar}
use Rattle.possible_facets.proofs.write_possible.Given as goal

abbrev pub invariant-loop-orbit : goal.invariant-loop-orbit
invariant-loop-orbit g l =
    (l.orbit ≤ l.orbits) × (l.x ≤ l.owners.facets)
    × SoFar (λ (o : ℕ). g.T.FacetFigure.words (g.T.FacetFigure.size l.figures o)) l.orbits
    (words 2 l.owners.bytes.now l.owners.facets)
    (closed_lists 2 l.edges.most l.edges.bytes.now) l.orbit l.x l.initial.w l.w
