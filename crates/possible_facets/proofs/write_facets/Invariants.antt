-- `possible_facets::write_facets` meets its contract. The loop's invariant: the figures of the facets from `from` to
-- below x are written.
use mathlib.Core.List.{flat_map}
use Prim.Native.Nat.{◌-◌, ◌≤◌}
use lib.ListN.{take, drop}
use Rattle.pool.specs.Pool.{closed_lists}
use Rattle.words.specs.Wrote.{Writes}
use Rattle.possible_facets.proofs.write_facets.Given as goal

abbrev pub invariant-loop-x : goal.invariant-loop-x
invariant-loop-x g l =
    (l.from ≤ l.x) × (l.x ≤ l.to) × Writes l.initial.w l.w (flat_map (g.T.FacetFigure.words l.points)
    (take (l.x - l.from) (drop l.from (closed_lists 2 l.edges.most l.edges.bytes.now))))
