-- `possible_facets::write_possible` meets its contract: a turn writes how many facets one orbit has, and their
-- figures (`possible_more`). At the end no orbit is left (`possible_all`).
use mathlib.Core.List.{flat_map}
use mathlib.Core.Path.{ap}
use Prim.Native.Nat.{ℕ, ◌-◌}
use native.Mathlib.Omega.{arith}
use lib.ListN.{take, drop}
use Rattle.pool.specs.Pool.{closed_lists}
use Rattle.words.specs.Wrote.{writes_as}
use Rattle.possible_facets.proofs.Possible.{possible_more, possible_all}
use Rattle.possible_facets.proofs.write_possible.Goals as goal

pub loop-orbit-preserved : goal.loop-orbit-preserved
loop-orbit-preserved g c = let l = c.loop-orbit in (
  omega arith,
  omega (arith, c.end_of-end.ensures.1),
  possible_more _ _ _ _ l.invariant.2 _ (omega arith) c.end_of-end.ensures.0 c.push.ensures.writes
      (writes_as c.write_facets.ensures (ap (λ (k : ℕ). flat_map (g.T.FacetFigure.words k) (take (c.end_of-end.result
      - l.x) (drop l.x (closed_lists 2 c.args.edges.most c.args.edges.bytes.now)))) c.size-points.ensures.0)),
)

pub returns : goal.returns
returns g c = let l = c.loop-orbit in possible_all _ _ _ _ l.invariant.2 (omega arith)
