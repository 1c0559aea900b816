-- `Polygons::size` meets its contract.
use mathlib.Core.Path.{ap, ◌∙◌}
use Prim.Native.Nat.{ℕ}
use native.Mathlib.Omega.{arith}
use lib.ListN.{length}
use Rattle.laws.specs.Sets.{vertices_of}
use Rattle.possible_facets.specs.Possible.{size_in}
use Rattle.possible_facets.proofs.PolygonsFacetFigure.size.Goals as goal

pub returns : goal.returns
unfolding size_in
returns c = (
  c.count_below.ensures.0 ∙ ap (λ (x : ℕ). length (vertices_of c.args.self.now.n x)) c.get.ensures,
  omega (arith, c.count_below.ensures.1, c.requires.1),
)
