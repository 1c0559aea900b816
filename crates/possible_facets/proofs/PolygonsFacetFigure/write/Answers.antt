-- `Polygons::write` meets its contract.
use Rattle.possible_facets.specs.Possible.{polygon_words}
use Rattle.possible_facets.proofs.PolygonsFacetFigure.write.Goals as goal

pub returns : goal.returns
unfolding polygon_words
returns c = c.write_polygon.ensures
