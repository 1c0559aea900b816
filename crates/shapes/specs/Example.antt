-- Worked examples: the entries of the square and of a corner's four points as polygons and polyhedra, evaluated. They
-- show that the words of EdgeSets write the definitions' own figures.
use Rattle.std.specs.Prelude.{Bool, List, [], ◌∷◌, map, T}
use Rattle.std.proofs.Math.Dec.{compare_is_eq}
use Rattle.definitions.specs.Lists.{compare_list}
use Rattle.definitions.specs.Figures.{Figure, compare_figures}
use Rattle.definitions.specs.Recursion.{Entry}
use Rattle.definitions.specs.Job.{read_job}
use Rattle.definitions.specs.Open.{open_all}
use Rattle.definitions.specs.Examples.{open_examples, plain, square_job, corner_job}
use Rattle.definitions.specs.RuledOut.{entries_after, entries_with, entries_of_job}
use Rattle.shapes.specs.EdgeSets.{ends, polygon, polyhedron}

-- whether entries have these figures, in order
unfoldable pub have_figures : List Entry → List Figure → Bool
have_figures entries fs = compare_is_eq (compare_list compare_figures (map (λ (e : Entry). e.figure) entries) fs)

-- the seven entries of the square: triangles and crossed or plain quadrangles, with the pairs of the orbits 0,1,3 /
-- 0,1,4,5 / 0,2,3,5 / 0,2,4 / 1,2,3,4 / 1,2,5 / 3,4,5
unfoldable pub square_polygons : List Figure
square_polygons = map (polygon 4) (
    ((0, 1) ∷ (0, 2) ∷ (1, 2) ∷ [])
    ∷ ((0, 1) ∷ (0, 2) ∷ (1, 3) ∷ (2, 3) ∷ [])
    ∷ ((0, 1) ∷ (0, 3) ∷ (1, 2) ∷ (2, 3) ∷ [])
    ∷ ((0, 1) ∷ (0, 3) ∷ (1, 3) ∷ [])
    ∷ ((0, 2) ∷ (0, 3) ∷ (1, 2) ∷ (1, 3) ∷ [])
    ∷ ((0, 2) ∷ (0, 3) ∷ (2, 3) ∷ [])
    ∷ ((1, 2) ∷ (1, 3) ∷ (2, 3) ∷ []) ∷ [])

pub square_polygons_holds : T (have_figures (entries_of_job (read_job (square_job (plain 3)))) square_polygons)
unfolding open_all open_examples entries_after entries_with entries_of_job have_figures square_polygons ends polygon
square_polygons_holds = tt

-- the one entry of (0,0,0), (1,0,0), (0,1,0), (0,0,1): a tetrahedron, its polygons in the order of their lists of
-- edges
unfoldable pub tetrahedron : Figure
tetrahedron = polyhedron 4 ((0, 1) ∷ (0, 2) ∷ (0, 3) ∷ (1, 2) ∷ (1, 3) ∷ (2, 3) ∷ []) (
    ((0, 1) ∷ (0, 2) ∷ (1, 2) ∷ [])
    ∷ ((0, 1) ∷ (0, 3) ∷ (1, 3) ∷ [])
    ∷ ((0, 2) ∷ (0, 3) ∷ (2, 3) ∷ [])
    ∷ ((1, 2) ∷ (1, 3) ∷ (2, 3) ∷ []) ∷ [])

pub corner_polyhedron : T (have_figures (entries_of_job (read_job (corner_job (plain 4)))) (tetrahedron ∷ []))
unfolding open_all open_examples entries_after entries_with entries_of_job have_figures tetrahedron ends polyhedron
corner_polyhedron = tt
