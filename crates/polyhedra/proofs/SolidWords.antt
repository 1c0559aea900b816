-- The words of a polyhedron with a table of its edges' numbers, and what the functions on parts of the workspace ask
-- at rank 4. Leans on Solids.
use mathlib.Core.Path.{◌≡◌, ap}
use mathlib.Core.Bool.{Bool, false}
use mathlib.Core.List.{List, ◌∷◌, ◌++◌, flat_map}
use Prim.Native.Nat.{ℕ}
use native.Mathlib.Omega.{arith}
use lib.ListN.{length, get_or}
use Rattle.definitions.specs.Lists.{count_from}
use Rattle.laws.specs.Lists.{kept, of_count, flat_map_same}
use Rattle.laws.specs.Places.{map_same}
use Rattle.shapes.specs.FigureWords.{point_words, edge_words, body_words}
use Rattle.edge_marks.specs.Marks.{codes_marked, edges_marked}
use Rattle.facet_images.specs.declared.Choice.TheVariants.{Left}
use Rattle.facet_images.specs.Images.{NumbersOf, facet_words, id_words, chosen_from}
use Rattle.polyhedra.specs.Solids.{facet_from, image_of, polyhedron_from}

facet_from_holds : (marks image : List Bool) (numbers : List ℕ) → NumbersOf marks numbers
    → facet_words image numbers ≡ facet_from marks image
unfolding facet_words facet_from codes_marked
facet_from_holds marks image numbers h =
    ap (λ (l : List ℕ). length (codes_marked image 400) ∷ l)
    (map_same (λ (code : ℕ). get_or numbers code 0) (λ (code : ℕ). length (codes_marked marks code))
    (codes_marked image 400) (λ code i.
    let k = kept (λ (c : ℕ). get_or image c false) code (count_from 0 400) i in
    h.at code (omega (arith, (of_count 0 400 code k.0).1))))

pub polyhedron_is : (n lines facets : ℕ) (marks inside : List Bool) (ids edges rows numbers : List ℕ)
    → NumbersOf marks numbers → lines ≡ length (codes_marked marks 400)
    → facets ≡ length (chosen_from inside Left ids)
    → 5 ∷ 1 ∷ 0 ∷ n ∷ point_words n ++ (lines ∷ edge_words (edges_marked marks)
    ++ (facets ∷ flat_map (id_words edges rows numbers) (chosen_from inside Left ids) ++ body_words facets))
    ≡ polyhedron_from n marks inside ids edges rows
unfolding polyhedron_from id_words image_of
polyhedron_is n lines facets marks inside ids edges rows numbers h e f =
    let each = flat_map_same (id_words edges rows numbers) (λ (id : ℕ). facet_from marks (image_of edges rows id))
    (chosen_from inside Left ids) (λ id i. facet_from_holds marks (image_of edges rows id) numbers h) in
    λ t. 5 ∷ 1 ∷ 0 ∷ n ∷ point_words n ++ (e t ∷ edge_words (edges_marked marks) ++ (f t ∷ each t ++ body_words (f t)))
