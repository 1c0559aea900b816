-- The promised symmetry [13.12]: rows closed under composition carry every figure of a call to itself, at every rank
-- from 3, whatever the points, the limits and the rules. That rows which compose do is the law of nested sets
-- (NestedRows); here closed rows are such rows, and a figure that is carried has each of its ranks carried. No fact
-- about choices or about the order of the search is used. Leans on NestedRows, ClosedRows and Jobs.
use Rattle.std.specs.Prelude.{◌≡◌, refl, List, [], ◌∷◌, map, ℕ, get_or, drop}
use Rattle.std.proofs.Common.{sym, ap, ◌∙◌, subst}
use Rattle.std.proofs.Math.ListN.{get_or-map}
use Rattle.definitions.specs.Lists.{sort_by, sort_nats, compare_nats}
use Rattle.definitions.specs.Orbits.{Row, image}
use Rattle.definitions.specs.Figures.{Elements, Figure, number_in, renumber, sort_ranks, sort_strong, move_ends}
use Rattle.definitions.specs.Recursion.{move_sorted}
use Rattle.definitions.specs.Symmetry.{Carries, element_image, RanksKept}
use Rattle.shapes.specs.NestedFigures.{move_ranks}
use Rattle.laws.specs.Lists.{Mem}
use Rattle.laws.specs.Sorting.{in_sorted, of_sorted}
use Rattle.shapes.specs.Assemble.{lowest_by}
use Rattle.shapes.specs.Gathered.{sort_all}

-- ---- rank by rank

-- what a row does to a figure that it carries to itself [13.11]: the images of a rank's elements are its elements,
-- from the edges up to the facets
ranks_kept : (to : ℕ → ℕ) (es : Elements) (more : List Elements) → sort_ranks (renumber to es) more ≡ es ∷ more
    → RanksKept to (es ∷ more)
unfolding sort_ranks renumber RanksKept element_image sort_nats sort_by
ranks_kept to es [] e = tt
ranks_kept to es (next ∷ more) e =
    let moved = map (element_image to) es in
    let sorted : sort_by compare_nats moved ≡ es = ap (λ (ranks : List Elements). get_or ranks 0 []) e in
    let number : ℕ → ℕ = λ i. number_in (sort_by compare_nats moved) (get_or moved i []) in
    let goes : ℕ → ℕ = λ i. number_in es (element_image to (get_or es i [])) in
    let same : number ≡ goes = λ t i. number_in (sorted t) (get_or-map (element_image to) es i [] t) in
    let rest : sort_ranks (renumber goes next) more
    ≡ next ∷ more = ap (λ (f : ℕ → ℕ). sort_ranks (renumber f next) more) (sym same) ∙ ap (drop 1) e in (
      record {
        among = λ d m. subst (λ (l : Elements). Mem d l) sorted (in_sorted compare_nats d moved m);
        back = λ d m. of_sorted compare_nats d moved (subst (λ (l : Elements). Mem d l) (sym sorted) m);
      },
      ranks_kept goes next more rest,
    )

moved_drop : (to : ℕ → ℕ) (f : Figure) → drop 2 (move_sorted to f) ≡ sort_all (lowest_by to (drop 2 f))
unfolding move_sorted sort_strong move_ends sort_all lowest_by
moved_drop to [] = refl
moved_drop to (empty ∷ []) = refl
moved_drop to (empty ∷ points ∷ ranks) = ap (drop 2) (move_ranks to empty points ranks)

pub carried_kept : (row : Row) (f : Figure) → Carries row f → RanksKept (image row) (drop 2 f)
unfolding Carries RanksKept sort_all lowest_by
carried_kept row f carried = go (drop 2 f) (sym (moved_drop (image row) f) ∙ ap (drop 2) carried)
  where
    go : (ranks : List Elements) → sort_all (lowest_by (image row) ranks) ≡ ranks → RanksKept (image row) ranks
    go [] e = tt
    go (es ∷ more) e = ranks_kept (image row) es more e
