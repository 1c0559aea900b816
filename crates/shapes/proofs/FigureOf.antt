-- Theorems on the definitions of specs/FigureOf.
use Rattle.std.specs.Prelude.{◌≡◌, refl, ℕ, zero, suc, ◌+◌, length, drop, replicate}
use Rattle.std.proofs.Common.{sym, ap, ◌∙◌, subst, arith}
use mathlib.Core.List.{List, [], ◌∷◌, map}
use Rattle.definitions.specs.Lists.{sort_by, sort_nats, compare_nats, count_from}
use Rattle.definitions.specs.Figures.{Elements, Figure, sort_ranks, sort_strong, lowest_ranks, without_lowest, assemble}
use Rattle.definitions.specs.Figures.{figure_of}
use Rattle.laws.specs.Lists.{of_map}
use Rattle.laws.specs.Orders.{nat_lists}
use Rattle.laws.specs.Sorting.{in_sorted}
use Rattle.laws.specs.Ascending.{SameItems, sorted_ascends, in_order_same}
use Rattle.laws.specs.Places.{map_self}
use Rattle.laws.specs.Ranges.{same_map, same_flat_map}
use Rattle.shapes.specs.Shape.{Rank, Stack, Tower, Shaped, crowned_above, element_sorted}
use Rattle.shapes.specs.Move.{rank_sorted}
use Rattle.shapes.specs.Assemble.{Facets, lowest_of, lowest_all, lowest_rank, in_lowest}
use Rattle.shapes.proofs.Assemble.{without_facets}
use Rattle.shapes.specs.Gathered.{elements_of, gathered, sort_all}
use Rattle.shapes.proofs.Gathered.{gather}
use Rattle.shapes.specs.FigureOf.{Stacked, body_element}

stacked_facets : (n : ℕ) (facets : List Figure) → Stacked n facets → Facets n (map (drop 2) facets)
stacked_facets n facets h r m = let q = of_map (drop 2) r facets m in subst (Stack n) (sym q.2) (h q.0 q.1)

-- ---- the equation

sort_ends : (b : ℕ) (es : Elements) → Rank b es → map sort_nats es ≡ es
sort_ends b es h = map_self sort_nats es (λ e m. element_sorted b e (h.elements e m))

sort_assembled : (n more : ℕ) (empty points : Elements) (facets : List (List Elements)) → Facets n facets
    → sort_strong (empty ∷ points ∷ assemble more facets) ≡ empty ∷ points ∷ sort_all (assemble more facets)
unfolding sort_strong assemble sort_all
sort_assembled n zero empty points facets h = let all = lowest_ranks facets in
    ap (λ (es : Elements). empty ∷ points ∷ sort_ranks es ((count_from 0 (length all) ∷ []) ∷ []))
    (sort_ends n all (lowest_rank n facets h))
sort_assembled n (suc more) empty points facets h = let all = lowest_ranks facets in
    ap (λ (es : Elements). empty ∷ points ∷ sort_ranks es (assemble more (map (without_lowest all) facets)))
    (sort_ends n all (lowest_rank n facets h))

pub figure_of_holds : (n more : ℕ) (facets : List Figure) → Stacked n facets
    → figure_of more n facets ≡ ([] ∷ []) ∷ replicate n (0 ∷ []) ∷ gathered more (map (drop 2) facets)
unfolding figure_of
figure_of_holds n more facets h =
    let stacks = map (drop 2) facets in
    let good = stacked_facets n facets h in
    sort_assembled n more ([] ∷ []) (replicate n (0 ∷ [])) stacks good
    ∙ ap (λ (ranks : List Elements). ([] ∷ []) ∷ replicate n (0 ∷ []) ∷ ranks) (gather n more stacks good)

-- ---- its shape

gathered_length : (more : ℕ) (facets : List (List Elements)) → length (gathered more facets) ≡ suc (suc more)
unfolding gathered
gathered_length zero facets = refl
gathered_length (suc more) facets = ap suc (gathered_length more (map (without_lowest (elements_of facets)) facets))

pub gathered_tower : (b more : ℕ) (facets : List (List Elements)) → Facets b facets → Tower b (gathered more facets)
unfolding gathered elements_of
gathered_tower b zero facets h =
    let rank = lowest_rank b facets h in
    let es = sort_by compare_nats (lowest_ranks facets) in
    record {
      stack = (rank_sorted b (lowest_ranks facets) rank, (body_element (length es), tt));
      sorted = (
        sorted_ascends compare_nats nat_lists (lowest_ranks facets) rank.distinct,
        (((λ y i. elim i [ ]), tt), tt),
      );
      crowned = refl;
    }
gathered_tower b (suc more) facets h =
    let rank = lowest_rank b facets h in
    let es = sort_by compare_nats (lowest_ranks facets) in
    let upper = map (without_lowest es) facets in
    let rest = gathered_tower (length es) more upper (without_facets b es facets (λ r m e i.
    in_sorted compare_nats e (lowest_ranks facets) (in_lowest facets r m e i)) h) in
    record {
      stack = (rank_sorted b (lowest_ranks facets) rank, rest.stack);
      sorted = (sorted_ascends compare_nats nat_lists (lowest_ranks facets) rank.distinct, rest.sorted);
      crowned = crowned_above es (gathered more upper) rest.crowned;
    }

pub figure_shaped : (n more : ℕ) (facets : List Figure) → Stacked n facets
    → Shaped n (3 + more) (figure_of more n facets)
figure_shaped n more facets h =
    let stacks = map (drop 2) facets in
    let e = gathered_length more stacks in
    record {
      empty = [] ∷ [];
      vertices = replicate n (0 ∷ []);
      ranks = gathered more stacks;
      is = figure_of_holds n more facets h;
      number = omega arith;
      tower = gathered_tower n more stacks (stacked_facets n facets h);
    }

-- ---- the set of its facets

gathered_same : (more : ℕ) (l m : List (List Elements)) → SameItems l m → gathered more l ≡ gathered more m
unfolding gathered elements_of lowest_ranks
gathered_same zero l m s =
    ap (λ (es : Elements). es ∷ (count_from 0 (length es) ∷ []) ∷ [])
    (in_order_same compare_nats nat_lists (lowest_all l) (lowest_all m) (same_flat_map lowest_of l m s))
gathered_same (suc more) l m s =
    let es = elements_of l in
    let same : elements_of l ≡ elements_of m =
    in_order_same compare_nats nat_lists (lowest_all l) (lowest_all m) (same_flat_map lowest_of l m s) in
    ap (λ (rest : List Elements). es ∷ rest) (gathered_same more (map (without_lowest es) l)
    (map (without_lowest es) m) (same_map (without_lowest es) l m s))
    ∙ ap (λ (x : Elements). x ∷ gathered more (map (without_lowest x) m)) same

-- facets in another order, or repeated, give the same figure
pub figure_same : (n more : ℕ) (l m : List Figure) → Stacked n l → SameItems l m
    → figure_of more n l ≡ figure_of more n m
figure_same n more l m h s =
    figure_of_holds n more l h
    ∙ ap (λ (ranks : List Elements). ([] ∷ []) ∷ replicate n (0 ∷ []) ∷ ranks)
    (gathered_same more (map (drop 2) l) (map (drop 2) m) (same_map (drop 2) l m s))
    ∙ sym (figure_of_holds n more m (λ f i. h f (s.back f i)))
