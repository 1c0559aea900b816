-- Theorems on the definitions of specs/Assemble.
use Rattle.std.specs.Prelude.{◌≡◌, get_or}
use Rattle.std.proofs.Math.Path.{refl, ap}
use Rattle.std.proofs.Common.{sym, ◌∙◌, subst}
use mathlib.Core.List.{List, [], ◌∷◌, ◌++◌, map, flat_map, map-map}
use Prim.Native.Nat.{ℕ, zero, suc}
use Rattle.std.proofs.Math.ListN.{length, length-map, get_or-map}
use Rattle.definitions.specs.Lists.{sort_by, sort_nats, compare_nats, fresh, count_from}
use Rattle.definitions.specs.Figures.{Elements, number_in, renumber, lowest_ranks, without_lowest, assemble}
use Rattle.laws.specs.Lists.{Mem, of_map}
use Rattle.laws.specs.Orders.{nat_lists}
use Rattle.laws.specs.Places.{place_map, fresh_map, map_same}
use Rattle.shapes.specs.Shape.{Element, Stack, element_at}
use Rattle.shapes.specs.Move.{Into, sent_apart, numbers_into}
use Rattle.shapes.proofs.Move.{stack_sent}
use Rattle.shapes.specs.Assemble.{Facets, all_elements, lowest_all, lowest_by, lowest_of, lowest_rank}

-- ---- one rank taken off

-- the facets above their lowest rank, over any list that has all its elements
pub without_stack : (b : ℕ) (all : Elements) (r : List Elements) → ((e : List ℕ) → Mem e (lowest_of r) → Mem e all)
    → Stack b r → Stack (length all) (without_lowest all r)
unfolding without_lowest
without_stack b all [] within s = tt
without_stack b all (x ∷ []) within s = tt
without_stack b all (x ∷ next ∷ more) within s =
    stack_sent (length x) (length all) (λ (i : ℕ). number_in all (get_or x i []))
    (numbers_into x all s.0.distinct within) next more s.1

pub without_facets : (b : ℕ) (all : Elements) (facets : List (List Elements))
    → ((r : List Elements) → Mem r facets → (e : List ℕ) → Mem e (lowest_of r) → Mem e all)
    → Facets b facets → Facets (length all) (map (without_lowest all) facets)
without_facets b all facets within h q m =
    let r = of_map (without_lowest all) q facets m in
    subst (Stack (length all)) (sym r.2) (without_stack b all r.0 (within r.0 r.1) (h r.0 r.1))

-- ---- renumbering before and after

module _ (b d : ℕ) (number : ℕ → ℕ) (into : Into b d number) where
  abbrev sent : List ℕ → List ℕ
  sent e = sort_nats (map number e)

  lowest_sent : (facets : List (List Elements))
      → lowest_all (map (lowest_by number) facets) ≡ map sent (lowest_all facets)
  unfolding flat_map lowest_by renumber
  lowest_sent [] = refl
  lowest_sent ([] ∷ facets) = lowest_sent facets
  lowest_sent ((x ∷ more) ∷ facets) =
      ap (λ (l : Elements). map sent x ++ l) (lowest_sent facets) ∙ map_append sent x (lowest_all facets)
    where
      map_append : (f : List ℕ → List ℕ) (l m : Elements) → map f l ++ map f m ≡ map f (l ++ m)
      map_append f [] m = refl
      map_append f (y ∷ l) m = ap (λ (k : Elements). f y ∷ k) (map_append f l m)

  lowest_ranks_sent : (facets : List (List Elements)) → Facets b facets
      → lowest_ranks (map (lowest_by number) facets) ≡ map sent (lowest_ranks facets)
  unfolding lowest_ranks
  lowest_ranks_sent facets h =
      ap (fresh compare_nats []) (lowest_sent facets)
      ∙ fresh_map compare_nats nat_lists compare_nats nat_lists sent (Element b) (sent_apart b d number into) []
      (lowest_all facets) (λ e m. elim m [ ]) (all_elements b facets h)

  without_sent : (all : Elements) → ((e : List ℕ) → Mem e all → Element b e) → (r : List Elements) → Stack b r
      → without_lowest (map sent all) (lowest_by number r) ≡ without_lowest all r
  unfolding without_lowest lowest_by renumber number_in sort_nats sort_by
  without_sent all h [] s = refl
  without_sent all h (x ∷ []) s = refl
  without_sent all h (x ∷ next ∷ more) s =
      let same : (i : ℕ) → number_in (map sent all) (get_or (map sent x) i []) ≡ number_in all (get_or x i []) = λ i.
      ap (number_in (map sent all)) (get_or-map sent x i [])
      ∙ place_map compare_nats nat_lists compare_nats nat_lists sent (get_or x i []) all
      (λ e m. sent_apart b d number into (get_or x i []) e (element_at b x s.0.elements i) (h e m)) in
      ap (λ (f : ℕ → ℕ). renumber f next ∷ more) (λ t i. same i t)

  -- the ranks of renumbered facets are the facets' ranks, the lowest renumbered
  pub assemble_sent : (more : ℕ) (facets : List (List Elements)) → Facets b facets
      → assemble more (map (lowest_by number) facets) ≡ lowest_by number (assemble more facets)
  unfolding assemble lowest_by renumber
  assemble_sent zero facets h =
      let e = lowest_ranks_sent facets h in
      let n : length (lowest_ranks (map (lowest_by number) facets)) ≡ length (lowest_ranks facets) = ap length e
      ∙ length-map (lowest_ranks facets) sent in
      λ t. e t ∷ (count_from 0 (n t) ∷ []) ∷ []
  assemble_sent (suc more) facets h =
      let all = lowest_ranks facets in
      let e = lowest_ranks_sent facets h in
      let each : map (without_lowest (map sent all)) (map (lowest_by number) facets) ≡ map (without_lowest all) facets =
      map-map (without_lowest (map sent all)) (lowest_by number) facets
      ∙ map_same (λ (r : List Elements). without_lowest (map sent all) (lowest_by number r))
      (without_lowest all) facets (λ r m. without_sent all (lowest_rank b facets h).elements r (h r m)) in
      ap (λ (x : Elements). x ∷ assemble more (map (without_lowest x) (map (lowest_by number) facets))) e
      ∙ ap (λ (fs : List (List Elements)). map sent all ∷ assemble more fs) each
