-- Theorems on the definitions of specs/Gathered.
use Rattle.std.specs.Prelude.{◌≡◌, get_or}
use Rattle.std.proofs.Math.Path.{refl, sym, ap}
use Rattle.std.proofs.Common.{◌∙◌, subst}
use mathlib.Core.List.{List, [], ◌∷◌, map, map-map}
use Prim.Native.Nat.{ℕ, zero, suc, ◌<◌, compare}
use native.Mathlib.Omega.{arith}
use Rattle.std.proofs.Math.ListN.{length, length-map}
use Rattle.definitions.specs.Lists.{sort_by, sort_nats, compare_nats, count_from}
use Rattle.definitions.specs.Figures.{Elements, number_in, renumber, sort_ranks, lowest_ranks, without_lowest, assemble}
use Rattle.laws.specs.Lists.{Mem, in_map, of_map, of_count, count_length, member_at}
use Rattle.laws.specs.Orders.{nats, nat_lists}
use Rattle.laws.specs.Sorting.{in_sorted, of_sorted}
use Rattle.laws.specs.Ascending.{sorted_length, same_ascending}
use Rattle.laws.specs.Places.{at_place, map_same}
use Rattle.laws.specs.Ranges.{count_ascending}
use Rattle.laws.proofs.Ranges.{ascending_full}
use Rattle.shapes.specs.Shape.{Element, Rank, Stack}
use Rattle.shapes.specs.Move.{Into, numbers_into}
use Rattle.shapes.proofs.Move.{element_sent}
use Rattle.shapes.specs.Assemble.{Facets, lowest_of, lowest_by, lowest_rank, in_lowest}
use Rattle.shapes.proofs.Assemble.{without_facets, assemble_sent}
use Rattle.shapes.specs.Gathered.{elements_of, gathered, sort_all}

-- ---- two numberings, one after the other

into_after : (a b d : ℕ) (g f : ℕ → ℕ) → Into a b g → Into b d f → Into a d (λ (i : ℕ). f (g i))
into_after a b d g f s t = record {
  below = λ x h. t.below (g x) (s.below x h);
  apart = λ x y h k e. s.apart x y h k (t.apart (g x) (g y) (s.below x h) (s.below y k) e);
}

renumber_twice : (a b d : ℕ) (g f : ℕ → ℕ) → Into a b g → Into b d f → (e : List ℕ) → Element a e
    → sort_nats (map f (sort_nats (map g e))) ≡ sort_nats (map (λ (i : ℕ). f (g i)) e)
unfolding sort_nats
renumber_twice a b d g f s t e h =
    same_ascending compare nats (sort_nats (map f (sort_nats (map g e)))) (sort_nats (map (λ (i : ℕ). f (g i)) e))
    (element_sent b d f t (sort_nats (map g e)) (element_sent a b g s e h)).ascends
    (element_sent a d (λ (i : ℕ). f (g i)) (into_after a b d g f s t) e h).ascends
    (record {
      into = λ x i.
          let r = of_map f x (sort_nats (map g e)) (of_sorted compare x (map f (sort_nats (map g e))) i) in
          let q = of_map g r.0 e (of_sorted compare r.0 (map g e) r.1) in
          in_sorted compare x (map (λ (j : ℕ). f (g j)) e)
          (subst (λ (z : ℕ). Mem z (map (λ (j : ℕ). f (g j)) e)) (sym (r.2 ∙ ap f q.2))
          (in_map (λ (j : ℕ). f (g j)) q.0 e q.1));
      back = λ x i.
          let r = of_map (λ (j : ℕ). f (g j)) x e (of_sorted compare x (map (λ (j : ℕ). f (g j)) e) i) in
          in_sorted compare x (map f (sort_nats (map g e)))
          (subst (λ (z : ℕ). Mem z (map f (sort_nats (map g e)))) (sym r.2)
          (in_map f (g r.0) (sort_nats (map g e)) (in_sorted compare (g r.0) (map g e) (in_map g r.0 e r.1))));
    })

-- ---- a rank put in order

module _ (all : Elements) where
  abbrev in_place : Elements
  in_place = sort_by compare_nats all

  abbrev new_number : ℕ → ℕ
  new_number i = number_in in_place (get_or all i [])

  -- numbering by the rank as it came, and then by its order, is numbering by its order
  without_in_order : (b : ℕ) → Rank b all → (r : List Elements) → ((e : List ℕ) → Mem e (lowest_of r) → Mem e all)
      → Stack b r
      → lowest_by new_number (without_lowest all r) ≡ without_lowest in_place r
  unfolding without_lowest lowest_by renumber number_in
  without_in_order b k [] within s = refl
  without_in_order b k (x ∷ []) within s = refl
  without_in_order b k (x ∷ next ∷ more) within s =
      let first : ℕ → ℕ = λ i. number_in all (get_or x i []) in
      let to-all = numbers_into x all s.0.distinct within in
      let to-place = numbers_into all in_place k.distinct (λ e m. in_sorted compare_nats e all m) in
      let one : (i : ℕ) → i < length x → new_number (first i) ≡ number_in in_place (get_or x i []) = λ i h.
      ap (number_in in_place)
      (at_place compare_nats nat_lists [] (get_or x i []) all (within (get_or x i []) (member_at x i [] h))) in
      let each : map (λ (e : List ℕ). sort_nats (map new_number e)) (map (λ (e : List ℕ). sort_nats (map first e)) next)
      ≡ map (λ (e : List ℕ). sort_nats (map (λ (i : ℕ). number_in in_place (get_or x i [])) e)) next =
      map-map (λ (e : List ℕ). sort_nats (map new_number e)) (λ (e : List ℕ). sort_nats (map first e)) next
      ∙ map_same (λ (e : List ℕ). sort_nats (map new_number (sort_nats (map first e))))
      (λ (e : List ℕ). sort_nats (map (λ (i : ℕ). number_in in_place (get_or x i [])) e)) next
      (λ e m.
      let h = s.1.0.elements e m in
      renumber_twice (length x) (length all) (length in_place) first new_number to-all to-place e h
      ∙ ap sort_nats (map_same (λ (i : ℕ). new_number (first i)) (λ (i : ℕ). number_in in_place (get_or x i [])) e
      (λ i j. one i (h.below i j)))) in
      ap (λ (y : Elements). y ∷ more) each

  -- a body names all elements, however they are numbered
  pub body_in_order : (b : ℕ) → Rank b all
      → sort_nats (map new_number (count_from 0 (length all))) ≡ count_from 0 (length in_place)
  unfolding sort_nats
  body_in_order b k =
      let n = length all in
      let same : length in_place ≡ n = sorted_length compare_nats nat_lists all in
      let whole : Element n (count_from 0 n) = record {
        ascends = count_ascending 0 n;
        below = λ x m. let r = (of_count 0 n x m).1 in omega arith;
      } in
      let made = element_sent n (length in_place) new_number
      (numbers_into all in_place k.distinct (λ e m. in_sorted compare_nats e all m)) (count_from 0 n) whole in
      ascending_full 0 (length in_place) (sort_nats (map new_number (count_from 0 n))) made.ascends (λ x m. let r =
      made.below x m in (omega arith, omega arith))
      (sorted_length compare nats (map new_number (count_from 0 n)) ∙ length-map (count_from 0 n) new_number
      ∙ count_length 0 n ∙ sym same)

-- ---- assembled and then sorted is gathered

sort_assembled : (all : Elements) (more : ℕ) (facets : List (List Elements))
    → sort_ranks all (assemble more facets) ≡ sort_by compare_nats all
    ∷ sort_all (lowest_by (λ (i : ℕ). number_in (sort_by compare_nats all) (get_or all i [])) (assemble more facets))
unfolding assemble sort_ranks sort_all lowest_by
sort_assembled all zero facets = refl
sort_assembled all (suc more) facets = refl

pub gather : (b more : ℕ) (facets : List (List Elements)) → Facets b facets
    → sort_all (assemble more facets) ≡ gathered more facets
unfolding assemble sort_all sort_ranks gathered elements_of renumber
gather b zero facets h =
    let all = lowest_ranks facets in
    ap (λ (body : List ℕ). sort_by compare_nats all ∷ (body ∷ []) ∷ []) (body_in_order all b (lowest_rank b facets h))
gather b (suc more) facets h =
    let all = lowest_ranks facets in
    let place = sort_by compare_nats all in
    let number : ℕ → ℕ = λ i. number_in place (get_or all i []) in
    let rank = lowest_rank b facets h in
    let upper = map (without_lowest all) facets in
    let into = numbers_into all place rank.distinct (λ e m. in_sorted compare_nats e all m) in
    let up = without_facets b all facets (λ r m e i. in_lowest facets r m e i) h in
    let placed : map (lowest_by number) upper ≡ map (without_lowest place) facets =
    map-map (lowest_by number) (without_lowest all) facets
    ∙ map_same (λ (r : List Elements). lowest_by number (without_lowest all r)) (without_lowest place) facets
    (λ r m. without_in_order all b rank r (in_lowest facets r m) (h r m)) in
    let over = without_facets b place facets (λ r m e i. in_sorted compare_nats e all (in_lowest facets r m e i)) h in
    sort_assembled all more upper
    ∙ ap (λ (ranks : List Elements). place ∷ sort_all ranks)
    (sym (assemble_sent (length all) (length place) number into more upper up) ∙ ap (assemble more) placed)
    ∙ ap (λ (ranks : List Elements). place ∷ ranks)
    (gather (length place) more (map (without_lowest place) facets) over)
