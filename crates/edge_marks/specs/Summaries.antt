-- The summary of a figure from its marked edges, at every rank; and which vertices are their ends, mark by mark.
-- Leans on Marks, and on the points that a summary counts.
use Rattle.std.specs.Prelude.{◌≡◌, ◌||◌, List, [], ◌∷◌, eqb}
use Rattle.std.proofs.lemmas.List.Sums.{length-filter, count_by-le-length}
use Rattle.std.proofs.lemmas.List.FromFn.{length-range_with_len}
use Rattle.std.specs.List.{filter, list_any, range_with_len}
use Rattle.std.proofs.Math.Path.{ap, subst}
use Rattle.std.proofs.Common.{◌∙◌}
use Rattle.std.proofs.Math.Bool.{Bool, false}
use Rattle.std.proofs.Math.Logic.{⊎_elim}
use Prim.Native.Nat.{ℕ, ◌+◌, ◌*◌, ◌/◌, ◌%◌, ◌≤◌, ◌<◌}
use native.Mathlib.Omega.{arith}
use Rattle.std.proofs.Math.Dec.{T, eqb→eq, eqb_refl}
use Rattle.std.proofs.Math.ListN.{length, get_or}
use Rattle.definitions.specs.Lists.{Pair, any_of, count_from, member_nat}
use Rattle.laws.specs.Bools.{either, left_of, right_of, same_test}
use Rattle.laws.specs.Lists.{in_keep, kept, in_map, of_map, any_of_holds, any_witness, in_count, of_count}
use Rattle.rows.specs.Codes.{pair_of}
use Rattle.shapes.specs.EdgeSets.{ends}
use Rattle.shapes.specs.UsedPoints.{end_of, ends_used}
use Rattle.figure_words.specs.Laws.{range_is, any_is, filter_is}
use Rattle.edge_marks.specs.Marks.{codes_marked, edges_marked}

-- the points that are an end of a marked edge, the marked edges, the facets
unfoldable pub summary_marked : ℕ → List Bool → ℕ → List ℕ
summary_marked n marks facets = ends_used n (edges_marked marks) ∷ length (codes_marked marks 400) ∷ facets ∷ []

-- ---- an end by the marks of its row and its column

module _ (marks : List Bool) (v : ℕ) where
  -- a marked edge joins the vertex and another, in one order or the other
  abbrev pub joins : ℕ → Bool
  joins w = get_or marks (20 * v + w) false || get_or marks (20 * w + v) false

  abbrev has : Pair → Bool
  has e = member_nat v (ends e)

  -- a marked edge's ends
  is_end_holds : (c : ℕ) → c < 400 → T (get_or marks c false) → T (has (pair_of c)) → T (end_of (edges_marked marks) v)
  unfolding end_of edges_marked codes_marked
  is_end_holds c h m x =
      let here = in_keep (λ (code : ℕ). get_or marks code false) c (count_from 0 400)
      (in_count 0 400 c (omega arith) (omega arith)) m in
      any_of_holds has (pair_of c) (edges_marked marks) (in_map pair_of c (codes_marked marks 400) here) x

  joined_ends : v < 20 → (w : ℕ) → w < 20 → T (joins w) → T (end_of (edges_marked marks) v)
  unfolding member_nat any_of ends pair_of
  joined_ends h w k t =
      ⊎_elim
      (λ (m : T (get_or marks (20 * v + w) false)).
      let c = 20 * v + w in
      let e : v ≡ c / 20 = omega arith in
      is_end_holds c (omega arith) m
      (left_of (eqb v (c / 20)) (eqb v (c % 20) || false) (subst (λ (z : ℕ). T (eqb v z)) e (eqb_refl v))))
      (λ (m : T (get_or marks (20 * w + v) false)).
      let c = 20 * w + v in
      let e : v ≡ c % 20 = omega arith in
      is_end_holds c (omega arith) m (right_of (eqb v (c / 20)) (eqb v (c % 20)
      || false) (left_of (eqb v (c % 20)) false (subst (λ (z : ℕ). T (eqb v z)) e (eqb_refl v)))))
      (either (get_or marks (20 * v + w) false) (get_or marks (20 * w + v) false) t)

  -- an end of a marked edge is joined to the other end
  end_joined : T (end_of (edges_marked marks) v) → T (any_of joins (count_from 0 20))
  unfolding end_of edges_marked codes_marked member_nat any_of ends pair_of
  end_joined t =
      let x = any_witness has (edges_marked marks) t in
      let y = of_map pair_of x.0 (codes_marked marks 400) x.1 in
      let c = y.0 in
      let k = kept (λ (code : ℕ). get_or marks code false) c (count_from 0 400) y.1 in
      let small = (of_count 0 400 c k.0).1 in
      let is : T (has (pair_of c)) = subst (λ (p : Pair). T (has p)) y.2 x.2 in
      ⊎_elim
      (λ (a : T (eqb v (c / 20))).
      let e = eqb→eq v (c / 20) a in
      let s : c ≡ 20 * v + c % 20 = omega arith in
      at (c % 20) (omega arith) (left_of (get_or marks (20 * v + c % 20) false)
      (get_or marks (20 * (c % 20) + v) false) (subst (λ (z : ℕ). T (get_or marks z false)) s k.1)))
      (λ (b : T (eqb v (c % 20) || false)).
      ⊎_elim
      (λ (a : T (eqb v (c % 20))).
      let e = eqb→eq v (c % 20) a in
      let s : c ≡ 20 * (c / 20) + v = omega arith in
      at (c / 20) (omega arith) (right_of (get_or marks (20 * v + c / 20) false)
      (get_or marks (20 * (c / 20) + v) false) (subst (λ (z : ℕ). T (get_or marks z false)) s k.1)))
      (λ f. absurd f) (either (eqb v (c % 20)) false b))
      (either (eqb v (c / 20)) (eqb v (c % 20) || false) is)
    where
      at : (w : ℕ) → w < 20 → T (joins w) → T (any_of joins (count_from 0 20))
      at w h j = any_of_holds joins w (count_from 0 20) (in_count 0 20 w (omega arith) (omega arith)) j

  pub end_is : v < 20 → list_any joins (range_with_len 0 20) ≡ end_of (edges_marked marks) v
  end_is h =
      ap (list_any joins) (range_is 0 20)
      ∙ (any_is joins (count_from 0 20)
      ∙ same_test (any_of joins (count_from 0 20)) (end_of (edges_marked marks) v)
      (λ t. let x = any_witness joins (count_from 0 20) t in let low = of_count 0 20 x.0 x.1 in
      joined_ends h x.0 (omega (arith, low.1)) x.2) end_joined)

-- ---- the vertices that are ends

pub ends_counted : (marks : List Bool) (n : ℕ)
    → length (filter (end_of (edges_marked marks)) (range_with_len 0 n)) ≡ ends_used n (edges_marked marks)
unfolding ends_used
ends_counted marks n =
    ap (λ (l : List ℕ). length (filter (end_of (edges_marked marks)) l)) (range_is 0 n)
    ∙ ap length (filter_is (end_of (edges_marked marks)) (count_from 0 n))

pub ends_few : (marks : List Bool) (n : ℕ) → length (filter (end_of (edges_marked marks)) (range_with_len 0 n)) ≤ n
ends_few marks n =
    omega (
      arith,
      length-filter (end_of (edges_marked marks)) (range_with_len 0 n),
      count_by-le-length (end_of (edges_marked marks)) (range_with_len 0 n),
      length-range_with_len 0 n,
    )
