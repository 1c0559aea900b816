-- Which vertices are ends of marked edges, mark by mark and vertex by vertex. Leans on Marks, and on the points that a
-- summary counts.
use Rattle.std.specs.Prelude.{◌≡◌, ◌||◌, List, [], ◌∷◌, eqb}
use Rattle.std.proofs.Math.Path.{refl, ap, subst}
use Rattle.std.proofs.Common.{sym, ◌∙◌}
use Rattle.std.proofs.Math.Bool.{Bool, true, false, cond}
use Rattle.std.proofs.Math.Logic.{⊎_elim}
use Prim.Native.Nat.{ℕ, ◌+◌, ◌*◌, ◌/◌, ◌%◌, ◌≤◌, ◌<◌}
use native.Mathlib.Omega.{arith}
use Rattle.std.proofs.Math.Dec.{T, eqb→eq, eqb_refl}
use Rattle.std.proofs.Math.ListN.{length, get_or, length-append}
use Rattle.definitions.specs.Lists.{Pair, any_of, keep, count_from, member_nat}
use Rattle.laws.specs.Bools.{holds→true, true→holds, fails→false, either, left_of, right_of, decide}
use Rattle.laws.specs.Lists.{in_keep, kept, in_map, of_map, any_of_holds, any_witness, in_count, of_count, keep_append}
use Rattle.laws.specs.Segments.{le_or_lt}
use Rattle.rows.specs.Codes.{pair_of}
use Rattle.shapes.specs.EdgeSets.{ends}
use Rattle.shapes.specs.UsedPoints.{end_of, ends_used}
use Rattle.figure_words.specs.Laws.{count_more}
use Rattle.edge_marks.specs.Marks.{codes_marked, edges_marked}

-- 1 for an end of a marked edge, 0 for any other vertex
unfoldable pub end_at : List Bool → ℕ → ℕ
end_at marks v = cond (end_of (edges_marked marks) v) 1 0

-- ---- an end by the marks of its row and its column

module _ (marks : List Bool) (v : ℕ) where
  -- no marked edge joins the vertex and one below w
  pub record NoneBelow (w : ℕ) : Type 0 where
    pub first : (u : ℕ) → u < w → get_or marks (20 * v + u) false ≡ false
    pub second : (u : ℕ) → u < w → get_or marks (20 * u + v) false ≡ false

  pub none_yet : NoneBelow 0
  none_yet = record { first = λ u h. absurd (omega arith); second = λ u h. absurd (omega arith) }

  pub none_more : (w : ℕ) → NoneBelow w → get_or marks (20 * v + w) false ≡ false → get_or marks (20 * w + v) false
      ≡ false → NoneBelow (w + 1)
  none_more w h a b = record {
    first = λ u l. ⊎_elim
        (λ (k : w ≤ u). let e : w ≡ u = omega arith in subst (λ (z : ℕ). get_or marks (20 * v + z) false ≡ false) e a)
        (h.first u) (le_or_lt w u);
    second = λ u l. ⊎_elim
        (λ (k : w ≤ u). let e : w ≡ u = omega arith in subst (λ (z : ℕ). get_or marks (20 * z + v) false ≡ false) e b)
        (h.second u) (le_or_lt w u);
  }

  -- a marked edge's ends
  is_end_holds : (c : ℕ) → c < 400 → get_or marks c false ≡ true → T (member_nat v (ends (pair_of c))) → 1
      ≡ end_at marks v
  unfolding end_at end_of edges_marked codes_marked
  is_end_holds c h m x =
      let here =
      in_keep (λ (code : ℕ). get_or marks code false) c (count_from 0 400)
      (in_count 0 400 c (omega arith) (omega arith)) (true→holds m) in
      let test : Pair → Bool = λ e. member_nat v (ends e) in
      ap (λ (b : Bool). cond b 1 0)
      (sym (holds→true (end_of (edges_marked marks) v)
      (any_of_holds test (pair_of c) (edges_marked marks) (in_map pair_of c (codes_marked marks 400) here) x)))

  pub first_end : (w : ℕ) → v < 20 → w < 20 → get_or marks (20 * v + w) false ≡ true → 1 ≡ end_at marks v
  unfolding member_nat any_of ends pair_of
  first_end w h k m =
      let c = 20 * v + w in
      let e : v ≡ c / 20 = omega arith in
      is_end_holds c (omega arith) m
      (left_of (eqb v (c / 20)) (eqb v (c % 20) || false) (subst (λ (z : ℕ). T (eqb v z)) e (eqb_refl v)))

  pub second_end : (w : ℕ) → v < 20 → w < 20 → get_or marks (20 * w + v) false ≡ true → 1 ≡ end_at marks v
  unfolding member_nat any_of ends pair_of
  second_end w h k m =
      let c = 20 * w + v in
      let e : v ≡ c % 20 = omega arith in
      is_end_holds c (omega arith) m
      (right_of (eqb v (c / 20)) (eqb v (c % 20) || false)
      (left_of (eqb v (c % 20)) false (subst (λ (z : ℕ). T (eqb v z)) e (eqb_refl v))))

  -- a vertex with no mark in its row and column is no end
  no_end : NoneBelow 20 → T (end_of (edges_marked marks) v) → ⊥
  unfolding end_of edges_marked codes_marked member_nat any_of ends pair_of
  no_end n t =
      let test : Pair → Bool = λ e. member_nat v (ends e) in
      let x = any_witness test (edges_marked marks) t in
      let y = of_map pair_of x.0 (codes_marked marks 400) x.1 in
      let c = y.0 in
      let k = kept (λ (code : ℕ). get_or marks code false) c (count_from 0 400) y.1 in
      let small = (of_count 0 400 c k.0).1 in
      let marked : get_or marks c false ≡ true = holds→true (get_or marks c false) k.1 in
      let is : T (test (pair_of c)) = subst (λ (p : Pair). T (test p)) y.2 x.2 in
      ⊎_elim
      (λ (a : T (eqb v (c / 20))).
      let e = eqb→eq v (c / 20) a in
      let s : 20 * v + c % 20 ≡ c = omega arith in
      true_false (sym marked ∙ (ap (λ (z : ℕ). get_or marks z false) (sym s) ∙ n.first (c % 20) (omega arith))))
      (λ (b : T (eqb v (c % 20) || false)).
      ⊎_elim
      (λ (a : T (eqb v (c % 20))).
      let e = eqb→eq v (c % 20) a in
      let s : 20 * (c / 20) + v ≡ c = omega arith in
      true_false (sym marked ∙ (ap (λ (z : ℕ). get_or marks z false) (sym s) ∙ n.second (c / 20) (omega arith))))
      (λ f. f)
      (either (eqb v (c % 20)) false b))
      (either (eqb v (c / 20)) (eqb v (c % 20) || false) is)
    where
      true_false : true ≡ false → ⊥
      true_false e = subst T e tt

  pub none_end : NoneBelow 20 → 0 ≡ end_at marks v
  unfolding end_at
  none_end n =
      let b = end_of (edges_marked marks) v in
      ap (λ (z : Bool). cond z 1 0) (sym (⊎_elim (λ (t : T b). absurd (no_end n t)) (fails→false b) (decide b)))

-- ---- one vertex more

module _ (marks : List Bool) where
  abbrev edges : List Pair
  edges = edges_marked marks

  pub ends_none : 0 ≡ ends_used 0 edges
  unfolding ends_used keep count_from
  ends_none = refl

  pub ends_count : (v many one : ℕ) → one ≡ end_at marks v → many ≡ ends_used v edges
      → (many + one ≡ ends_used (v + 1) edges) × (one ≤ 1)
  unfolding ends_used end_at keep
  ends_count v many one e f =
      let more = ap (keep (end_of edges)) (count_more v) ∙ keep_append (end_of edges) (count_from 0 v) (v ∷ []) in
      go (end_of edges v) e
      (ap length more ∙ length-append (keep (end_of edges) (count_from 0 v)) (keep (end_of edges) (v ∷ [])))
    where
      before : ℕ
      before = length (keep (end_of edges) (count_from 0 v))

      after : ℕ
      after = length (keep (end_of edges) (count_from 0 (v + 1)))

      go : (b : Bool) → one ≡ cond b 1 0 → after ≡ before + length (cond b (v ∷ []) []) → (many + one ≡ after)
          × (one ≤ 1)
      go true p q = (omega arith, omega arith)
      go false p q = (omega arith, omega arith)
