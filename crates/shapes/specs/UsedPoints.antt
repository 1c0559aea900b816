-- The points that a summary counts [12.5], at every rank: the ends of a figure's edges, each once (`used_are_ends`);
-- and how many they are, from the edges alone. Leans on the laws of lists.
use Rattle.std.specs.Prelude.{◌≡◌, refl, Bool, true, false, cond, ◌||◌, ℕ, zero, suc, ◌≤◌, ◌<◌, eqb, length, replicate}
use Rattle.std.proofs.Common.{sym, ap, ◌∙◌, subst, arith, eqb→eq}
use mathlib.Core.List.{List, [], ◌∷◌, map, Nodup}
use Rattle.std.proofs.Math.Dec.{eqb_refl}
use Rattle.std.proofs.lemmas.List.{length-replicate}
use Rattle.definitions.specs.Lists.{Pair, any_of, keep, count_from, member_nat}
use Rattle.definitions.specs.Figures.{Figure, rank_of}
use Rattle.definitions.specs.Job.{is_end, used_points}
use Rattle.laws.specs.Lists.{Mem, in_keep, kept, any_of_holds, any_witness, in_count, of_count, count_length}
use Rattle.laws.specs.Pairs.{Pairs, pairs_keep, pairs→nodup}
use Rattle.shapes.specs.EdgeSets.{ends}

-- ---- which points are counted

-- a point is counted exactly if some edge of the figure ends there, and none is counted twice
pub record UsedAreEnds (f : Figure) : Type 0 where
  pub counted : (v : ℕ) (edge : List ℕ) → v < length (rank_of 1 f) → Mem edge (rank_of 2 f) → Mem v edge
      → Mem v (used_points f)
  pub only : (v : ℕ) → Mem v (used_points f)
      → (v < length (rank_of 1 f)) × ((edge : List ℕ) × Mem edge (rank_of 2 f) × Mem v edge)
  pub once : Nodup (used_points f)

count_differs : (a n : ℕ) → Pairs (λ (x y : ℕ). x ≡ y → ⊥) (count_from a n)
unfolding count_from
count_differs a zero = tt
count_differs a (suc n) =
    ((λ y i e. let r = (of_count (suc a) n y i).0 in absurd (omega arith)), count_differs (suc a) n)

pub used_are_ends : (f : Figure) → UsedAreEnds f
unfolding used_points is_end member_nat
used_are_ends f =
    let points = count_from 0 (length (rank_of 1 f)) in
    record {
      counted = λ v edge h i j.
          in_keep (is_end f) v points (in_count 0 (length (rank_of 1 f)) v (omega arith) (omega arith))
          (any_of_holds (member_nat v) edge (rank_of 2 f) i (any_of_holds (eqb v) v edge j (eqb_refl v)));
      only = λ v i.
          let k = kept (is_end f) v points i in
          let below = (of_count 0 (length (rank_of 1 f)) v k.0).1 in
          let w = any_witness (member_nat v) (rank_of 2 f) k.1 in
          let x = any_witness (eqb v) w.0 w.2 in
          (omega arith, (w.0, w.1, subst (λ (z : ℕ). Mem z w.0) (sym (eqb→eq v x.0 x.2)) x.1));
      once =
          pairs→nodup (used_points f)
          (pairs_keep (λ (x y : ℕ). x ≡ y → ⊥) (is_end f) points (count_differs 0 (length (rank_of 1 f))));
    }

-- ---- how many they are

-- the vertex is an end of some of these edges
unfoldable pub end_of : List Pair → ℕ → Bool
end_of edges v = any_of (λ (e : Pair). member_nat v (ends e)) edges

-- how many of n points are an end of some of these edges
unfoldable pub ends_used : ℕ → List Pair → ℕ
ends_used n edges = length (keep (end_of edges) (count_from 0 n))

any_ends : (v : ℕ) (edges : List Pair) → any_of (member_nat v) (map ends edges) ≡ end_of edges v
unfolding any_of end_of
any_ends v [] = refl
any_ends v (e ∷ edges) = ap (λ (b : Bool). member_nat v (ends e) || b) (any_ends v edges)

keep_same : (p q : ℕ → Bool) (l : List ℕ) → ((x : ℕ) → p x ≡ q x) → keep p l ≡ keep q l
unfolding keep
keep_same p q [] h = refl
keep_same p q (x ∷ l) h = let r = keep_same p q l h in λ t. cond (h x t) (x ∷ r t) (r t)

pub used_ends : (f : Figure) (n : ℕ) (edges : List Pair) → rank_of 1 f ≡ replicate n (0 ∷ [])
    → rank_of 2 f ≡ map ends edges → length (used_points f) ≡ ends_used n edges
unfolding used_points is_end ends_used
used_ends f n edges points lines =
    let many = ap length points ∙ length-replicate {A = List ℕ} n (0 ∷ []) in
    let same : (v : ℕ) → is_end f v ≡ end_of edges v = λ v. ap (any_of (member_nat v)) lines ∙ any_ends v edges in
    ap length (keep_same (is_end f) (end_of edges) (count_from 0 (length (rank_of 1 f))) same
    ∙ ap (λ (k : ℕ). keep (end_of edges) (count_from 0 k)) many)

-- no more than there are points
kept_few : (p : ℕ → Bool) (l : List ℕ) → length (keep p l) ≤ length l
unfolding keep
kept_few p [] = omega arith
kept_few p (x ∷ l) = go (p x) (kept_few p l)
  where
    go : (b : Bool) → length (keep p l) ≤ length l → length (cond b (x ∷ keep p l) (keep p l)) ≤ suc (length l)
    go true h = omega arith
    go false h = omega arith

pub used_few : (f : Figure) → length (used_points f) ≤ length (rank_of 1 f)
unfolding used_points
used_few f =
    let h = kept_few (is_end f) (count_from 0 (length (rank_of 1 f))) in
    let e = count_length 0 (length (rank_of 1 f)) in
    omega arith
