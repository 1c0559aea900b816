-- Theorems on the definitions of specs/KeptRidges.
use Rattle.std.proofs.Common.{sym}
use Rattle.std.proofs.Math.Path.{subst}
use mathlib.Core.List.{List, map}
use Prim.Native.Nat.{ℕ, zero, suc, ◌+◌, ◌*◌, ◌≤◌, ◌<◌}
use native.Mathlib.Omega.{arith}
use Rattle.std.proofs.Math.ListN.{length}
use Rattle.definitions.specs.Vectors.{Vec}
use Rattle.definitions.specs.Subspace.{Subspace}
use Rattle.definitions.specs.Orbits.{Row}
use Rattle.definitions.specs.Recursion.{Rules}
use Rattle.definitions.specs.Faceting.{Prepared, faceting}
use Rattle.laws.specs.Lists.{Mem, of_map}
use Rattle.shapes.specs.Answered.{Preparation}
use Rattle.shapes.specs.Calls.{Given}
use Rattle.shapes.specs.AllPairs.{all_pairs, of_all_pairs, all_pairs_ascend}
use Rattle.shapes.specs.Sizes.{edges_few, Counted}
use Rattle.shapes.specs.FewOrbits.{pairs_few}
use Rattle.shapes.specs.Ridges.{ridge_numbers}
use Rattle.shapes.proofs.RidgeCounts.{call_ridges}
use Rattle.shapes.specs.Kept.{kept_of, numbers_kept}
use Rattle.shapes.specs.KeptOrbits.{together}
use Rattle.shapes.specs.KeptOrbitTable.{of_together}
use Rattle.shapes.proofs.KeptTable.{kept_ridges, kept_counts}
use Rattle.shapes.specs.KeptSizes.{ridge_keys}
use Rattle.shapes.proofs.KeptSizes.{kept_sized}
use Rattle.shapes.specs.KeptRidges.{RidgesKept, keys_vertices}
use Rattle.shapes.proofs.KeptRidges.{ridges_few}

-- ---- the keys of a call

pub keys_pairs : (more n : ℕ) → 2 * length (ridge_keys (suc more) n) + n ≤ n * n
unfolding ridge_keys
keys_pairs more n = edges_few n (all_pairs n) (record { ascends = all_pairs_ascend n; proper = of_all_pairs n })

-- ---- the numbers of a call

module _ (more : ℕ) (rules : Rules) (plane : Subspace) (points : List Vec) (rows : List Row) (p : Prepared)
    (few : more ≤ 1) (given : Given points rows)
    (made : Preparation more rules (faceting more rules) plane points rows p) where
  pub ridges_kept : RidgesKept more (length points) rows (map kept_of p.inner)
  unfolding ridge_numbers
  ridges_kept =
      let kept = map kept_of p.inner in
      let n = length points in
      let numbers = kept_ridges more rules plane points rows p few made in
      let counts = kept_counts more rules plane points rows p few made in
      let all = call_ridges more rules plane points rows p given made in
      let few_keys = ridges_few more n rows kept given.rows_good
      (λ k m. (kept_sized more rules plane points rows p few given made k m).ends_keys) in
      record {
        below = λ l m number j.
            let own = subst (λ (rs : List Row). Mem l (numbers_kept rs kept).0) (sym made.rows_are) m in
            let r = of_map together l (ridge_numbers p.rows p.inner).0
            (subst (λ (ls : List (List ℕ)). Mem l ls) numbers own) in
            let q = of_together number r.0 (subst (λ (x : List ℕ). Mem number x) r.2 j) in
            subst (λ (rs : List Row). number < length (numbers_kept rs kept).1.counts) made.rows_are
            (subst (λ (cs : List ℕ). number < length cs) (sym counts) (all.numbers r.0 r.1 q.0 q.1 number q.2));
        counted = λ c m.
            subst (λ (rs : List Row). Counted rs c) made.rows_are
            (all.counts c (subst (λ (cs : List ℕ). Mem c cs) counts
            (subst (λ (rs : List Row). Mem c (numbers_kept rs kept).1.counts) (sym made.rows_are) m)));
        few_keys = few_keys;
        few = λ small. at_rank more few (length (numbers_kept rows kept).1.counts) few_keys small;
      }
    where
      at_rank : (more : ℕ) → more ≤ 1 → (many : ℕ) → many ≤ length (ridge_keys more (length points))
          → length points ≤ 20 → many ≤ 190
      at_rank zero few many h small = let e = keys_vertices (length points) in omega arith
      at_rank (suc more) few many h small =
          let k = pairs_few (length points) (length (ridge_keys (suc more) (length points))) small
          (keys_pairs more (length points)) in
          omega arith
