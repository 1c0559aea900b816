-- The ridge orbits that a call of rank 3 or 4 numbers: each number is one of a ridge orbit, each count is from 1 to
-- the number of rows, and there are no more ridge orbits than keys. From what the call has before its search alone.
-- Leans on KeptSizes, KeyCounts and AllPairs.
use Rattle.std.specs.Prelude.{◌≡◌}
use Rattle.std.proofs.Common.{◌∙◌}
use mathlib.Core.List.{List}
use Prim.Native.Nat.{ℕ, ◌≤◌, ◌<◌}
use native.Mathlib.Omega.{arith}
use Rattle.std.proofs.Math.ListN.{length}
use Rattle.std.proofs.lemmas.List.{length-map}
use Rattle.definitions.specs.Lists.{count_from}
use Rattle.definitions.specs.Orbits.{Row}
use Rattle.laws.specs.Lists.{Mem, count_length}
use Rattle.shapes.specs.Sizes.{Counted}
use Rattle.shapes.specs.Ridges.{twice}
use Rattle.shapes.specs.Kept.{Kept, numbers_kept}
use Rattle.shapes.specs.KeptSizes.{ridge_keys}

-- ---- the keys of a call

-- n at rank 3, n (n − 1) / 2 at rank 4
pub keys_vertices : (n : ℕ) → length (ridge_keys 0 n) ≡ n
unfolding ridge_keys
keys_vertices n = length-map (count_from 0 n) twice ∙ count_length 0 n

-- ---- the numbers of a call

-- of a call of rank 3 + more on n points
pub record RidgesKept (more n : ℕ) (rows : List Row) (kept : List Kept) : Type 0 where
  pub below : (l : List ℕ) → Mem l (numbers_kept rows kept).0 → (number : ℕ) → Mem number l
      → number < length (numbers_kept rows kept).1.counts
  pub counted : (c : ℕ) → Mem c (numbers_kept rows kept).1.counts → Counted rows c
  pub few_keys : length (numbers_kept rows kept).1.counts ≤ length (ridge_keys more n)
  pub few : n ≤ 20 → length (numbers_kept rows kept).1.counts ≤ 190

-- at rank 3 no more than vertices
pub rank_three_ridges : (n : ℕ) (rows : List Row) (kept : List Kept) → RidgesKept 0 n rows kept
    → length (numbers_kept rows kept).1.counts ≤ n
rank_three_ridges n rows kept h = let a = h.few_keys in let b = keys_vertices n in omega arith
