-- Ridge orbits: every ridge's number is one of a ridge orbit, and every ridge orbit's count is at least 1 (so that a
-- share divides by no zero) and at most the number of rows. For every rank from 3. The identity, first of the rows,
-- leaves a shaped figure as it is. Leans on Move and Calls.
use Rattle.std.specs.Prelude.{◌≡◌, ℕ, ◌<◌}
use mathlib.Core.List.{List, []}
use Rattle.std.proofs.Math.ListN.{length, get_or}
use Rattle.definitions.specs.Lists.{count_from}
use Rattle.definitions.specs.Orbits.{Row, image}
use Rattle.definitions.specs.Figures.{Figure}
use Rattle.definitions.specs.Recursion.{Inner, Held, RidgeOrbits, no_ridges, move_sorted, number_ridges}
use Rattle.laws.specs.Lists.{Mem}
use Rattle.shapes.specs.Sizes.{Counted}

-- ---- one ridge

module _ (n : ℕ) (rows : List Row) (identity : Mem (count_from 0 n) rows) where
  pub record Sound (known : RidgeOrbits) : Type 0 where
    pub numbered : (h : Held) → Mem h known.held → h.orbit < length known.counts
    pub counted : (c : ℕ) → Mem c known.counts → Counted rows c

-- ---- every call

-- a call's ridges: each number is one of a ridge orbit, and each count is from 1 to the number of rows
pub record RidgesCounted (rows : List Row) (inner : List Inner) : Type 0 where
  pub numbers : (a : List (List ℕ)) → Mem a (number_ridges rows no_ridges inner).0 → (b : List ℕ) → Mem b a
      → (number : ℕ) → Mem number b → number < length (number_ridges rows no_ridges inner).1.counts
  pub counts : (c : ℕ) → Mem c (number_ridges rows no_ridges inner).1.counts → Counted rows c

-- every ridge of an inner answer, moved to this call's vertices, stays as it is under the identity
abbrev pub RidgesStay : ℕ → Inner → Type 0
RidgesStay n i = (fs : List Figure) → Mem fs i.answer.possible → (f : Figure) → Mem f fs
    → move_sorted (image (count_from 0 n)) (move_sorted (λ (v : ℕ). get_or i.orbit.vertices v 0) f)
    ≡ move_sorted (λ (v : ℕ). get_or i.orbit.vertices v 0) f
