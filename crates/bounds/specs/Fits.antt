-- Fitting a subspace to small points: it stays tame, whichever points join it, and every vector whose norm is taken
-- on the way is small. `FitTakes` says which norms are taken: those of the residuals, until the basis is full. Leans
-- on Norms.
use Rattle.std.specs.Prelude.{Bool, not, cond, leb, length, Float}
use Rattle.std.proofs.Math.Bool.{true, false}
use mathlib.Core.List.{List, [], ◌∷◌, ◌++◌}
use Prim.Native.Nat.{ℕ, ◌+◌, ◌*◌, ◌≤◌, ◌<◌, zero-le}
use Rattle.std.proofs.Common.{le_trans, arith}
use Rattle.std.proofs.Math.Dec.{T, nleb→lt}
use Rattle.std.proofs.Math.ListN.{length-append}
use Rattle.std.specs.Float.Ieee.{lt, le}
use Rattle.definitions.specs.Vectors.{Vec, norm, normalised}
use Rattle.definitions.specs.Subspace.{Subspace, residual, add_point, add_points, from_points}
use Rattle.definitions.specs.Job.{least_tolerance}
use Rattle.bounds.specs.Sizes.{Each, each_append, Small, small_none, Tame, residual_small}
use Rattle.bounds.specs.Norms.{normalised_small}

-- A bound k on points of n coordinates that leaves room for the norms of their residuals: the residuals are at most 2
-- ^ (k + 4 + 2 n), and so the sum of n squares is finite.
abbrev pub RoomToFit : ℕ → ℕ → Type 0
RoomToFit n k = 2 * k + 8 + 5 * n ≤ 1023

-- ---- which norms are taken

-- To add these points to s, in order and until the basis has d vectors [4.4], is to take the norm of v.
pub data AddTakes (tolerance : Float) : Subspace → List Vec → Vec → Type 0 where
  at_first : {s : Subspace} {p : Vec} {ps : List Vec} → length s.basis < length s.offset
      → AddTakes tolerance s (p ∷ ps) (residual s p)
  behind : {s : Subspace} {p : Vec} {ps : List Vec} {v : Vec} → length s.basis < length s.offset
      → AddTakes tolerance (add_point tolerance s p) ps v
      → AddTakes tolerance s (p ∷ ps) v

-- To fit a subspace to these points is to take the norm of v.
pub data FitTakes (tolerance : Float) : List Vec → Vec → Type 0 where
  fitting : {p : Vec} {ps : List Vec} {v : Vec} → AddTakes tolerance (record { offset = p; basis = [] }) ps v
      → FitTakes tolerance (p ∷ ps) v

-- ---- fits are tame

module _ (n k : ℕ) (tolerance : Float) (room : RoomToFit n k) (low : T (le least_tolerance tolerance)) where
  add_point_tame : (s : Subspace) (p : Vec) → length s.basis < n → Tame n k s → Small n k p
      → Tame n k (add_point tolerance s p)
  unfolding add_point
  add_point_tame s p few h a = go (lt tolerance (norm (residual s p))) (λ t. t)
    where
      go : (b : Bool) → (T b → T (lt tolerance (norm (residual s p))))
          → Tame n k (cond b (record { offset = s.offset; basis = s.basis ++ (normalised (residual s p) ∷ []) }) s)
      go true t = record {
        offset = h.offset;
        basis =
            each_append (Small n 1) s.basis (normalised (residual s p) ∷ []) h.basis (
              normalised_small n (k + 4 + 2 * n) tolerance (residual s p) (omega arith) low (t tt)
                  (residual_small n k s p (omega arith) h a),
              tt,
            );
        few = let e = length-append s.basis (normalised (residual s p) ∷ []) in omega arith;
      }
      go false t = h

  pub add_points_tame : (s : Subspace) (ps : List Vec) → Tame n k s → Each (Small n k) ps
      → Tame n k (add_points tolerance s ps)
  unfolding add_points
  add_points_tame s [] h a = h
  add_points_tame s (p ∷ ps) h a =
      let short = h.offset.short in
      go (leb (length s.offset) (length s.basis))
      (λ t. add_points_tame (add_point tolerance s p) ps
      (add_point_tame s p (le_trans (nleb→lt (length s.offset) (length s.basis) t) short) h a.0) a.1)
    where
      go : (b : Bool) → (T (not b) → Tame n k (add_points tolerance (add_point tolerance s p) ps))
          → Tame n k (cond b s (add_points tolerance (add_point tolerance s p) ps))
      go true g = h
      go false g = g tt

  pub fit_tame : (ps : List Vec) → Each (Small n k) ps → Tame n k (from_points tolerance ps)
  unfolding from_points
  fit_tame [] a = record { offset = small_none n k; basis = tt; few = zero-le }
  fit_tame (p ∷ ps) a =
      add_points_tame (record { offset = p; basis = [] }) ps (record { offset = a.0; basis = tt; few = zero-le }) a.1

  -- ---- and what norms are taken of is small

  add_takes_small : (s : Subspace) (ps : List Vec) (v : Vec) → Tame n k s → Each (Small n k) ps
      → AddTakes tolerance s ps v → Small n (k + 4 + 2 * n) v
  add_takes_small s ps v h a (at_first {p = p} l) = residual_small n k s p (omega arith) h a.0
  add_takes_small s ps v h a (behind {p = p} {ps = rest} l t) =
      add_takes_small (add_point tolerance s p) rest v (add_point_tame s p (le_trans l h.offset.short) h a.0) a.1 t

  pub fit_takes_small : (ps : List Vec) (v : Vec) → Each (Small n k) ps → FitTakes tolerance ps v
      → Small n (k + 4 + 2 * n) v
  fit_takes_small ps v a (fitting {p = p} {ps = rest} t) = add_takes_small (record {
    offset = p;
    basis = [];
  }) rest v (record { offset = a.0; basis = tt; few = zero-le }) a.1 t
