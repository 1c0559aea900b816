-- The calls of a job, and the norms that each takes. A call has a rank (2 + more), a plane and points; norms are
-- taken in it at exactly three places (`Takes`): a pair's length in `breaks_limit`, the residuals in `from_points`,
-- for the tuples of `hyperplanes` and for the refit of `inner_call`, and the distances in `points_near`. The inner
-- calls are those on any list of vertices whose refit has the wanted number of basis vectors (`Occurs`), so more than
-- a job ever makes. Every norm taken has a root, as long as the bound of the points, which grows with the depth,
-- leaves room. Leans on Fits.
use Rattle.std.specs.Prelude.{◌≡◌, true, ℕ, zero, suc, ◌+◌, ◌*◌, ◌≤◌, T, Float}
use mathlib.Core.List.{List, [], map}
use native.Mathlib.Omega.{arith}
use Rattle.std.proofs.Math.ListN.{length}
use Rattle.std.specs.Float.Ieee.{le}
use Rattle.definitions.specs.Vectors.{Vec, dot, has_root, norm, is_double, minus}
use Rattle.definitions.specs.Subspace.{Subspace, residual, from_points, flatten}
use Rattle.definitions.specs.Orbits.{point_at}
use Rattle.definitions.specs.Job.{least_tolerance}
use Rattle.bounds.specs.Sizes.{Each, each_get_d, each_map, each_of_map, is_double_holds, Small, small_none, Tame}
use Rattle.bounds.specs.Sizes.{flatten_small}
use Rattle.bounds.specs.Norms.{norm_has_root, norm_finite}
use Rattle.bounds.specs.Fits.{FitTakes, fit_tame}

-- ---- the norms that a call takes

-- the flattened points of a call
unfoldable pub flattened : Subspace → List Vec → List Vec
flattened plane points = map (flatten plane) points

-- the flattened points with these vertices' numbers
unfoldable pub chosen : Subspace → List Vec → List ℕ → List Vec
chosen plane points vertices = map (point_at (flattened plane points)) vertices

-- the subspace through them, as a tuple or a refit has it
unfoldable pub through : Float → Subspace → List Vec → List ℕ → Subspace
through tolerance plane points vertices = from_points tolerance (chosen plane points vertices)

-- A call with this plane and these points may take the norm of v.
pub data Takes (tolerance : Float) (plane : Subspace) (points : List Vec) : Vec → Type 0 where
  -- [5.3] lengths, of the points as passed
  in_length : (v w : ℕ) → Takes tolerance plane points (minus (point_at points w) (point_at points v))
  -- a tuple, or a refit
  in_fit : (vertices : List ℕ) {v : Vec} → FitTakes tolerance (chosen plane points vertices) v
      → Takes tolerance plane points v
  -- [5.6] distances of flattened points
  in_distance : (vertices : List ℕ) (u : ℕ) → Takes tolerance plane points
      (residual (through tolerance plane points vertices) (point_at (flattened plane points) u))

-- ---- the calls that occur

-- From an outermost call of rank 2 + top with the plane `outer` and the points `given`: at some depth, a call of rank
-- 2 + more with a plane and points.
pub data Occurs (tolerance : Float) (top : ℕ) (outer : Subspace) (given : List Vec) : ℕ → ℕ → Subspace → List Vec
    → Type 0 where
  outermost : Occurs tolerance top outer given 0 top outer given
  -- [6.4] an inner call, on any list of vertices whose plane has rank − 2 basis vectors
  inner : {depth more : ℕ} {plane : Subspace} {points : List Vec}
      → Occurs tolerance top outer given depth (suc more) plane points → (vertices : List ℕ)
      → length (through tolerance plane points vertices).basis ≡ suc more
      → Occurs tolerance top outer given (suc depth) more (through tolerance plane points vertices)
      (chosen plane points vertices)

pub depth_and_rank : {tolerance : Float} {top : ℕ} {outer : Subspace} {given : List Vec} {depth more : ℕ}
    {plane : Subspace} {points : List Vec} → Occurs tolerance top outer given depth more plane points
    → depth + more ≡ top
depth_and_rank {top = top} outermost = omega arith
depth_and_rank (inner c vertices e) = let h = depth_and_rank c in omega arith

-- ---- one call

-- small points, and a tame plane
pub record Bounded (n k : ℕ) (plane : Subspace) (points : List Vec) : Type 0 where
  pub tame : Tame n k plane
  pub small : Each (Small n k) points

-- room for the norms that a call takes: its flattened points are at most 2 ^ (k + 2 + n)
abbrev pub NormsFit : ℕ → ℕ → Type 0
NormsFit n k = 2 * k + 12 + 7 * n ≤ 1023

module _ (n k : ℕ) (plane : Subspace) (points : List Vec) (room : NormsFit n k) (h : Bounded n k plane points) where
  pub flattened_small : Each (Small n (k + 2 + n)) (flattened plane points)
  unfolding flattened
  flattened_small =
      each_map (Small n k) (Small n (k + 2 + n)) (flatten plane)
      (λ p a. flatten_small n k plane p (omega arith) h.tame a) points h.small

  pub chosen_small : (vertices : List ℕ) → Each (Small n (k + 2 + n)) (chosen plane points vertices)
  unfolding chosen point_at
  chosen_small vertices =
      each_of_map (Small n (k + 2 + n)) (point_at (flattened plane points))
      (λ v. each_get_d (Small n (k + 2 + n)) (flattened plane points) v [] (small_none n (k + 2 + n)) flattened_small)
      vertices

  module _ (tolerance : Float) (low : T (le least_tolerance tolerance)) where
    -- an inner call's points and plane, with a bound that is larger by 2 + n
    pub inner_bounded : (vertices : List ℕ)
        → Bounded n (k + 2 + n) (through tolerance plane points vertices) (chosen plane points vertices)
    unfolding through
    inner_bounded vertices = record {
      tame =
          fit_tame n (k + 2 + n) tolerance (omega arith) low (chosen plane points vertices) (chosen_small vertices);
      small = chosen_small vertices;
    }

-- ---- every call

-- the root that the norm of v asks for has a value, and the norm is a finite double
pub record Rooted (v : Vec) : Type 0 where
  pub root : has_root (dot v v) ≡ true
  pub double : T (is_double (norm v))

pub small_rooted : (n k : ℕ) (v : Vec) → k + k + n ≤ 1023 → Small n k v → Rooted v
small_rooted n k v room a = record {
  root = norm_has_root n k v room a;
  double = is_double_holds 539 (norm v) (norm_finite n k v room a);
}

-- the bound of a call's points at a depth, from that of the outermost call's
unfoldable pub bound_at : ℕ → ℕ → ℕ → ℕ
bound_at n k zero = k
bound_at n k (suc depth) = bound_at n k depth + 2 + n
