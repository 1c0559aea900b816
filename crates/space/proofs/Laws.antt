-- The definitions one step at a time, as the loops take them, and what the arrays that are handed back mean. Leans on
-- the definitions and on what the structs mean.
use mathlib.Core.Path.{◌≡◌, refl, sym}
use mathlib.Core.Bool.{true, false, true≢false}
use mathlib.Core.List.{List, [], ◌∷◌, ◌++◌}
use Prim.Native.Nat.{ℕ, suc, ◌+◌, ◌≤◌, ◌<◌}
use native.Mathlib.Omega.{arith}
use native.Mathlib.Numerals.{add-one}
use borrow.Author.Tests.{leb-false}
use lib.ListN.{length, get_or, drop, drop_of_length-le}
use lib.Seq.{drop-cons, length-take-le}
use lib.Ieee.{Float, lt}
use Rattle.definitions.specs.Vectors.{Vec, dot, plus_times, norm, normalised}
use Rattle.definitions.specs.Subspace.{Subspace, gains, project, residual, add_point, add_points, from_points}
use Rattle.definitions.specs.Orbits.{point_at, too_short, too_long, breaks_limit}
use Rattle.laws.specs.Parts.{rows}
use Rattle.space.specs.declared.Subspace.{Subspace as StoredSubspace}
use Rattle.space.specs.declared.Points.{Points}
use Rattle.space.specs.declared.Limits.{Limits}
use Rattle.std.specs.Prelude.{Option, Some, None, is_none, ◌&&◌, ◌||◌}
use Rattle.vectors.specs.Meaning.{vector_of, five}
use Rattle.vectors.specs.Wholes.{five_means}
use Rattle.space.specs.Meaning.{subspace_of, with_vector, is_full_rank, point_alone, points_of, limits_of, no_limits}
use Rattle.space.specs.Counts.{offset_length, basis_length, project_length, residual_length}

-- Project: one basis vector more.
pub gains_snoc : (away : Vec) (bs : List Vec) (b q : Vec)
    → gains away (bs ++ (b ∷ [])) q ≡ plus_times (gains away bs q) b (dot away b)
unfolding gains
gains_snoc away [] b q = refl
gains_snoc away (c ∷ bs) b q = gains_snoc away bs b (plus_times q c (dot away c))

-- ---- add, where the residual is long enough and where it is not

pub add_point_joins : (tolerance : Float) (s : Subspace) (p : Vec) → lt tolerance (norm (residual s p)) ≡ true
    → add_point tolerance s p ≡ with_vector s (normalised (residual s p))
unfolding add_point with_vector
add_point_joins tolerance s p e = rw e refl

pub add_point_stays : (tolerance : Float) (s : Subspace) (p : Vec) → lt tolerance (norm (residual s p)) ≡ false
    → add_point tolerance s p ≡ s
unfolding add_point
add_point_stays tolerance s p e = rw e refl

-- ---- from points: added while the basis has fewer than d vectors

pub add_points_full : (tolerance : Float) (s : Subspace) (ps : List Vec) → is_full_rank s ≡ true
    → add_points tolerance s ps ≡ s
unfolding add_points is_full_rank
add_points_full tolerance s [] e = refl
add_points_full tolerance s (p ∷ ps) e = rw e refl

add_points_next : (tolerance : Float) (s : Subspace) (p : Vec) (ps : List Vec) → is_full_rank s ≡ false
    → add_points tolerance s (p ∷ ps) ≡ add_points tolerance (add_point tolerance s p) ps
unfolding add_points is_full_rank
add_points_next tolerance s p ps e = rw e refl

pub add_points_step : (tolerance : Float) (s : Subspace) (ps : List Vec) (i : ℕ) → i < length ps
    → is_full_rank s ≡ false
    → add_points tolerance s (drop i ps)
    ≡ add_points tolerance (add_point tolerance s (point_at ps i)) (drop (i + 1) ps)
unfolding point_at
add_points_step tolerance s ps i below e =
    rw (drop-cons ps i [] below, add-one i) (add_points_next tolerance s (get_or ps i []) (drop (suc i) ps) e)

pub add_points_end : (tolerance : Float) (s : Subspace) (ps : List Vec) (i : ℕ) → length ps ≤ i
    → add_points tolerance s (drop i ps) ≡ s
unfolding add_points
add_points_end tolerance s ps i end = rw (drop_of_length-le ps end) refl

pub from_points_none : (tolerance : Float) (p : Points) → p.n ≡ 0 → from_points tolerance (points_of p) ≡ point_alone []
unfolding from_points point_alone points_of rows
from_points_none tolerance p e = rw e refl

pub from_points_first : (tolerance : Float) (ps : List Vec) → 0 < length ps
    → from_points tolerance ps ≡ add_points tolerance (point_alone (point_at ps 0)) (drop 1 ps)
unfolding from_points point_alone point_at
from_points_first tolerance [] h = absurd (omega arith)
from_points_first tolerance (p ∷ ps) h = refl

-- Where the basis has fewer than d vectors there is room for one more.
pub has_room : (s : StoredSubspace) → is_full_rank (subspace_of s) ≡ false → s.rank < s.d
unfolding is_full_rank
has_room s e =
    let more : length (subspace_of s).basis < length (subspace_of s).offset = leb-false _ _ e in
    omega (arith, offset_length s, basis_length s)

-- ---- a residual that is read

module _ (s : StoredSubspace) (p : Vec) where
  pub read_projection : (r : List Float) → r ≡ five (project (subspace_of s) p)
      → vector_of s.d r ≡ project (subspace_of s) p
  read_projection r is = five_means r (project (subspace_of s) p) s.d is (project_length s p)

  pub read_residual : length p ≡ s.d → (r : List Float) → r ≡ five (residual (subspace_of s) p)
      → vector_of s.d r ≡ residual (subspace_of s) p
  read_residual long r is = five_means r (residual (subspace_of s) p) s.d is (residual_length s p long)

-- the numbers that a subspace reads of five
pub five_read : (s : StoredSubspace) (p : List Float) → length p ≡ 5 → length (vector_of s.d p) ≡ s.d
five_read s p long = length-take-le s.d p (omega (arith, s.fits.d_fits))

-- ---- limits: where none is given no length breaks one

neither_breaks : (tolerance : Float) (shortest longest : Option Float) (size : Float) → is_none shortest
    && is_none longest ≡ true → too_short tolerance shortest size || too_long tolerance longest size ≡ false
unfolding too_short too_long
neither_breaks tolerance None None size e = refl
neither_breaks tolerance None (Some longest) size e = absurd (true≢false (sym e))
neither_breaks tolerance (Some shortest) longest size e = absurd (true≢false (sym e))

pub nothing_breaks : (tolerance : Float) (l : Limits) (ps : List Vec) (v w : ℕ) → no_limits l ≡ true
    → breaks_limit tolerance (limits_of l) ps v w ≡ false
unfolding breaks_limit limits_of
nothing_breaks tolerance l ps v w e = neither_breaks tolerance l.shortest l.longest _ e
