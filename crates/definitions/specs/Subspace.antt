-- Subspaces: docs/SPECIFICATION.md, chapter 4. Every definition that tests a distance takes the tolerance as a
-- value; a call passes that of its job [12.2]. Leans on Vectors.
use Rattle.std.specs.Prelude.{Bool, cond, List, [], ◌∷◌, ◌++◌, map, suc, leb, eqb, length, Float}
use Rattle.std.specs.Float.Ieee.{lt}
use Rattle.definitions.specs.Vectors.{Vec, dot, norm, normalised, minus, plus_times}

-- [4.1] an offset and a basis; d is the length of the offset
pub record Subspace : Type 0 where
  pub offset : Vec
  pub basis : List Vec

-- [4.2] for each basis vector b in turn, b times the dot product of p − offset with b joins q
unfoldable pub gains : Vec → List Vec → Vec → Vec
gains away [] q = q
gains away (b ∷ bs) q = gains away bs (plus_times q b (dot away b))

-- [4.2] q begins with the offset
unfoldable pub project : Subspace → Vec → Vec
project s p = gains (minus p s.offset) s.basis s.offset

-- [4.2] p less its projection
unfoldable pub residual : Subspace → Vec → Vec
residual s p = minus p (project s p)

-- [4.2] the norm of the residual
unfoldable pub distance : Subspace → Vec → Float
distance s p = norm (residual s p)

-- [4.3] the residual, normalised, goes behind the basis where its norm is above the tolerance, and only there
unfoldable pub add_point : Float → Subspace → Vec → Subspace
add_point tolerance s p =
    let r = residual s p in
    let wider : Subspace = record { offset = s.offset; basis = s.basis ++ (normalised r ∷ []) } in
    cond (lt tolerance (norm r)) wider s

-- [4.4] point after point, until there are d basis vectors: that is asked before each point
unfoldable pub add_points : Float → Subspace → List Vec → Subspace
add_points tolerance s [] = s
add_points tolerance s (p ∷ ps) =
    let wider = add_points tolerance (add_point tolerance s p) ps in
    cond (leb (length s.offset) (length s.basis)) s wider

-- [4.4] The first point is the offset. Without a point there is no subspace to speak of; no call asks for one.
unfoldable pub from_points : Float → List Vec → Subspace
from_points tolerance [] = record { offset = []; basis = [] }
from_points tolerance (p ∷ ps) = add_points tolerance (record { offset = p; basis = [] }) ps

-- [4.5] one basis vector fewer than the offset has components
unfoldable pub is_hyperplane : Subspace → Bool
is_hyperplane s = eqb (length s.offset) (suc (length s.basis))

-- [4.6] a component for each basis vector b: the dot product of p − offset with b
unfoldable pub flatten : Subspace → Vec → Vec
flatten s p = map (dot (minus p s.offset)) s.basis
