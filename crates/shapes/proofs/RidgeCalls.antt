-- Theorems on the definitions of specs/RidgeCalls.
use Rattle.std.specs.Prelude.{◌≡◌}
use Rattle.std.proofs.Math.Path.{sym}
use Rattle.std.proofs.Common.{◌∙◌, arith}
use mathlib.Core.List.{List, []}
use Prim.Native.Nat.{ℕ, zero, suc, compare, ◌≤◌}
use Rattle.definitions.specs.Lists.{compare_pair}
use Rattle.definitions.specs.Vectors.{Vec}
use Rattle.definitions.specs.Subspace.{Subspace}
use Rattle.definitions.specs.Orbits.{Row}
use Rattle.definitions.specs.Recursion.{Rules}
use Rattle.definitions.specs.Faceting.{Prepared, faceting}
use Rattle.shapes.specs.Answered.{Preparation}
use Rattle.shapes.specs.Polygons.{edge_via}
use Rattle.shapes.specs.Ridges.{AnyKey, AnyMap, any_keys, key_numbers, ridge_numbers, numbers_carried, twice}
use Rattle.shapes.specs.Ridges.{vertices_twice}
use Rattle.shapes.specs.RidgeCalls.{end_keys, rank_four_ends, rank_three_vertices, vertex_keys, vertices_as_ends}

-- ---- rank 3

module _ (rules : Rules) (plane : Subspace) (points : List Vec) (rows : List Row) (p : Prepared)
    (made : Preparation 0 rules (faceting 0 rules) plane points rows p) where
  -- numbered by pairs of ends
  pub rank_three_ends : ridge_numbers p.rows p.inner ≡ key_numbers compare_pair edge_via p.rows end_keys p.inner
  rank_three_ends =
      rank_three_vertices rules plane points rows p made ∙ sym (numbers_carried compare
      (λ to v. to v) compare_pair edge_via twice AnyKey AnyMap vertices_twice 0 p.rows vertex_keys end_keys p.inner
      (vertices_as_ends rules plane points rows p made) (any_keys 0 p.rows vertex_keys p.inner))

-- ---- both

pub ridge_ends : (more : ℕ) (rules : Rules) (plane : Subspace) (points : List Vec) (rows : List Row) (p : Prepared)
    → more ≤ 1 → Preparation more rules (faceting more rules) plane points rows p
    → ridge_numbers p.rows p.inner ≡ key_numbers compare_pair edge_via p.rows end_keys p.inner
ridge_ends zero rules plane points rows p few made = rank_three_ends rules plane points rows p made
ridge_ends (suc zero) rules plane points rows p few made = rank_four_ends rules plane points rows p made
ridge_ends (suc (suc more)) rules plane points rows p few made = absurd (omega arith)
