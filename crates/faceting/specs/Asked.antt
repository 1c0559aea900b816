-- What the call asks of whoever makes it, at rank 2, 3 and 4: structs that are sound, rows that permute the points,
-- bounds no larger than the layouts have room for, and the workspace of [11.3]. Leans on the stored shapes and on the
-- rules' meaning.
use Rattle.std.specs.Prelude.{◌≡◌, List, ℕ, ◌≤◌, length, Option}
use Rattle.definitions.specs.Job.{workspace_for}
use Rattle.rows.specs.Rows.{rows_in}
use Rattle.space.specs.declared.Subspace.{Subspace}
use Rattle.space.specs.declared.Points.{Points}
use Rattle.space.specs.Meaning.{points_of}
use Rattle.stabilizers.specs.Permutations.{Permutations}
use Rattle.shapes.specs.Calls.{Given}
use Rattle.calls.specs.declared.Rules.{Rules}
use Rattle.tallies.specs.declared.Package.{Package}
use Rattle.faceting.specs.Ways.{WayFits}

pub record Asked (rank : ℕ) (plane : Subspace) (points : Points) (rows : List ℕ) (m : ℕ) (rules : Rules) (ws : List ℕ)
    (way : Option Package) : Type 0 where
  pub rank_least : 2 ≤ rank
  pub rank_most : rank ≤ 4
  pub same_d : points.d ≡ plane.d
  pub permute : Permutations points.n m rows
  pub rows_few : m ≤ 120
  pub given : Given (points_of points) (rows_in points.n m rows)
  pub few_orbits_holds : rules.orbits ≤ 256
  pub few_facets_holds : rules.facets ≤ 1024
  pub entries_are : rules.entries ≡ 1024
  pub room : workspace_for rank ≤ length ws
  pub way_fits : WayFits points.n way
