-- What is loaded of a package: numbers by value, and global numbers and full rows in two regions of bytes, rows at a
-- stride of 32. A package that can be counted by, and the definition's, is told of the numbers and the regions alone.
-- Leans on what a package is in bytes.
use Rattle.std.specs.Prelude.{◌≡◌, refl, List, ℕ, ◌≤◌, ◌<◌}
use Rattle.definitions.specs.Noble as def
use Rattle.rows.specs.Rows.{rows_in, row_at}
use Rattle.stabilizers.specs.Permutations.{Permutations}
use Rattle.tallies.specs.declared.Package.{Package}
use Rattle.tallies.specs.Meaning.{GlobalsFit, package_in}
use Rattle.packages.specs.declared.FullSet.{FullSet}

-- a package that can be counted by
pub record LoadedFits (n : ℕ) (whole : FullSet) (globals full : List ℕ) : Type 0 where
  pub numbered : GlobalsFit n whole.size globals
  pub permute : Permutations whole.size whole.rows full
  pub some_row : 0 < whole.rows
  pub few_rows : whole.rows ≤ 120
  pub small_count : whole.count ≤ 65535

-- the package
unfoldable pub loaded_in : ℕ → FullSet → List ℕ → List ℕ → def.Package
loaded_in n whole globals full = record {
  size = whole.size;
  count = whole.count;
  globals = row_at n 0 globals;
  rows = rows_in whole.size whole.rows full;
}

-- ---- a package that holds its regions

-- its numbers
abbrev pub numbers_of : Package → FullSet
numbers_of whole = record { size = whole.full.n; rows = whole.full.rows.count; count = whole.count }

-- it is the package of its numbers and its regions
pub package_held : (n : ℕ) (whole : Package)
    → package_in n whole ≡ loaded_in n (numbers_of whole) whole.globals.now whole.full.rows.bytes.now
unfolding package_in loaded_in
package_held n whole = refl
