-- `packages::FullSet::package` meets its contract: it is the package of its numbers and its regions. Assumes nothing.
use Rattle.packages.specs.Loaded.{package_held}
use Rattle.packages.proofs.FullSet.package.Goals as goal

pub returns-clause-is : goal.returns-clause-is
returns-clause-is c n = package_held n _
