-- `Tallies::add_portion` meets its contract.
use Rattle.tallies.proofs.Columns.{portion_images, portion_sums}
use Rattle.tallies.proofs.Tallies.add_portion.Goals as goal

pub returns-clause-images : goal.returns-clause-images
returns-clause-images c =
    rw c.as_mut_slice.ensures.value (portion_images c.args.self.now.tallies.items c.args.k c.args.weight c.requires.0)

pub returns-clause-sums : goal.returns-clause-sums
returns-clause-sums c =
    rw c.as_mut_slice.ensures.value (portion_sums c.args.self.now.tallies.items c.args.k c.args.weight c.requires.0)
