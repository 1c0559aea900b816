-- `Subspace::push` meets its contract: the five places that are written are one row more, and the rows before stay.
-- Leans on the counts.
use mathlib.Core.Path.{◌≡◌, refl}
use borrow.Author.Rules.{rules}
use lib.ListN.{length}
use Rattle.laws.specs.Parts.{set_five}
use Rattle.space.specs.Counts.{vector_fits, vector_joined, holds_subspace}
use Rattle.space.proofs.Subspace.push.Goals as goal

pub invariant_of-self : goal.invariant_of-self
unfolding set_five
invariant_of-self c =
    let long : length c.args.v ≡ 5 = search rules in
    record { fits = vector_fits c.args.self.now c.args.v c.requires.0 long c.requires.1 }

pub returns : goal.returns
unfolding set_five
returns c =
    let long : length c.args.v ≡ 5 = search rules in (
      holds_subspace _ _ (vector_joined c.args.self.now c.args.v c.requires.0 long c.requires.1 _ refl refl refl refl),
      refl,
      refl,
    )
