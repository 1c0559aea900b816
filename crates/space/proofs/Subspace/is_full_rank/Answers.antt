-- `Subspace::is_full_rank` meets its contract: the counts are those of the meaning. Leans on the counts.
use mathlib.Core.Path.{refl}
use Rattle.space.specs.Meaning.{is_full_rank}
use Rattle.space.specs.Counts.{offset_length, basis_length}
use Rattle.space.proofs.Subspace.is_full_rank.Goals as goal

pub returns : goal.returns
unfolding is_full_rank
returns c = rw (offset_length c.args.self.now, basis_length c.args.self.now) refl
