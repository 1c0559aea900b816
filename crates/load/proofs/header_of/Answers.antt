-- `load::header_of` meets its contract. Assumes nothing.
use mathlib.Core.Path.{refl}
use Rattle.load.specs.Places.{header_of}
use Rattle.load.proofs.header_of.Goals as goal

pub returns : goal.returns
unfolding header_of
returns c =
    rw (
      c.from.ensures,
      c.get.ensures,
      c.from-2.ensures,
      c.from-3.ensures,
      c.from-4.ensures,
      c.from-5.ensures,
      c.get-2.ensures,
      c.from-6.ensures,
    ) refl
