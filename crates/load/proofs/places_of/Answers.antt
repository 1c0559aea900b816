-- `load::places_of` meets its contract: the counts are small enough that no product or sum wraps. Assumes nothing.
use mathlib.Core.Path.{refl}
use Rattle.load.specs.Places.{places_of}
use Rattle.load.proofs.places_of.Goals as goal

pub returns : goal.returns
unfolding places_of
returns c =
    rw (
      c.room-max.ensures.0,
      c.room.ensures.0,
      c.room-2.ensures.0,
      c.room-3.ensures.0,
      c.room-4.ensures.0,
      c.has_flag.ensures,
      c.has_flag-2.ensures,
      c.has_flag-3.ensures,
    ) refl
