-- The ridge orbits in the struct match the keys held so far. Leans on Numbering.
use Rattle.definitions.specs.Lists.{Pair}
use Rattle.shapes.specs.Ridges.{KnownKeys}
use Rattle.numbering.specs.declared.RidgeOrbits.{RidgeOrbits}
use Rattle.numbering.specs.Numbering.{MarksMatch}

abbrev pub RidgesMatch : RidgeOrbits → KnownKeys Pair → Type 0
RidgesMatch r keys = MarksMatch r.marks r.counts.items keys
