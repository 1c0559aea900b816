-- What the check of a job answers: the number of the first test that is not passed, or the job's fields. Leans on the
-- definition of a job and on its loaded fields.
use Rattle.std.specs.Prelude.{Bool, ◌&&◌, List, [], ◌∷◌, ℕ, leb, length, take, Float}
use Rattle.std.specs.Prelude.{Option, Some, None}
use Rattle.std.specs.Float.Ieee.{neg, le}
use Rattle.definitions.specs.Outcome.{Outcome, refused, answered}
use Rattle.definitions.specs.Job.{Bytes, same_nats, Test, tests}
use Rattle.laws.specs.Refusals.{first_refused}
use Rattle.load.specs.declared.Fields.{Fields}
use Rattle.load.specs.Meaning.{fields_of}

-- ---- what the check answers

-- the number of the first refusal, or the job's fields
unfoldable pub checked_as : Bytes → Option ℕ → Outcome Fields
checked_as bytes None = answered (fields_of bytes)
checked_as bytes (Some number) = refused number

-- by one of the lists of tests, and by all of them
unfoldable pub checked_by : List Test → Bytes → Outcome Fields
checked_by ts bytes = checked_as bytes (first_refused ts)

unfoldable pub checked_of : Bytes → ℕ → Outcome Fields
checked_of bytes workspace = checked_by (tests bytes workspace) bytes

-- ---- single tests

-- [11.1] test 1 is passed
unfoldable pub has_mark : Bytes → Bool
has_mark bytes = leb 11 (length bytes) && same_nats (take 3 bytes) (70 ∷ 67 ∷ 84 ∷ [])

-- from −most to most
unfoldable pub size_within : Float → Float → Bool
size_within most x = le x most && le (neg most) x
