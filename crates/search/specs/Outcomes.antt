-- The limit on entries and the outcome of a search, in the definition's words. Leans on the emitted lists.
use Rattle.std.specs.Prelude.{◌≡◌, List, ℕ, length, Result, Ok, Err}
use Rattle.definitions.specs.Search as def
use Rattle.definitions.specs.Outcome as result
use Rattle.definitions.specs.Search.{Table}
use Rattle.facets.specs.declared.Areas.{Areas}
use Rattle.search.specs.declared.Course.{Course}
use Rattle.search.specs.declared.Listed.{Listed}
use Rattle.refusals.specs.declared.Refusal.{Refusal}
use Rattle.refusals.specs.Refused.{number_of}
use Rattle.facets.specs.Layout.{lists_part}
use Rattle.frames.specs.Paths.{Emitted, emitted_in}

unfoldable pub entry_limits_of : Areas → Course → def.EntryLimits
entry_limits_of a course = record { limit = course.limit; bound = a.bound; extended = course.extended }

-- the outcome with the lists that the workspace holds
unfoldable pub search_outcome : Table → Areas → Result Listed Refusal → List ℕ → result.Outcome def.Found
search_outcome t a (Ok found) s =
    result.answered (record { lists = emitted_in t a (lists_part a s); left = found.left })
search_outcome t a (Err e) s = result.refused (number_of e)

-- what is found lies sound in its area, so many lists, every item a facet's number
pub record Counted (t : Table) (a : Areas) (n : ℕ) (l : List ℕ) : Type 0 where
  pub many : n ≡ length (emitted_in t a l)
  pub emitted : Emitted a l

unfoldable pub counted_lists : Table → Areas → Result Listed Refusal → List ℕ → Type 0
counted_lists t a (Ok found) s = Counted t a found.lists (lists_part a s)
counted_lists t a (Err e) s = Unit {0}
