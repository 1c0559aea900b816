-- `call_search::list_entries` meets its contract: the two ranks ask and leave what `ListsReady` and `EntriesListed`
-- say of them. Assumes nothing.
use native.Mathlib.Omega.{arith}
use Rattle.call_search.proofs.list_entries.Goals as goal

pub sort_entries-requires : goal.sort_entries-requires
sort_entries-requires c = c.requires.whole (omega arith)

pub returns-then-rank-eq3 : goal.returns-then-rank-eq3
returns-then-rank-eq3 c = record {
  whole = λ three. c.sort_entries.ensures;
  parts = λ other. absurd (other (omega arith));
}

pub split_entries-requires : goal.split_entries-requires
split_entries-requires c = c.requires.parts (λ e. omega (arith, e))

pub returns : goal.returns
returns c = record { whole = λ three. absurd (omega (arith, three)); parts = λ other. c.split_entries.ensures }
