-- `filter::note_shared` meets its contract. Invariant: the lists before place k have their notes. Assumes nothing.
use Rattle.order.specs.Areas.{lists_of}
use Rattle.filter.specs.Noted.{Noting}
use Rattle.filter.proofs.note_shared.Given as goal

abbrev pub invariant-loop-k : goal.invariant-loop-k
invariant-loop-k l = Noting (lists_of l.lists.area l.lists.bytes.now) l.lists.area.count 1024 l.notes l.k
