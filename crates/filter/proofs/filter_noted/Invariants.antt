-- `filter::filter_noted` meets its contract. Invariant: what is kept of the places before a stands from `at` on, and
-- no list before the start is found in a list from a on. Assumes nothing.
use Rattle.order.specs.Areas.{lists_of}
use Rattle.filter.specs.Found.{Begun, Going}
use Rattle.filter.proofs.filter_noted.Given as goal

abbrev pub invariant-loop-a : goal.invariant-loop-a
invariant-loop-a l = Going l.area l.at l.initial.ws l.many l.ws l.a × Begun (lists_of l.area l.initial.ws) l.a l.start
