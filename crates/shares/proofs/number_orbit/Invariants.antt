-- `number_orbit` meets its contract. The loop's invariant: the first i ridges are numbered.
use mathlib.Core.Path.{◌≡◌}
use Rattle.shares.specs.Areas.{area}
use Rattle.shares.proofs.Numbers.{Numbers}
use mathlib.Core.List.{[]}
use lib.ListN.{length, get_or}
use Rattle.pool.specs.Pool.{closed_lists}
use Rattle.shares.proofs.number_orbit.Given as goal

abbrev pub invariant-loop-i : goal.invariant-loop-i
invariant-loop-i l =
    (l.n ≡ length (get_or (closed_lists 4 256 (area l.layout.ridges l.layout.places l.initial.ws)) l.o []))
    × Numbers l.rows.count l.rows.bytes.now l.tables.numbers l.tables.shares
    (get_or (closed_lists 4 256 (area l.layout.ridges l.layout.places l.initial.ws)) l.o []) l.initial.opened
    l.initial.ws l.opened l.ws l.i
