-- `number_ridges` meets its contract. The loop's invariant: the first o orbits are numbered.
use Rattle.shares.proofs.Numbers.{Begun, Orbits}
use mathlib.Core.Path.{◌≡◌}
use lib.ListN.{length}
use Rattle.shares.proofs.number_ridges.Given as goal

abbrev pub invariant-loop-o : goal.invariant-loop-o
invariant-loop-o l =
    Begun l.rows.count l.rows.bytes.now l.layout l.tables.numbers l.tables.shares l.initial.ws
    l.layout.orbits × Orbits l.rows.count l.rows.bytes.now l.layout l.tables.numbers l.tables.shares
    l.initial.ws l.ws l.opened l.o × (length l.ws ≡ length l.initial.ws)
