-- `writing::write_entries` meets its contract. The loop's invariant: behind the count, the first k entries are
-- written.
use mathlib.Core.List.{flat_map}
use Prim.Native.Nat.{◌≤◌}
use lib.ListN.{take}
use Rattle.layout.specs.Leaves.{both_left}
use Rattle.words.specs.Wrote.{Writes}
use Rattle.writing.specs.EdgesHeld.{owners_in, figured}
use Rattle.writing.proofs.write_entries.Given as goal

abbrev pub invariant-loop-k : goal.invariant-loop-k
invariant-loop-k g l =
    let level = g.T.EntryFigure.level l.figures in
    let ws = g.T.EntryFigure.ws l.figures in
    (l.k ≤ level.count) × Writes l.initial.w l.w
    (flat_map (figured (owners_in level ws) (g.T.EntryFigure.figure l.figures)) (take l.k (both_left level ws)))
