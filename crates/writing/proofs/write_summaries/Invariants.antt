-- `writing::write_summaries` meets its contract. The loop's invariant: the summaries of the first k entries are
-- written.
use mathlib.Core.List.{flat_map}
use Prim.Native.Nat.{◌≤◌}
use lib.ListN.{take}
use Rattle.layout.specs.Leaves.{lists_left}
use Rattle.words.specs.Wrote.{Writes}
use Rattle.writing.proofs.write_summaries.Given as goal

abbrev pub invariant-loop-k : goal.invariant-loop-k
invariant-loop-k g l =
    let level = g.T.EntryFigure.level l.figures in
    let ws = g.T.EntryFigure.ws l.figures in
    (l.k ≤ level.count)
    × Writes l.initial.w l.w (flat_map (g.T.EntryFigure.summary l.figures) (take l.k (lists_left level ws)))
