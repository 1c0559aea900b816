-- `entry_lists::write_compounds` meets its contract. The loop's invariant: behind the count, the compounds among the
-- first i labels are written.
use mathlib.Core.List.{flat_map}
use Prim.Native.Nat.{◌≤◌}
use Rattle.definitions.specs.Job.{compound_words}
use Rattle.definitions.specs.Figures.{compounds_from}
use Rattle.labels.specs.Labels.{labels_in}
use Rattle.words.specs.Wrote.{Writes}
use Rattle.entry_lists.proofs.write_compounds.Given as goal

abbrev pub invariant-loop-i : goal.invariant-loop-i
invariant-loop-i l =
    (l.i ≤ l.n) × Writes l.initial.w l.w (flat_map compound_words (compounds_from 0 (labels_in l.labels l.i l.s)))
