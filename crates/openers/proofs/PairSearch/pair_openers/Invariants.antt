-- `pair_openers` meets its contract. The invariant: the pairs are those of the openers so far, and the marks are
-- those left by them.
use mathlib.Core.Path.{◌≡◌}
use mathlib.Core.Bool.{false}
use lib.ListN.{replicate}
use Rattle.space.specs.Meaning.{points_of, limits_of}
use Rattle.rows.specs.Rows.{rows_in}
use Rattle.rows.specs.Codes.{pair_codes}
use Rattle.openers.specs.Meaning.{breaks}
use Rattle.openers.proofs.PairWalk.{found_from, marks_from}
use Rattle.openers.proofs.PairSearch.pair_openers.Given as goal

abbrev pub invariant-loop-v : goal.invariant-loop-v
invariant-loop-v l =
    (l.pairs.items ≡ found_from (pair_codes (rows_in 32 l.self.rows.count l.self.rows.bytes.now))
    (breaks l.self.tolerance (limits_of l.self.limits) (points_of l.self.points.now))
    (replicate 400 false) l.self.points.now.n l.v-items l.v-index)
    × (l.marks ≡ marks_from (pair_codes (rows_in 32 l.self.rows.count l.self.rows.bytes.now))
    (breaks l.self.tolerance (limits_of l.self.limits) (points_of l.self.points.now))
    (replicate 400 false) l.self.points.now.n l.v-items l.v-index)
