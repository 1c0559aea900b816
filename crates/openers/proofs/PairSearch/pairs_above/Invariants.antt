-- `pairs_above` meets its contract. The invariant: the pairs hold what was found up to w, and the marks are those
-- left by it.
use mathlib.Core.Path.{◌≡◌}
use mathlib.Core.List.{◌++◌}
use Prim.Native.Nat.{◌≤◌, ◌<◌}
use Rattle.space.specs.Meaning.{points_of, limits_of}
use Rattle.rows.specs.Rows.{rows_in}
use Rattle.rows.specs.Codes.{pair_codes}
use Rattle.openers.specs.Meaning.{breaks}
use Rattle.openers.proofs.PairWalk.{found_up, marks_up}
use Rattle.openers.proofs.PairSearch.pairs_above.Given as goal

abbrev pub invariant-loop-w : goal.invariant-loop-w
invariant-loop-w l = (l.v < l.w)
    × (l.pairs.items
    ≡ l.initial.pairs.items ++ found_up (pair_codes (rows_in 32 l.self.rows.count l.self.rows.bytes.now))
    (breaks l.self.tolerance (limits_of l.self.limits) (points_of l.self.points.now)) l.initial.marks l.v l.w)
    × (l.marks ≡ marks_up (pair_codes (rows_in 32 l.self.rows.count l.self.rows.bytes.now))
    (breaks l.self.tolerance (limits_of l.self.limits) (points_of l.self.points.now)) l.initial.marks l.v l.w)
    × (l.w ≤ l.self.points.now.n)
