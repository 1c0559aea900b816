-- `walk_pairs` meets its contract. The invariant: the tuples of the pairs so far were walked along. A walk that is
-- refused ends.
use mathlib.Core.Path.{◌≡◌}
use lib.ListN.{length, take}
use Rattle.space.specs.Meaning.{points_of, limits_of}
use Rattle.rows.specs.Rows.{rows_in}
use Rattle.orbits.specs.Walks.{Walked}
use Rattle.orbits.specs.Answers.{pair_tuples}
use Rattle.std.specs.Prelude.{Ok}
use Rattle.orbits.proofs.walk_pairs.Given as goal

abbrev pub invariant-loop-first : goal.invariant-loop-first
invariant-loop-first l =
    (length l.ws ≡ length l.initial.ws)
    × Walked l.walk.search.pairs.tolerance l.walk.most (points_of l.walk.search.flat.now)
    (rows_in l.walk.search.flat.now.n l.walk.search.pairs.rows.count l.walk.search.pairs.rows.bytes.now) l.walk.bound
    l.initial.reached l.initial.ws (pair_tuples l.walk.search.pairs.tolerance (limits_of l.walk.search.pairs.limits)
    (points_of l.walk.search.pairs.points.now) (points_of l.walk.search.flat.now) l.walk.search.flat.now.n l.more
    (take l.first-index l.first-items)) (Ok l.reached) l.ws
