-- `extend` meets its contract. The loop's invariant: the tuples with a next vertex from u on are left, and the others
-- were walked along. The measure is the number of vertices still to be added.
use mathlib.Core.Path.{◌≡◌}
use Prim.Native.Nat.{◌≤◌}
use lib.ListN.{length}
use Rattle.space.specs.Meaning.{points_of, limits_of}
use Rattle.rows.specs.Rows.{rows_in}
use Rattle.orbits.specs.Walks.{keeps_limits, extensions}
use Rattle.orbits.proofs.Extending.{Extending}
use Rattle.orbits.proofs.+extend.Given as goal

abbrev pub decreases-extend : goal.decreases-extend
decreases-extend l = l.more

abbrev pub invariant-loop-u : goal.invariant-loop-u
invariant-loop-u l =
    (l.from ≤ l.u) × (length l.ws ≡ length l.initial.ws)
    × Extending l.walk.search.pairs.tolerance l.walk.most (points_of l.walk.search.flat.now)
    (rows_in l.walk.search.flat.now.n l.walk.search.pairs.rows.count l.walk.search.pairs.rows.bytes.now) l.walk.bound
    l.initial.reached l.initial.ws (extensions (keeps_limits l.walk.search.pairs.tolerance
    (limits_of l.walk.search.pairs.limits) (points_of l.walk.search.pairs.points.now) l.v)
    (points_of l.walk.search.flat.now) (points_of l.tuple) l.walk.search.flat.now.n l.from l.more)
    (extensions (keeps_limits l.walk.search.pairs.tolerance (limits_of l.walk.search.pairs.limits)
    (points_of l.walk.search.pairs.points.now) l.v) (points_of l.walk.search.flat.now)
    (points_of l.tuple) l.walk.search.flat.now.n l.u l.more) l.reached l.ws
