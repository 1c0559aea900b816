-- `fit_tuple` meets its contract.
use mathlib.Core.Path.{◌≡◌, sym, ap, ◌∙◌}
use mathlib.Core.Bool.{true, false}
use Rattle.definitions.specs.Subspace.{from_points, is_hyperplane}
use Rattle.space.specs.Meaning.{points_of, subspace_of}
use Rattle.space.specs.Counts.{points_length}
use Rattle.rows.specs.Rows.{rows_in}
use Rattle.orbits.specs.Walks.{walked_closed, walked_opened}
use Rattle.orbits.specs.Workspace.{seen_in}
use Rattle.orbits.proofs.Laws.{no_plane, passed_over, opens_now, near_is}
use Rattle.orbits.proofs.fit_tuple.Goals as goal

pub returns-then-not-is_hyperplane-clause-walked : goal.returns-then-not-is_hyperplane-clause-walked
returns-then-not-is_hyperplane-clause-walked c = let a = c.args in
    let p = c.from_points-plane.ensures.0 in
    let flat : is_hyperplane (from_points a.walk.search.pairs.tolerance (points_of a.tuple.now))
    ≡ false = ap is_hyperplane (sym p.means) ∙ (sym c.is_hyperplane.ensures ∙ c.if-not-is_hyperplane.true) in
    walked_closed a.walk.search.pairs.tolerance a.walk.most (points_of a.walk.search.flat.now)
    (rows_in a.walk.search.flat.now.n a.walk.search.pairs.rows.count a.walk.search.pairs.rows.bytes.now)
    a.walk.bound a.state a.ws.now (points_of a.tuple.now) c.requires.2
    (no_plane a.walk.search.pairs.tolerance a.walk.most (points_of a.walk.search.flat.now)
    (rows_in a.walk.search.flat.now.n a.walk.search.pairs.rows.count a.walk.search.pairs.rows.bytes.now)
    (seen_in a.state.known a.ws.now) (points_of a.tuple.now) flat)

pub returns-then-not-may_open-clause-walked : goal.returns-then-not-may_open-clause-walked
returns-then-not-may_open-clause-walked c = let a = c.args in
    let p = c.from_points-plane.ensures.0 in
    let flat : is_hyperplane (from_points a.walk.search.pairs.tolerance (points_of a.tuple.now))
    ≡ true = ap is_hyperplane (sym p.means) ∙ (sym c.is_hyperplane.ensures ∙ c.if-not-is_hyperplane.false) in
    let rows = rows_in a.walk.search.flat.now.n a.walk.search.pairs.rows.count a.walk.search.pairs.rows.bytes.now in
    let near = near_is a.walk.search.pairs.tolerance a.walk.most (points_of a.walk.search.flat.now) rows
    (seen_in a.state.known a.ws.now) (points_of a.tuple.now) c.points_near-set.result
    (subspace_of c.from_points-plane.result) p.means c.points_near-set.ensures in
    walked_closed a.walk.search.pairs.tolerance a.walk.most
    (points_of a.walk.search.flat.now) rows a.walk.bound a.state a.ws.now (points_of a.tuple.now) c.requires.2
    (passed_over a.walk.search.pairs.tolerance a.walk.most (points_of a.walk.search.flat.now) rows
    (seen_in a.state.known a.ws.now) (points_of a.tuple.now) flat (rw (
      points_length a.walk.search.flat.now,
      ← near,
    ) (sym (rw c.seen.ensures at c.may_open.ensures) ∙ c.if-not-may_open.true)))

pub returns-clause-walked : goal.returns-clause-walked
returns-clause-walked c = let a = c.args in
    let p = c.from_points-plane.ensures.0 in
    let flat : is_hyperplane (from_points a.walk.search.pairs.tolerance (points_of a.tuple.now))
    ≡ true = ap is_hyperplane (sym p.means) ∙ (sym c.is_hyperplane.ensures ∙ c.if-not-is_hyperplane.false) in
    let rows = rows_in a.walk.search.flat.now.n a.walk.search.pairs.rows.count a.walk.search.pairs.rows.bytes.now in
    let near = near_is a.walk.search.pairs.tolerance a.walk.most (points_of a.walk.search.flat.now) rows
    (seen_in a.state.known a.ws.now) (points_of a.tuple.now) c.points_near-set.result
    (subspace_of c.from_points-plane.result) p.means c.points_near-set.ensures in
    walked_opened a.walk.search.pairs.tolerance a.walk.most
    (points_of a.walk.search.flat.now) rows a.walk.bound a.state a.ws.now (points_of a.tuple.now) _ _
    (opens_now a.walk.search.pairs.tolerance a.walk.most (points_of a.walk.search.flat.now) rows
    (seen_in a.state.known a.ws.now) (points_of a.tuple.now) flat (rw (
      points_length a.walk.search.flat.now,
      ← near,
    ) (sym (rw c.seen.ensures at c.may_open.ensures) ∙ c.if-not-may_open.false)))
    (rw (points_length a.walk.search.flat.now, ← near) c.open_orbit.ensures.opened)
