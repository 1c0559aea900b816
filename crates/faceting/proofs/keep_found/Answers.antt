-- `faceting::keep_found` meets its contract: without a package every orbit is kept, and else those that it keeps.
-- Assumes nothing.
use native.Mathlib.Omega.{arith}
use Rattle.std.specs.Prelude.{Ok}
use Rattle.faceting.specs.Ways.{kept_plain}
use Rattle.faceting.proofs.Ways.{kept_some, few_counted}
use Rattle.faceting.proofs.keep_found.Goals as goal

pub keep_orbits-requires : goal.keep_orbits-requires
keep_orbits-requires c =
    let a = c.args in
    let bounded = c.requires.2 in
    let few = few_counted a.n bounded.0 bounded.1 a.count a.ws.now bounded.3 in
    (c.requires.0.pack _ c.in-Some.is, omega (arith, few, bounded.2), c.requires.1)

pub returns-in-Some : goal.returns-in-Some
returns-in-Some c =
    let a = c.args in
    let keep = c.keep_orbits in
    λ bound orbits e.
    rw c.in-Some.is (kept_some a.n bound orbits a.count a.ws.now e _ keep.result keep.new.ws keep.ensures.kept)

pub returns-in-None : goal.returns-in-None
returns-in-None c =
    let a = c.args in
    λ bound orbits e. rw c.in-None.is (kept_plain a.n bound orbits _ a.ws.now e)
