-- `open_orbit` meets its contract.
use Prim.Native.Nat.{◌≤◌, ◌<◌}
use native.Mathlib.Omega.{arith}
use borrow.Author.Rules.{rules}
use lib.ListN.{length}
use Rattle.orbits.proofs.Laws.{opened_by, new_sets}
use Rattle.orbits.proofs.Laws.{opened_none}
use Rattle.orbits.proofs.open_orbit.Goals as goal

pub returns-then-state-bound-clause-opened : goal.returns-then-state-bound-clause-opened
returns-then-state-bound-clause-opened c =
    opened_none c.args.bound c.args.state.known c.args.state.count c.args.ws.now c.args.set _ c.requires.1
    c.if-state-bound.true

pub merge-requires : goal.merge-requires
merge-requires c =
    let room = c.requires.1 in
    let items = c.gather_images-new.result.items in
    let few : length items ≤ 120 = omega (arith, c.len-many.ensures.value, c.len-many.ensures.fits) in
    let free : c.args.state.count < c.args.bound = omega (arith, room.count_fits, c.if-state-bound.false) in
    let gathers = rw c.seen.ensures at c.gather_images-new.ensures in
    let second = rw c.len-many.ensures.value at c.put-2.ensures in
    let new = new_sets c.args.bound c.args.state.known c.args.state.count c.args.ws.now c.args.set _ items room few
    c.ranges.set.fits free _ _ c.put.ensures second gathers in
    (search rules, rw c.as_slice.ensures.value new)

pub returns-clause-opened : goal.returns-clause-opened
returns-clause-opened c =
    let room = c.requires.1 in
    let items = c.gather_images-new.result.items in
    let few : length items ≤ 120 = omega (arith, c.len-many.ensures.value, c.len-many.ensures.fits) in
    let free : c.args.state.count < c.args.bound = omega (arith, room.count_fits, c.if-state-bound.false) in
    let gathers = rw c.seen.ensures at c.gather_images-new.ensures in
    let second = rw c.len-many.ensures.value at c.put-2.ensures in
    let merged = rw c.as_slice.ensures.value at c.merge.ensures in
    rw c.len-many.ensures.value (opened_by c.args.bound c.args.state.known c.args.state.count c.args.ws.now c.args.set
    _ items room few c.ranges.set.fits free _ _ _ c.put.ensures second merged gathers)
