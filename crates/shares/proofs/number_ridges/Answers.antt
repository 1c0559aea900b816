-- `shares::number_ridges` meets its contract: the area is cleared, and a turn numbers the ridges of one orbit more
-- (`orbits_more`). At the end all orbits are numbered (`orbits_end`).
use Rattle.shares.specs.Areas.{clear_kept, clear_holds}
use Rattle.shares.proofs.Numbers.{begun, orbits_start, orbit_asks, orbits_more, orbits_end}
use mathlib.Core.Path.{refl}
use Rattle.shares.proofs.number_ridges.Goals as goal

pub loop-o-init : goal.loop-o-init
loop-o-init c =
    let b = begun c.args.ws.now c.requires.0 c.requires.1 c.requires.2 c.requires.3 _ c.clear.ensures in
    (b, orbits_start b _ c.new-opened.ensures, refl)

pub number_orbit-requires : goal.number_orbit-requires
number_orbit-requires c = let l = c.loop-o in orbit_asks l.invariant.0 l.invariant.1 c.loop-o-test.true

pub loop-o-preserved : goal.loop-o-preserved
loop-o-preserved c =
    let l = c.loop-o in
    let o = orbits_more l.invariant.0 l.invariant.1 c.loop-o-test.true c.number_orbit.ensures in
    (l.invariant.0, o, o.grown.long)

pub returns : goal.returns
returns c = let l = c.loop-o in let e = c.clear.ensures in
    let k = clear_kept c.args.ws.now c.requires.2 _ e in
    orbits_end l.invariant.0 l.invariant.1 c.loop-o-test.false
    (clear_holds c.args.ws.now c.requires.2 _ e) c.args.ws.now k.0 k.1
