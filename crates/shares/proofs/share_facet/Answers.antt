-- `shares::share_facet` meets its contract: what the shares are made from lies before them and stays
-- (`sources_kept`). A turn pushes one share more (`codes_push`), and the end closes the list (`codes_end`).
use Rattle.shares.specs.Areas.{area_kept, end_asks}
use Rattle.shares.specs.Shares.{sources_kept, sources_of, places_in}
use Rattle.shares.proofs.Sharing.{owner_is, facet_length_asks, facet_length, place_asks, place_is, place_requires}
use Rattle.shares.proofs.Sharing.{codes_start, codes_push, codes_end}
use mathlib.Core.Path.{refl, ◌∙◌}
use Prim.Native.Nat.{◌<◌}
use native.Mathlib.Omega.{arith}
use lib.ListN.{length}
use Rattle.shares.proofs.share_facet.Goals as goal

pub list_length-n-requires : goal.list_length-n-requires
list_length-n-requires c =
    facet_length_asks c.args.layout c.args.tables c.args.ws.now c.args.counts.now c.requires.0 c.requires.1
    c.args.x c.requires.2

pub loop-i-init : goal.loop-i-init
loop-i-init c = (
  refl,
  owner_is c.args.layout c.args.tables c.args.ws.now c.args.counts.now c.requires.0 c.requires.1
      c.args.x c.requires.2 _ (c.from-o.ensures ∙ c.get.ensures),
  facet_length c.args.layout c.args.tables c.args.ws.now c.args.counts.now c.requires.0
      c.requires.1 c.args.x c.requires.2 _ c.list_length-n.ensures,
  omega arith,
  codes_start
      (sources_of c.args.layout c.args.tables c.args.ws.now) c.args.counts.now c.args.x c.requires.3,
)

pub item-requires : goal.item-requires
item-requires c = let l = c.loop-i in
    let e = area_kept c.args.tables.shares c.args.layout.places c.args.layout.end c.args.ws.now l.ws
    l.invariant.4.front c.requires.0.places (omega (
      arith,
      c.requires.0.orbits,
      c.requires.0.owners,
      c.requires.0.ridges,
      c.requires.0.places,
      c.requires.0.end,
      c.requires.0.numbers,
      c.requires.0.inside,
    )) in
    rw e (place_asks c.args.layout c.args.tables c.args.ws.now c.args.counts.now c.requires.0 c.requires.1
    c.args.x c.requires.2 l.i (omega (arith, l.invariant.2, c.loop-i-test.true)))

pub share_code-code-requires : goal.share_code-code-requires
share_code-code-requires c = let l = c.loop-i in
    let e = area_kept c.args.tables.shares c.args.layout.places c.args.layout.end c.args.ws.now l.ws
    l.invariant.4.front c.requires.0.places (omega (
      arith,
      c.requires.0.orbits,
      c.requires.0.owners,
      c.requires.0.ridges,
      c.requires.0.places,
      c.requires.0.end,
      c.requires.0.numbers,
      c.requires.0.inside,
    )) in
    let h : l.i < length (places_in (sources_of c.args.layout c.args.tables c.args.ws.now) c.args.x) =
    omega (arith, l.invariant.2, c.loop-i-test.true) in
    place_requires c.args.layout c.args.tables c.args.ws.now c.args.counts.now c.requires.0 c.requires.1
    c.args.x c.requires.2 l.i h l.ws l.invariant.0 l.invariant.4.front _ l.invariant.1 _
    (place_is c.args.layout c.args.tables c.args.ws.now c.args.counts.now c.requires.0 c.requires.1 c.args.x
    c.requires.2 l.i h _ (c.from-a.ensures ∙ (rw e at c.item.ensures)))

pub loop-i-preserved : goal.loop-i-preserved
loop-i-preserved c = let l = c.loop-i in
    let e = area_kept c.args.tables.shares c.args.layout.places c.args.layout.end c.args.ws.now l.ws
    l.invariant.4.front c.requires.0.places (omega (
      arith,
      c.requires.0.orbits,
      c.requires.0.owners,
      c.requires.0.ridges,
      c.requires.0.places,
      c.requires.0.end,
      c.requires.0.numbers,
      c.requires.0.inside,
    )) in
    let h : l.i < length (places_in (sources_of c.args.layout c.args.tables c.args.ws.now) c.args.x) =
    omega (arith, l.invariant.2, c.loop-i-test.true) in
    let a = place_is c.args.layout c.args.tables c.args.ws.now c.args.counts.now c.requires.0 c.requires.1
    c.args.x c.requires.2 l.i h _ (c.from-a.ensures ∙ (rw e at c.item.ensures)) in
    let k = sources_kept c.args.layout c.args.tables c.args.ws.now l.ws c.requires.0 l.invariant.4.front in
    let v = rw (k, l.invariant.1, a) at c.share_code-code.ensures in
    let j = codes_push (sources_of c.args.layout c.args.tables c.args.ws.now) c.args.counts.now c.args.x
    c.requires.3 l.i l.invariant.4 h _ v (omega (arith, c.share_code-code.type_inv)) _ c.push.ensures in
    (j.long, l.invariant.1, l.invariant.2, omega arith, j)

pub end_list-requires : goal.end_list-requires
end_list-requires c = let l = c.loop-i in end_asks c.requires.3 l.invariant.4 (omega arith)

pub returns : goal.returns
returns c =
    let l = c.loop-i in
    codes_end (sources_of c.args.layout c.args.tables c.args.ws.now) c.args.counts.now c.args.x c.requires.3 l.i
    l.invariant.4 (omega (arith, l.invariant.2, c.loop-i-test.false)) _ c.end_list.ensures
