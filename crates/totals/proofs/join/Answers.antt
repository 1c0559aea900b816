-- `totals::join` meets its contract: a turn adds one amount (`code_next`) and notes whether the total is above 2
-- (`lifted_next`). At the end the orbit's use is stored (`change_use`).
use native.Mathlib.Omega.{arith}
use mathlib.Core.Path.{◌≡◌, refl, ap, ◌∙◌}
use Prim.Native.Nat.{◌+◌, ◌*◌}
use lib.ListN.{set, length-set}
use lib.Seq.{take_all}
use Rattle.definitions.specs.Job.{number_at}
use Rattle.facets.specs.Layout.{facet_of, codes, touched_part, totals_part, lifted, with_totals, with_facet}
use Rattle.facets.specs.Numbers.{orbit_is, facet_small}
use Rattle.totals.specs.Change.{codes_none, codes_fit, touched_room_holds, touched_length, code_length, code_place}
use Rattle.totals.specs.Change.{code_is, code_next, code_total, code_end, lifted_next, add_fits, here_is, change_use}
use Rattle.laws.specs.Clauses.{of_two}
use Rattle.totals.proofs.join.Goals as goal

pub list_length-n-requires : goal.list_length-n-requires
list_length-n-requires c =
    rw c.touched.ensures (touched_room_holds c.requires.0 c.args.a c.args.ws.now c.requires.1 c.args.x c.requires.2)

pub loop-i-init : goal.loop-i-init
unfolding lifted
loop-i-init c = (omega arith, codes_none ◌+◌ c.args.a c.args.ws.now c.requires.1.fits c.args.x, refl)

pub touched-codes-requires : goal.touched-codes-requires
touched-codes-requires c = codes_fit ◌+◌ c.args.x c.loop-i.i c.requires.1 c.requires.2 c.loop-i.ws c.loop-i.invariant.1

pub item-requires : goal.item-requires
item-requires c =
    let l = c.loop-i in
    let n = touched_length c.requires.0 c.args.a c.args.ws.now c.requires.1 c.args.x c.requires.2 in
    let m = rw c.touched.ensures at c.list_length-n.ensures in
    let q = code_length c.requires.0 ◌+◌ c.args.a c.args.ws.now c.requires.1 c.args.x c.requires.2 l.ws l.i
    l.invariant.1 in
    let f = c.requires.1.fits in
    rw c.touched-codes.ensures (code_place c.requires.0 ◌+◌ c.args.a c.args.ws.now c.requires.1 c.args.x c.requires.2
    l.ws l.i l.invariant.1 (omega arith))

pub overflow_add-at : goal.overflow_add-at
overflow_add-at c =
    let l = c.loop-i in
    let n = touched_length c.requires.0 c.args.a c.args.ws.now c.requires.1 c.args.x c.requires.2 in
    let m = rw c.touched.ensures at c.list_length-n.ensures in
    let q = code_length c.requires.0 ◌+◌ c.args.a c.args.ws.now c.requires.1 c.args.x c.requires.2 l.ws l.i
    l.invariant.1 in
    let f = c.requires.1.fits in
    let w = code_is c.requires.0 ◌+◌ c.args.a c.args.ws.now c.requires.1 c.args.x c.requires.2 l.ws l.i l.invariant.1
    (omega arith) in
    let e = c.from-code.ensures ∙ (rw c.touched-codes.ensures at c.item.ensures ∙ w) in
    let z = c.requires.1.holds.within c.args.x c.requires.2 l.i (omega arith) in
    omega arith

pub bounds-ws-at : goal.bounds-ws-at
bounds-ws-at c =
    let l = c.loop-i in
    let n = touched_length c.requires.0 c.args.a c.args.ws.now c.requires.1 c.args.x c.requires.2 in
    let m = rw c.touched.ensures at c.list_length-n.ensures in
    let q = code_length c.requires.0 ◌+◌ c.args.a c.args.ws.now c.requires.1 c.args.x c.requires.2 l.ws l.i
    l.invariant.1 in
    let f = c.requires.1.fits in
    let w = code_is c.requires.0 ◌+◌ c.args.a c.args.ws.now c.requires.1 c.args.x c.requires.2 l.ws l.i l.invariant.1
    (omega arith) in
    let e = c.from-code.ensures ∙ (rw c.touched-codes.ensures at c.item.ensures ∙ w) in
    let z = c.requires.1.holds.within c.args.x c.requires.2 l.i (omega arith) in
    omega arith

pub overflow_add-sum : goal.overflow_add-sum
overflow_add-sum c =
    let l = c.loop-i in
    let n = touched_length c.requires.0 c.args.a c.args.ws.now c.requires.1 c.args.x c.requires.2 in
    let m = rw c.touched.ensures at c.list_length-n.ensures in
    let q = code_length c.requires.0 ◌+◌ c.args.a c.args.ws.now c.requires.1 c.args.x c.requires.2 l.ws l.i
    l.invariant.1 in
    let f = c.requires.1.fits in
    let w = code_is c.requires.0 ◌+◌ c.args.a c.args.ws.now c.requires.1 c.args.x c.requires.2 l.ws l.i l.invariant.1
    (omega arith) in
    let e = c.from-code.ensures ∙ (rw c.touched-codes.ensures at c.item.ensures ∙ w) in
    let z = c.requires.1.holds.within c.args.x c.requires.2 l.i (omega arith) in
    let g = code_total c.requires.0 ◌+◌ c.args.a c.args.ws.now c.requires.1 c.args.x c.requires.2 l.ws l.i
    l.invariant.1 c.from-code.result (omega arith) e in
    let y = add_fits c.requires.0 c.args.a c.args.ws.now c.requires.1 c.args.x c.requires.2 l.i (omega arith)
    (c.requires.3 _ z) in
    rw (g, e) (omega arith)

pub bounds-ws-at-in-loop-i : goal.bounds-ws-at-in-loop-i
bounds-ws-at-in-loop-i c =
    let l = c.loop-i in
    let n = touched_length c.requires.0 c.args.a c.args.ws.now c.requires.1 c.args.x c.requires.2 in
    let m = rw c.touched.ensures at c.list_length-n.ensures in
    let q = code_length c.requires.0 ◌+◌ c.args.a c.args.ws.now c.requires.1 c.args.x c.requires.2 l.ws l.i
    l.invariant.1 in
    let f = c.requires.1.fits in
    let w = code_is c.requires.0 ◌+◌ c.args.a c.args.ws.now c.requires.1 c.args.x c.requires.2 l.ws l.i l.invariant.1
    (omega arith) in
    let e = c.from-code.ensures ∙ (rw c.touched-codes.ensures at c.item.ensures ∙ w) in
    let z = c.requires.1.holds.within c.args.x c.requires.2 l.i (omega arith) in
    omega arith

pub loop-i-preserved : goal.loop-i-preserved
loop-i-preserved c =
    let l = c.loop-i in
    let n = touched_length c.requires.0 c.args.a c.args.ws.now c.requires.1 c.args.x c.requires.2 in
    let m = rw c.touched.ensures at c.list_length-n.ensures in
    let q = code_length c.requires.0 ◌+◌ c.args.a c.args.ws.now c.requires.1 c.args.x c.requires.2 l.ws l.i
    l.invariant.1 in
    let f = c.requires.1.fits in
    let w = code_is c.requires.0 ◌+◌ c.args.a c.args.ws.now c.requires.1 c.args.x c.requires.2 l.ws l.i l.invariant.1
    (omega arith) in
    let e = c.from-code.ensures ∙ (rw c.touched-codes.ensures at c.item.ensures ∙ w) in
    let z = c.requires.1.holds.within c.args.x c.requires.2 l.i (omega arith) in (
      omega arith,
      code_next c.requires.0 ◌+◌ c.args.a c.args.ws.now c.requires.1 c.args.x c.requires.2 l.ws l.i
          l.invariant.1 c.from-code.result _ (omega arith) e refl,
      lifted_next c.requires.0 c.args.a c.args.ws.now c.requires.1 c.args.x c.requires.2 l.ws l.i l.invariant.1 l.over
          c.from-code.result (omega arith) e l.invariant.2,
    )

pub overflow_mul-x : goal.overflow_mul-x
overflow_mul-x c =
    let l = c.loop-i in
    let n = touched_length c.requires.0 c.args.a c.args.ws.now c.requires.1 c.args.x c.requires.2 in
    let m = rw c.touched.ensures at c.list_length-n.ensures in
    let q = code_length c.requires.0 ◌+◌ c.args.a c.args.ws.now c.requires.1 c.args.x c.requires.2 l.ws l.i
    l.invariant.1 in
    let f = c.requires.1.fits in
    omega arith

pub get-requires : goal.get-requires
get-requires c =
    let l = c.loop-i in
    let n = touched_length c.requires.0 c.args.a c.args.ws.now c.requires.1 c.args.x c.requires.2 in
    let m = rw c.touched.ensures at c.list_length-n.ensures in
    let q = code_length c.requires.0 ◌+◌ c.args.a c.args.ws.now c.requires.1 c.args.x c.requires.2 l.ws l.i
    l.invariant.1 in
    let f = c.requires.1.fits in
    omega arith

pub overflow_add-ws : goal.overflow_add-ws
overflow_add-ws c =
    let l = c.loop-i in
    let n = touched_length c.requires.0 c.args.a c.args.ws.now c.requires.1 c.args.x c.requires.2 in
    let m = rw c.touched.ensures at c.list_length-n.ensures in
    let q = code_length c.requires.0 ◌+◌ c.args.a c.args.ws.now c.requires.1 c.args.x c.requires.2 l.ws l.i
    l.invariant.1 in
    let f = c.requires.1.fits in
    let w = code_end c.requires.0 ◌+◌ c.args.a c.args.ws.now c.requires.1 c.args.x c.requires.2 l.ws l.i l.invariant.1
    (omega arith) in
    let o : c.from-orbit.result ≡ number_at (with_totals ◌+◌ c.args.a c.args.ws.now c.args.x) (2 * c.args.x) 2 =
    c.from-orbit.ensures ∙ (c.get.ensures ∙ ap (λ r. number_at r (2 * c.args.x) 2) w) in
    let b : c.from-orbit.result ≡ (facet_of c.requires.0 c.args.x).0 = o
    ∙ (here_is ◌+◌ c.args.a c.args.ws.now c.requires.1.fits c.args.x 1 c.requires.2
    ∙ orbit_is c.requires.0 c.args.a c.args.ws.now c.requires.1 c.args.x c.requires.2) in
    let z = facet_small c.requires.0 c.args.a c.args.ws.now c.args.x c.requires.1 c.requires.2 in omega arith

pub bounds-ws-a : goal.bounds-ws-a
bounds-ws-a c =
    let l = c.loop-i in
    let n = touched_length c.requires.0 c.args.a c.args.ws.now c.requires.1 c.args.x c.requires.2 in
    let m = rw c.touched.ensures at c.list_length-n.ensures in
    let q = code_length c.requires.0 ◌+◌ c.args.a c.args.ws.now c.requires.1 c.args.x c.requires.2 l.ws l.i
    l.invariant.1 in
    let f = c.requires.1.fits in
    let w = code_end c.requires.0 ◌+◌ c.args.a c.args.ws.now c.requires.1 c.args.x c.requires.2 l.ws l.i l.invariant.1
    (omega arith) in
    let o : c.from-orbit.result ≡ number_at (with_totals ◌+◌ c.args.a c.args.ws.now c.args.x) (2 * c.args.x) 2 =
    c.from-orbit.ensures ∙ (c.get.ensures ∙ ap (λ r. number_at r (2 * c.args.x) 2) w) in
    let b : c.from-orbit.result ≡ (facet_of c.requires.0 c.args.x).0 = o
    ∙ (here_is ◌+◌ c.args.a c.args.ws.now c.requires.1.fits c.args.x 1 c.requires.2
    ∙ orbit_is c.requires.0 c.args.a c.args.ws.now c.requires.1 c.args.x c.requires.2) in
    let z = facet_small c.requires.0 c.args.a c.args.ws.now c.args.x c.requires.1 c.requires.2 in omega arith

pub shape_of-ws : goal.shape_of-ws
shape_of-ws c =
    let l = c.loop-i in
    let n = touched_length c.requires.0 c.args.a c.args.ws.now c.requires.1 c.args.x c.requires.2 in
    let m = rw c.touched.ensures at c.list_length-n.ensures in
    let q = code_length c.requires.0 ◌+◌ c.args.a c.args.ws.now c.requires.1 c.args.x c.requires.2 l.ws l.i
    l.invariant.1 in
    let f = c.requires.1.fits in
    length-set l.ws (c.args.a.used + c.from-orbit.result) _ ∙ q

pub returns : goal.returns
unfolding with_facet
returns c = of_two (λ x0 x1. record { counts = x0; lifts = x1 })
    (let l = c.loop-i in
    let n = touched_length c.requires.0 c.args.a c.args.ws.now c.requires.1 c.args.x c.requires.2 in
    let m = rw c.touched.ensures at c.list_length-n.ensures in let q =
    code_length c.requires.0 ◌+◌ c.args.a c.args.ws.now c.requires.1 c.args.x c.requires.2 l.ws l.i l.invariant.1 in
    let f = c.requires.1.fits in
    let w = code_end c.requires.0 ◌+◌ c.args.a c.args.ws.now c.requires.1 c.args.x c.requires.2 l.ws l.i l.invariant.1
    (omega arith) in
    let o : c.from-orbit.result ≡ number_at (with_totals ◌+◌ c.args.a c.args.ws.now c.args.x) (2 * c.args.x) 2 =
    c.from-orbit.ensures ∙ (c.get.ensures ∙ ap (λ r. number_at r (2 * c.args.x) 2) w) in
    let b : c.from-orbit.result ≡ (facet_of c.requires.0 c.args.x).0 = o
    ∙ (here_is ◌+◌ c.args.a c.args.ws.now c.requires.1.fits c.args.x 1 c.requires.2
    ∙ orbit_is c.requires.0 c.args.a c.args.ws.now c.requires.1 c.args.x c.requires.2) in
    let z = facet_small c.requires.0 c.args.a c.args.ws.now c.args.x c.requires.1 c.requires.2 in (
      ap (λ r. set r (c.args.a.used + c.from-orbit.result) 1) w
          ∙ change_use ◌+◌ c.args.a c.args.ws.now c.requires.1.fits c.args.x 1 c.requires.2 c.from-orbit.result o
          (omega arith),
      l.invariant.2 ∙ ap (lifted (totals_part c.args.a c.args.ws.now))
          (take_all l.i (codes c.args.a (touched_part c.args.a c.args.ws.now) c.args.x) (omega arith)),
    ))
