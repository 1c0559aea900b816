-- `search::search` meets its contract by the laws of SearchSteps: a turn goes back (`step_back`), or visits a facet
-- and goes on (`step_on`). The search ends with the last frame, the limit, a spent budget or another refusal.
use native.Mathlib.Omega.{arith}
use mathlib.Core.Path.{refl, sym, ap, ◌∙◌}
use Prim.Native.Nat.{ℕ, ◌+◌, ◌-◌, ◌*◌, ◌<◌}
use Rattle.facets.specs.Layout.{lists_part}
use Rattle.search.specs.Outcomes.{search_outcome, counted_lists}
use Rattle.emission.specs.Emission.{emitted_count}
use Rattle.frames.specs.Steps.{none_due, next_due}
use Rattle.search.specs.SearchSteps.{Followed, Goes, Stops, Fills, step_start, step_depth, step_back, step_ready}
use Rattle.search.specs.SearchSteps.{step_spent, step_judged, step_on, step_stopped, step_full, step_end, budget_falls}
use Rattle.search.specs.SearchSteps.{inputs_before}
use Rattle.laws.specs.Clauses.{of_three}
use Rattle.refusals.specs.Refused.{number_of, handed_on}
use Rattle.search.proofs.search.Goals as goal

pub loop-s-init : goal.loop-s-init
loop-s-init c = let go = c.start.ensures c.requires.0 c.requires.1 in (
  refl,
  refl,
  λ t h. step_start t c.args.a c.args.course c.args.budget c.args.ws.now c.start.new.ws
      (c.start.ensures t (inputs_before t c.args.a c.args.ws.now c.start.new.ws c.requires.1.fits go.tables h)),
)

pub next-requires : goal.next-requires
next-requires c =
    let l = c.loop-s in
    let go = c.start.ensures c.requires.0 c.requires.1 in
    let turn = l.invariant.2 c.requires.0 go.stands.inputs in
    (c.requires.0, turn.stands, c.loop-s-test.true)

pub back-s-requires : goal.back-s-requires
back-s-requires c =
    let l = c.loop-s in
    let go = c.start.ensures c.requires.0 c.requires.1 in
    let turn = l.invariant.2 c.requires.0 go.stands.inputs in
    (c.requires.0, turn.stands, c.loop-s-test.true)

pub loop-s-smaller-in-None : goal.loop-s-smaller-in-None
loop-s-smaller-in-None c =
    let l = c.loop-s in
    let go = c.start.ensures c.requires.0 c.requires.1 in
    let turn = l.invariant.2 c.requires.0 go.stands.inputs in
    let r = c.back-s.ensures in
    let m = ap (λ (n : ℕ). n * (c.args.a.orbits + 2)) r.1 in
    omega (arith, r.0, c.loop-s-test.true)

pub loop-s-preserved-in-None : goal.loop-s-preserved-in-None
loop-s-preserved-in-None c =
    let l = c.loop-s in
    let go = c.start.ensures c.requires.0 c.requires.1 in
    let turn = l.invariant.2 c.requires.0 go.stands.inputs in (
      c.back-s.auto.ws ∙ l.invariant.0,
      (c.back-s.ensures.2 c.requires.0 turn.stands).tables ∙ l.invariant.1,
      λ t h. let u = l.invariant.2 t h in
          let n = none_due t c.args.a l.ws l.s.depth u.stands c.loop-s-test.true c.next.result
          (c.next.ensures t u.stands) c.in-None.is in
          rw (c.back-s.ensures.0, c.back-s.ensures.1) (step_back t c.args.a c.args.course c.args.budget l.ws l.s.depth
          l.s.left u c.loop-s-test.true c.back-s.new.ws n (c.back-s.ensures.2 t u.stands)),
    )

pub shape_of-ws-then-s-eq0 : goal.shape_of-ws-then-s-eq0
shape_of-ws-then-s-eq0 c =
    let l = c.loop-s in l.invariant.0 ∙ c.start.auto.ws

pub returns-then-s-eq0 : goal.returns-then-s-eq0
unfolding search_outcome counted_lists
returns-then-s-eq0 c = of_three (λ x0 x1 x2. record { found = x0; many = x1; kept = x2 })
    (let l = c.loop-s in let go = c.start.ensures c.requires.0 c.requires.1 in
    let turn = l.invariant.2 c.requires.0 go.stands.inputs in (
      (λ t h. let back = c.start.ensures t h in let u = l.invariant.2 t back.stands.inputs in
          let n = next_due t c.args.a l.ws l.s.depth u.stands c.loop-s-test.true c.next.result c.in-Some.place
          (c.next.ensures t u.stands) c.in-Some.is in
          step_spent t c.args.a c.args.course c.args.budget l.ws l.s.depth l.s.left u c.loop-s-test.true
          c.in-Some.place n c.if-s-eq0.true),
      (λ t. tt),
      l.invariant.1 ∙ go.tables,
    ))

pub visit-s-requires : goal.visit-s-requires
visit-s-requires c =
    let l = c.loop-s in
    let go = c.start.ensures c.requires.0 c.requires.1 in
    let turn = l.invariant.2 c.requires.0 go.stands.inputs in
    let n = next_due c.requires.0 c.args.a l.ws l.s.depth turn.stands c.loop-s-test.true c.next.result c.in-Some.place
    (c.next.ensures c.requires.0 turn.stands) c.in-Some.is in (
      c.requires.0,
      step_ready c.requires.0 c.args.a c.args.course c.args.budget l.ws l.s.depth l.s.left turn
          c.loop-s-test.true c.in-Some.place n,
      omega (arith, c.if-s-eq0.false),
    )

pub follow-requires : goal.follow-requires
follow-requires c =
    let l = c.loop-s in
    let go = c.start.ensures c.requires.0 c.requires.1 in
    let turn = l.invariant.2 c.requires.0 go.stands.inputs in
    let n = next_due c.requires.0 c.args.a l.ws l.s.depth turn.stands c.loop-s-test.true c.next.result c.in-Some.place
    (c.next.ensures c.requires.0 turn.stands) c.in-Some.is in
    let d : 0 < l.s.depth = c.loop-s-test.true in
    let p : 0 < l.s.left = omega (arith, c.if-s-eq0.false) in
    let w = c.visit-s.ensures.2 c.requires.0
    (step_ready c.requires.0 c.args.a c.args.course c.args.budget l.ws l.s.depth l.s.left turn d c.in-Some.place n) in
    let j = step_judged c.requires.0 c.args.a c.args.course c.args.budget l.ws l.s.depth l.s.left turn d
    c.in-Some.place n c.visit-s.new.ws c.visit-s.result.verdict w p in
    (c.requires.0, rw c.visit-s.ensures.0 j)

pub loop-s-smaller : goal.loop-s-smaller
unfolding Followed
loop-s-smaller c =
    let l = c.loop-s in
    let go = c.start.ensures c.requires.0 c.requires.1 in
    let turn = l.invariant.2 c.requires.0 go.stands.inputs in
    let n = next_due c.requires.0 c.args.a l.ws l.s.depth turn.stands c.loop-s-test.true c.next.result c.in-Some.place
    (c.next.ensures c.requires.0 turn.stands) c.in-Some.is in
    let d : 0 < l.s.depth = c.loop-s-test.true in
    let p : 0 < l.s.left = omega (arith, c.if-s-eq0.false) in
    let w = c.visit-s.ensures.2 c.requires.0
    (step_ready c.requires.0 c.args.a c.args.course c.args.budget l.ws l.s.depth l.s.left turn d c.in-Some.place n) in
    let j = step_judged c.requires.0 c.args.a c.args.course c.args.budget l.ws l.s.depth l.s.left turn d
    c.in-Some.place n c.visit-s.new.ws c.visit-s.result.verdict w p in
    let g = c.in_ok-deep-in-Some.ensures c.requires.0 (rw c.visit-s.ensures.0 j) in
    let q : Goes c.requires.0 c.args.a c.args.course c.visit-s.new.ws c.follow.new.ws l.s.depth c.in-Some-2.deep =
    rw (c.in-Some-2.is, c.visit-s.ensures.0) at g in
    let k = step_depth c.requires.0 c.args.a c.args.course c.args.budget c.follow.new.ws c.in-Some-2.deep
    (l.s.left - 1) (step_on c.requires.0 c.args.a c.args.course c.args.budget l.ws l.s.depth l.s.left turn d
    c.in-Some.place n c.visit-s.new.ws c.visit-s.result.verdict w p c.follow.new.ws c.in-Some-2.deep q) in
    rw (c.at_depth-s.ensures.0, c.at_depth-s.ensures.1, c.visit-s.ensures.1)
    (budget_falls l.s.left (c.args.a.orbits + 2) c.in-Some-2.deep l.s.depth p k)

pub loop-s-preserved : goal.loop-s-preserved
unfolding Followed
loop-s-preserved c =
    let l = c.loop-s in
    let go = c.start.ensures c.requires.0 c.requires.1 in
    let turn = l.invariant.2 c.requires.0 go.stands.inputs in
    let n = next_due c.requires.0 c.args.a l.ws l.s.depth turn.stands c.loop-s-test.true c.next.result c.in-Some.place
    (c.next.ensures c.requires.0 turn.stands) c.in-Some.is in
    let d : 0 < l.s.depth = c.loop-s-test.true in
    let p : 0 < l.s.left = omega (arith, c.if-s-eq0.false) in
    let w = c.visit-s.ensures.2 c.requires.0
    (step_ready c.requires.0 c.args.a c.args.course c.args.budget l.ws l.s.depth l.s.left turn d c.in-Some.place n) in
    let j = step_judged c.requires.0 c.args.a c.args.course c.args.budget l.ws l.s.depth l.s.left turn d
    c.in-Some.place n c.visit-s.new.ws c.visit-s.result.verdict w p in
    let g = c.in_ok-deep-in-Some.ensures c.requires.0 (rw c.visit-s.ensures.0 j) in
    let q : Goes c.requires.0 c.args.a c.args.course c.visit-s.new.ws c.follow.new.ws l.s.depth c.in-Some-2.deep =
    rw (c.in-Some-2.is, c.visit-s.ensures.0) at g in (
      c.follow.auto.ws ∙ (c.visit-s.auto.ws ∙ l.invariant.0),
      q.tables ∙ (w.tables ∙ l.invariant.1),
      λ t h. let turn = l.invariant.2 t h in
          let n = next_due t c.args.a l.ws l.s.depth turn.stands c.loop-s-test.true c.next.result c.in-Some.place
          (c.next.ensures t turn.stands) c.in-Some.is in
          let d : 0 < l.s.depth = c.loop-s-test.true in
          let p : 0 < l.s.left = omega (arith, c.if-s-eq0.false) in
          let w = c.visit-s.ensures.2 t
          (step_ready t c.args.a c.args.course c.args.budget l.ws l.s.depth l.s.left turn d c.in-Some.place n) in
          let j = step_judged t c.args.a c.args.course c.args.budget l.ws l.s.depth l.s.left turn d c.in-Some.place n
          c.visit-s.new.ws c.visit-s.result.verdict w p in
          let g = c.in_ok-deep-in-Some.ensures t (rw c.visit-s.ensures.0 j) in
          let q : Goes t c.args.a c.args.course c.visit-s.new.ws c.follow.new.ws l.s.depth c.in-Some-2.deep =
          rw (c.in-Some-2.is, c.visit-s.ensures.0) at g in
          rw (c.at_depth-s.ensures.0, c.at_depth-s.ensures.1, c.visit-s.ensures.1)
          (step_on t c.args.a c.args.course c.args.budget l.ws l.s.depth l.s.left turn d c.in-Some.place n
          c.visit-s.new.ws c.visit-s.result.verdict w p c.follow.new.ws c.in-Some-2.deep q),
    )

pub found-requires : goal.found-requires
unfolding Followed
found-requires c =
    let l = c.loop-s in
    let go = c.start.ensures c.requires.0 c.requires.1 in
    let turn = l.invariant.2 c.requires.0 go.stands.inputs in
    let n = next_due c.requires.0 c.args.a l.ws l.s.depth turn.stands c.loop-s-test.true c.next.result c.in-Some.place
    (c.next.ensures c.requires.0 turn.stands) c.in-Some.is in
    let d : 0 < l.s.depth = c.loop-s-test.true in
    let p : 0 < l.s.left = omega (arith, c.if-s-eq0.false) in
    let w = c.visit-s.ensures.2 c.requires.0
    (step_ready c.requires.0 c.args.a c.args.course c.args.budget l.ws l.s.depth l.s.left turn d c.in-Some.place n) in
    let j = step_judged c.requires.0 c.args.a c.args.course c.args.budget l.ws l.s.depth l.s.left turn d
    c.in-Some.place n c.visit-s.new.ws c.visit-s.result.verdict w p in
    let g = c.in_ok-deep-in-Some.ensures c.requires.0 (rw c.visit-s.ensures.0 j) in
    let q : Stops c.requires.0 c.args.a c.args.course c.visit-s.new.ws c.follow.new.ws l.s.depth =
    rw (c.in_default.is, c.visit-s.ensures.0) at g in
    q.inputs.fits

pub shape_of-ws-in_default : goal.shape_of-ws-in_default
shape_of-ws-in_default c =
    let l = c.loop-s in c.follow.auto.ws ∙ (c.visit-s.auto.ws ∙ (l.invariant.0 ∙ c.start.auto.ws))

pub returns-in_default : goal.returns-in_default
unfolding Followed search_outcome counted_lists
returns-in_default c = of_three (λ x0 x1 x2. record { found = x0; many = x1; kept = x2 })
    (let l = c.loop-s in let go = c.start.ensures c.requires.0 c.requires.1 in
    let turn = l.invariant.2 c.requires.0 go.stands.inputs in let n =
    next_due c.requires.0 c.args.a l.ws l.s.depth turn.stands c.loop-s-test.true c.next.result c.in-Some.place
    (c.next.ensures c.requires.0 turn.stands) c.in-Some.is in
    let d : 0 < l.s.depth = c.loop-s-test.true in
    let p : 0 < l.s.left = omega (arith, c.if-s-eq0.false) in
    let w = c.visit-s.ensures.2 c.requires.0
    (step_ready c.requires.0 c.args.a c.args.course c.args.budget l.ws l.s.depth l.s.left turn d c.in-Some.place n) in
    let j = step_judged c.requires.0 c.args.a c.args.course c.args.budget l.ws l.s.depth l.s.left turn d
    c.in-Some.place n c.visit-s.new.ws c.visit-s.result.verdict w p in
    let g = c.in_ok-deep-in-Some.ensures c.requires.0 (rw c.visit-s.ensures.0 j) in
    let q : Stops c.requires.0 c.args.a c.args.course c.visit-s.new.ws c.follow.new.ws l.s.depth =
    rw (c.in_default.is, c.visit-s.ensures.0) at g in (
      (λ t h. let back = c.start.ensures t h in let turn = l.invariant.2 t back.stands.inputs in
          let n = next_due t c.args.a l.ws l.s.depth turn.stands c.loop-s-test.true c.next.result c.in-Some.place
          (c.next.ensures t turn.stands) c.in-Some.is in
          let d : 0 < l.s.depth = c.loop-s-test.true in
          let p : 0 < l.s.left = omega (arith, c.if-s-eq0.false) in
          let w = c.visit-s.ensures.2 t
          (step_ready t c.args.a c.args.course c.args.budget l.ws l.s.depth l.s.left turn d c.in-Some.place n) in
          let j = step_judged t c.args.a c.args.course c.args.budget l.ws l.s.depth l.s.left turn d c.in-Some.place n
          c.visit-s.new.ws c.visit-s.result.verdict w p in
          let g = c.in_ok-deep-in-Some.ensures t (rw c.visit-s.ensures.0 j) in
          let q : Stops t c.args.a c.args.course c.visit-s.new.ws c.follow.new.ws l.s.depth =
          rw (c.in_default.is, c.visit-s.ensures.0) at g in
          rw (c.found.ensures, c.visit-s.ensures.1)
          (step_stopped t c.args.a c.args.course c.args.budget l.ws l.s.depth l.s.left turn d c.in-Some.place n
          c.visit-s.new.ws c.visit-s.result.verdict w p c.follow.new.ws q)),
      (λ t. rw c.found.ensures (record {
        many = sym (emitted_count t c.args.a (lists_part c.args.a c.follow.new.ws));
        emitted = q.emitted;
      })),
      q.tables ∙ (w.tables ∙ (l.invariant.1 ∙ go.tables)),
    ))

pub found-requires-2 : goal.found-requires-2
found-requires-2 c =
    let l = c.loop-s in
    let go = c.start.ensures c.requires.0 c.requires.1 in
    let turn = l.invariant.2 c.requires.0 go.stands.inputs in
    turn.stands.inputs.fits

pub shape_of-ws : goal.shape_of-ws
shape_of-ws c = let l = c.loop-s in l.invariant.0 ∙ c.start.auto.ws

pub returns : goal.returns
unfolding search_outcome counted_lists
returns c = of_three (λ x0 x1 x2. record { found = x0; many = x1; kept = x2 })
    (let l = c.loop-s in let go = c.start.ensures c.requires.0 c.requires.1 in
    let turn = l.invariant.2 c.requires.0 go.stands.inputs in (
      (λ t h. let back = c.start.ensures t h in let u = l.invariant.2 t back.stands.inputs in
          rw c.found-2.ensures (step_end t c.args.a c.args.course c.args.budget l.ws l.s.depth l.s.left u
          (omega (arith, c.loop-s-test.false)))),
      (λ t. rw c.found-2.ensures (record {
        many = sym (emitted_count t c.args.a (lists_part c.args.a l.ws));
        emitted = turn.emitted;
      })),
      l.invariant.1 ∙ go.tables,
    ))

pub returns-in_err-deep-in-Some : goal.returns-in_err-deep-in-Some
unfolding Followed search_outcome counted_lists
returns-in_err-deep-in-Some c = of_three (λ x0 x1 x2. record { found = x0; many = x1; kept = x2 })
    (rw (handed_on _ _ c.from_residual.ensures.1) (let l = c.loop-s in let go =
    c.start.ensures c.requires.0 c.requires.1 in let turn = l.invariant.2 c.requires.0 go.stands.inputs in let n =
    next_due c.requires.0 c.args.a l.ws l.s.depth turn.stands c.loop-s-test.true c.next.result c.in-Some.place
    (c.next.ensures c.requires.0 turn.stands) c.in-Some.is in
    let d : 0 < l.s.depth = c.loop-s-test.true in
    let p : 0 < l.s.left = omega (arith, c.if-s-eq0.false) in
    let w = c.visit-s.ensures.2 c.requires.0
    (step_ready c.requires.0 c.args.a c.args.course c.args.budget l.ws l.s.depth l.s.left turn d c.in-Some.place n) in
    let j = step_judged c.requires.0 c.args.a c.args.course c.args.budget l.ws l.s.depth l.s.left turn d
    c.in-Some.place n c.visit-s.new.ws c.visit-s.result.verdict w p in
    let g = c.in_err-deep-in-Some.ensures c.requires.0 (rw c.visit-s.ensures.0 j) in
    let q : Fills c.requires.0 c.args.a c.args.course c.visit-s.new.ws c.follow.new.ws l.s.depth
    (number_of c.in_err-deep-in-Some.field-0.0) = rw c.visit-s.ensures.0 at g in (
      (λ t h. let back = c.start.ensures t h in let turn = l.invariant.2 t back.stands.inputs in
          let n = next_due t c.args.a l.ws l.s.depth turn.stands c.loop-s-test.true c.next.result c.in-Some.place
          (c.next.ensures t turn.stands) c.in-Some.is in
          let d : 0 < l.s.depth = c.loop-s-test.true in
          let p : 0 < l.s.left = omega (arith, c.if-s-eq0.false) in
          let w = c.visit-s.ensures.2 t
          (step_ready t c.args.a c.args.course c.args.budget l.ws l.s.depth l.s.left turn d c.in-Some.place n) in
          let j = step_judged t c.args.a c.args.course c.args.budget l.ws l.s.depth l.s.left turn d c.in-Some.place n
          c.visit-s.new.ws c.visit-s.result.verdict w p in
          let g = c.in_err-deep-in-Some.ensures t (rw c.visit-s.ensures.0 j) in
          let q : Fills t c.args.a c.args.course c.visit-s.new.ws c.follow.new.ws l.s.depth
          (number_of c.in_err-deep-in-Some.field-0.0) = rw c.visit-s.ensures.0 at g in
          step_full t c.args.a c.args.course c.args.budget l.ws l.s.depth l.s.left turn d c.in-Some.place n
          c.visit-s.new.ws c.visit-s.result.verdict w p c.follow.new.ws _ q),
      (λ t. tt),
      q.tables ∙ (w.tables ∙ (l.invariant.1 ∙ go.tables)),
    )))
