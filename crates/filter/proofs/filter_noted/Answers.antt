-- `filter::filter_noted` meets its contract: a list in which another is found is left out (`left_out_holds`), and any
-- other is kept (`kept_too`). At the end all lists were looked at (`all_kept`).
use mathlib.Core.Path.{sym, ◌∙◌}
use native.Mathlib.Omega.{arith}
use Rattle.order.specs.Areas.{lists_length}
use Rattle.filter.specs.Found.{begun_first, begun_next, begun, asked, going_starts, left_out_holds, kept_too, all_kept}
use Rattle.laws.specs.Clauses.{of_two}
use Rattle.filter.proofs.filter_noted.Goals as goal
use Rattle.filter.proofs.filter_noted.Goals.{then-not-finds_other, else-not-finds_other}

pub loop-a-init : goal.loop-a-init
loop-a-init c = (going_starts c.args.area c.args.at c.args.ws.now c.requires.0.holds c.requires.0.behind, begun_first _)

pub search_start-start-requires : goal.search_start-start-requires
search_start-start-requires c =
    let l = c.loop-a in
    let n = lists_length c.args.area.most c.args.area.bytes c.args.area.count c.args.ws.now in
    (c.loop-a-test.true, omega (arith, l.invariant.1.few))

pub finds_other-requires : goal.finds_other-requires
finds_other-requires c =
    let l = c.loop-a in
    let g = c.search_start-start in
    asked c.args.area c.args.at c.args.ws.now c.requires.0.holds c.requires.0.behind c.requires.0.ascends l.many l.ws
    l.a l.invariant.0 l.start l.invariant.1 c.loop-a-test.true g.result g.ensures c.args.notes.now
    c.requires.0.few c.requires.1

pub loop-a-preserved : goal.loop-a-preserved
loop-a-preserved c =
    let l = c.loop-a in
    let t = c.loop-a-test.true in
    let g = c.search_start-start in
    let b = begun_next _ l.a _ (begun c.args.area c.args.at c.args.ws.now c.requires.0.holds c.requires.0.behind
    c.requires.0.ascends l.many l.ws l.a l.invariant.0 l.start l.invariant.1 t g.result g.ensures) in
    elim c.if-not-finds_other.branch [
      | then-not-finds_other w ↦ rw (w.ws-is, w.many-is) (
        kept_too c.args.area c.args.at c.args.ws.now c.requires.0.holds c.requires.0.behind l.many l.ws l.a
            l.invariant.0 t (sym w.if-not-finds_other.true ∙ c.finds_other.ensures) _ w.put.ensures,
        b,
      )
      | else-not-finds_other w ↦ rw (w.ws-is, w.many-is) (
        left_out_holds c.args.area c.args.at c.args.ws.now c.requires.0.holds c.requires.0.behind l.many l.ws l.a
            l.invariant.0 t (sym w.if-not-finds_other.false ∙ c.finds_other.ensures),
        b,
      )
    ]

pub returns : goal.returns
returns c = of_two (λ x0 x1. record { many = x0; numbers = x1 })
    (let l = c.loop-a in
    all_kept c.args.area c.args.at c.args.ws.now c.requires.0.holds c.requires.0.behind l.many l.ws l.a l.invariant.0
    c.loop-a-test.false)
