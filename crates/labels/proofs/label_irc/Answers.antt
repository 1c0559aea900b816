-- `labels::label_irc` meets its contract: a list b that is not shorter or not found is passed (`label_skip`). For the
-- first that is found the loop over c seeks what is left, and the label is written or stays 0.
use mathlib.Core.Path.{refl, sym, ◌∙◌}
use Prim.Native.Nat.{◌<◌}
use native.Mathlib.Omega.{arith}
use lib.ListN.{length}
use Rattle.order.specs.Areas.{list_of, lists_of, lists_length}
use Rattle.laws.specs.Lists.{read_inside}
use Rattle.labels.proofs.Walking.{found_above, found_same, found_pass, found_end, before_end}
use Rattle.labels.proofs.Labelling.{base_starts, cleared, without_label, with_label, all_labelled, label_skip}
use Rattle.labels.proofs.Labelling.{started_first, started_next, started_search, not_shorter, not_found, label_end}
use Rattle.labels.proofs.Labelling.{label_stop, label_found, seek_end, seek_skip, seek_hit}
use Rattle.labels.proofs.label_irc.Goals as goal
use Rattle.labels.proofs.label_irc.Goals.{then-x-y, else-x-y, else-subset-test, then-subset-test+then-starts_above}

pub a-init : goal.a-init
a-init c = (
  base_starts c.args.area c.args.at c.args.ws.now c.requires.3 c.requires.4,
  started_first (lists_of c.args.area c.args.ws.now),
)

pub invariant_of-lists : goal.invariant_of-lists
invariant_of-lists c = record {
  holding =
      (cleared _ _ _ c.requires.3 c.requires.4 c.requires.0 _ _ c.a.invariant.0 c.a-test.true _ c.put.ensures).holds;
}

pub search_start-start-requires : goal.search_start-start-requires
search_start-start-requires c = (
  c.a-test.true,
  omega (
    arith,
    c.a.invariant.1.few,
    lists_length c.args.area.most c.args.area.bytes c.args.area.count c.args.ws.now,
  ),
)

pub subset-init : goal.subset-init
subset-init c =
    let w = cleared _ _ _ c.requires.3 c.requires.4 c.requires.0 _ _ c.a.invariant.0 c.a-test.true _ c.put.ensures in
    let n = lists_length c.args.area.most c.args.area.bytes c.args.area.count c.args.ws.now in
    let r = started_search (lists_of c.args.area c.args.ws.now) _ c.a.a c.a.start _ w.same c.requires.1
    c.a.invariant.1 (omega (arith, w.few)) c.search_start-start.ensures in
    rw w.same (r.passed c.a.a (omega arith) (omega (arith, w.few)))

pub subset-preserved-then-m-n : goal.subset-preserved-then-m-n
subset-preserved-then-m-n c =
    let n = lists_length c.args.area.most c.args.area.bytes c.args.area.count c.put.new.s in
    label_skip _ (lists_of c.args.area c.put.new.s) c.subset.b c.subset.invariant (omega (arith, c.subset-test.true))
    (not_shorter _ _ (omega arith))

pub subset-preserved : goal.subset-preserved
subset-preserved c =
    let k = c.subset in
    let l = c.loop-j in
    let x = list_of c.args.area c.put.new.s c.a.a in
    let y = list_of c.args.area c.put.new.s k.b in
    let g = c.from-y in
    let n = lists_length c.args.area.most c.args.area.bytes c.args.area.count c.put.new.s in
    let i : l.j < length y = omega (arith, c.length-n.ensures) in
    label_skip x (lists_of c.args.area c.put.new.s) k.b k.invariant (omega (arith, c.subset-test.true))
    (not_found x y (found_above x y l.i l.j l.invariant.2 g.result i (g.ensures
    ∙ (c.item.ensures ∙ read_inside y l.j 0 65536 i)) (omega arith) (omega (arith, c.next_at-x.ensures))))

pub loop-j-preserved : goal.loop-j-preserved
loop-j-preserved c =
    let l = c.loop-j in
    let x = list_of c.args.area c.put.new.s c.a.a in
    let y = list_of c.args.area c.put.new.s c.subset.b in
    let b : l.i < length x = before_end x l.i (omega (arith, c.next_at-x.ensures)) in
    let g = c.from-y in
    let i : l.j < length y = omega (arith, c.length-n.ensures) in
    let v = g.ensures ∙ (c.item.ensures ∙ read_inside y l.j 0 65536 i) in
    elim c.if-x-y.branch [
      | then-x-y w ↦ rw w.j-is (
        omega (arith, c.length-m.ensures),
        omega arith,
        found_same x y l.i l.j l.invariant.2 g.result i v (omega arith) (omega (arith, c.next_at-x.ensures)),
      )
      | else-x-y w ↦ rw w.j-is (
        omega (arith, c.length-m.ensures),
        omega arith,
        found_pass x y l.i l.j l.invariant.2 g.result i v (omega arith) (omega (arith, c.next_at-x.ensures)),
      )
    ]

pub loop-c-init : goal.loop-c-init
loop-c-init c =
    let k = c.subset in
    let l = c.loop-j in
    let x = list_of c.args.area c.put.new.s c.a.a in
    let y = list_of c.args.area c.put.new.s k.b in
    let n = lists_length c.args.area.most c.args.area.bytes c.args.area.count c.put.new.s in
    label_found x (lists_of c.args.area c.put.new.s) k.b k.invariant (omega (arith, c.subset-test.true))
    (omega (arith, c.length-m.ensures, c.length-n.ensures))
    (sym c.starts_above.ensures ∙ c.if-starts_above.false)
    (found_end x y l.i l.j l.invariant.2 (omega (arith, c.length-n.ensures)))

pub a-preserved-then-is_left : goal.a-preserved-then-is_left
a-preserved-then-is_left c =
    let w = cleared _ _ _ c.requires.3 c.requires.4 c.requires.0 _ _ c.a.invariant.0 c.a-test.true _ c.put.ensures in
    let q = c.loop-c in
    let n = lists_length c.args.area.most c.args.area.bytes c.args.area.count c.put.new.s in
    let hit = seek_hit _ _ (lists_of c.args.area c.put.new.s) c.subset.b q.c _ q.invariant
    (omega (arith, c.loop-c-test.true)) (sym c.if-is_left.true ∙ c.is_left.ensures) in (
      with_label _ _ _ c.requires.3 c.requires.4 c.requires.0 _ c.a.a w c.subset.b q.c hit _
          c.put-then-is_left.ensures,
      started_next _ c.a.a c.a.a _ (started_search (lists_of c.args.area c.args.ws.now) _
          c.a.a c.a.start _ w.same c.requires.1 c.a.invariant.1 (omega (
            arith,
            w.few,
            lists_length c.args.area.most
                c.args.area.bytes c.args.area.count c.args.ws.now,
          )) c.search_start-start.ensures) refl,
    )

pub loop-c-preserved : goal.loop-c-preserved
loop-c-preserved c =
    let q = c.loop-c in
    let n = lists_length c.args.area.most c.args.area.bytes c.args.area.count c.put.new.s in
    seek_skip _ _ (lists_of c.args.area c.put.new.s) c.subset.b q.c _ q.invariant (omega (arith, c.loop-c-test.true))
    (sym c.if-is_left.false ∙ c.is_left.ensures)

pub a-preserved-in-subset : goal.a-preserved-in-subset
a-preserved-in-subset c =
    let w = cleared _ _ _ c.requires.3 c.requires.4 c.requires.0 _ _ c.a.invariant.0 c.a-test.true _ c.put.ensures in
    let q = c.loop-c in
    let n = lists_length c.args.area.most c.args.area.bytes c.args.area.count c.put.new.s in
    let end = seek_end _ _ (lists_of c.args.area c.put.new.s) c.subset.b q.c _ q.invariant
    (omega (arith, c.loop-c-test.false)) in (
      without_label _ _ _ c.requires.3 c.requires.4 c.requires.0 _ c.a.a w end,
      started_next _ c.a.a c.a.a _
          (started_search (lists_of c.args.area c.args.ws.now) _ c.a.a c.a.start _ w.same c.requires.1 c.a.invariant.1
          (omega (arith, w.few, lists_length c.args.area.most c.args.area.bytes c.args.area.count c.args.ws.now))
          c.search_start-start.ensures) refl,
    )

pub a-preserved : goal.a-preserved
a-preserved c =
    let w = cleared _ _ _ c.requires.3 c.requires.4 c.requires.0 _ _ c.a.invariant.0 c.a-test.true _ c.put.ensures in
    let k = c.subset in
    let ls = lists_of c.args.area c.put.new.s in
    let n = lists_length c.args.area.most c.args.area.bytes c.args.area.count c.put.new.s in (
      without_label _ _ _ c.requires.3 c.requires.4 c.requires.0 _ c.a.a w
          (elim c.subset-test.branch [
            | else-subset-test v ↦ label_end _ ls k.b k.invariant (omega (arith, v.subset-test.false))
            | then-subset-test+then-starts_above v ↦
                label_stop _ ls k.b k.invariant (omega (arith, v.subset-test.true)) (rw w.same c.requires.1)
                (sym v.starts_above.ensures ∙ v.if-starts_above.true)
          ]),
      started_next _ c.a.a c.a.a _
          (started_search (lists_of c.args.area c.args.ws.now) _ c.a.a c.a.start _ w.same c.requires.1 c.a.invariant.1
          (omega (arith, w.few, lists_length c.args.area.most c.args.area.bytes c.args.area.count c.args.ws.now))
          c.search_start-start.ensures) refl,
    )

pub returns : goal.returns
returns c = all_labelled _ _ _ c.requires.3 c.requires.4 c.requires.0 _ _ c.a.invariant.0 c.a-test.false
