-- `PairSearch::vertex_openers` meets its contract: a vertex with a mark is passed, and any other opens. At the end v
-- is n, and what a walk by marks finds is the definition's (`vertices_walked`).
use mathlib.Core.Path.{◌≡◌, sym, ap, ◌∙◌}
use mathlib.Core.Bool.{false}
use mathlib.Core.List.{[]}
use Prim.Native.Nat.{◌+◌, ◌≤◌}
use native.Mathlib.Omega.{arith}
use lib.ListN.{replicate, length}
use Rattle.definitions.specs.Lists.{count_from}
use Rattle.laws.specs.Lists.{of_count}
use Rattle.openers.proofs.Laws.{found_few, found_none, vertex_passed, vertex_opened, agree_none, vertices_walked}
use Rattle.openers.proofs.Laws.{images_under}
use Rattle.openers.proofs.PairSearch.vertex_openers.Goals.{then-not-marks-v, else-not-marks-v}
use Rattle.openers.proofs.PairSearch.vertex_openers.Goals as goal

pub loop-v-init : goal.loop-v-init
loop-v-init c = let none = found_none c.args.self.rows.count c.args.self.rows.bytes.now (replicate 400 false) in
    (omega arith, c.new-found.ensures ∙ sym none.0, sym none.1)

pub mark_pair_images-requires : goal.mark_pair_images-requires
mark_pair_images-requires c = let images = images_under c.args.self.fit c.loop-v.v (omega arith) in
    (omega (arith, c.args.self.fit.n_fits), omega (arith, c.args.self.fit.n_fits), images, images)

pub push-requires : goal.push-requires
push-requires c = let l = c.loop-v in (
  omega arith,
  omega (
    arith,
    ap length l.invariant.1,
    found_few c.args.self.rows.count c.args.self.rows.bytes.now
        (replicate 400 false) l.v,
    c.args.self.fit.n_fits,
  ),
)

pub loop-v-preserved : goal.loop-v-preserved
loop-v-preserved c =
    let l = c.loop-v in
    let rows = c.args.self.rows in
    let below : l.v + 1 ≤ c.args.self.points.now.n = omega arith in
    elim c.if-not-marks-v.branch [
      | then-not-marks-v w ↦
          let turn = vertex_opened rows.count rows.bytes.now (replicate 400 false) l.v l.invariant.1 l.invariant.2
          w.if-not-marks-v.true w.push.ensures.items w.mark_pair_images.ensures in
          rw (w.found-is, w.marks-is) (below, turn.0, turn.1)
      | else-not-marks-v w ↦
          let turn = vertex_passed rows.count rows.bytes.now
          (replicate 400 false) l.v l.invariant.1 l.invariant.2 w.if-not-marks-v.false in
          rw (w.found-is, w.marks-is) (below, turn.0, turn.1)
    ]

pub returns : goal.returns
returns c = let l = c.loop-v in let e : l.v ≡ c.args.self.points.now.n = omega arith in
    rw (
      ← (vertices_walked c.args.self.points.now.n c.args.self.rows.count c.args.self.rows.bytes.now
          c.args.self.fit.n_fits (replicate 400 false) [] (count_from 0 c.args.self.points.now.n) agree_none
          (λ v h. omega (arith, (of_count 0 c.args.self.points.now.n v h).1))),
      ← e,
    ) l.invariant.1
