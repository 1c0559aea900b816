-- `writing::write_summaries` meets its contract: a turn writes the summary of one entry more (`flat_more`), and at
-- the end k is the number of entries (`take_all`).
use mathlib.Core.Path.{ap}
use mathlib.Core.List.{[], flat_map}
use Prim.Native.Nat.{◌<◌}
use native.Mathlib.Omega.{arith}
use lib.ListN.{length}
use lib.Seq.{take_all}
use Rattle.layout.specs.declared.Level.{Level}
use Rattle.layout.specs.Leaves.{lists_left}
use Rattle.words.specs.Wrote.{writes_none, writes_then, writes_as}
use Rattle.writing.specs.Asked.{many_lists}
use Rattle.figure_words.specs.Laws.{flat_more}
use Rattle.writing.proofs.write_summaries.Goals as goal

pub loop-k-init : goal.loop-k-init
unfolding flat_map
loop-k-init g c = (omega arith, writes_none _)

pub write_summary-requires : goal.write_summary-requires
write_summary-requires g c = omega (arith, ap (λ (l : Level). l.count) c.left-left.ensures.0)

pub loop-k-preserved : goal.loop-k-preserved
loop-k-preserved g c =
    let at-loop = c.loop-k in
    let left = c.left-left in
    let level = g.T.EntryFigure.level c.args.figures.now in
    let lists = lists_left level (g.T.EntryFigure.ws c.args.figures.now) in
    let below : at-loop.k
    < level.count = omega (arith, ap (λ (l : Level). l.count) left.ensures.0, c.loop-k-test.true) in
    let standing = rw (left.ensures.0, left.ensures.1) at left.result.standing in
    let here : at-loop.k < length lists = omega (arith, many_lists standing, below) in (
      omega arith,
      writes_as (writes_then at-loop.invariant.1 c.write_summary.ensures)
          (flat_more (g.T.EntryFigure.summary c.args.figures.now) lists at-loop.k [] here),
    )

pub returns : goal.returns
returns g c =
    let at-loop = c.loop-k in
    let left = c.left-left in
    let lists = lists_left (g.T.EntryFigure.level c.args.figures.now) (g.T.EntryFigure.ws c.args.figures.now) in
    let same = ap (λ (l : Level). l.count) left.ensures.0 in
    let standing = rw (left.ensures.0, left.ensures.1) at left.result.standing in
    writes_as at-loop.invariant.1 (ap (flat_map (g.T.EntryFigure.summary c.args.figures.now))
    (take_all at-loop.k lists (omega (arith, same, many_lists standing, c.loop-k-test.false))))
