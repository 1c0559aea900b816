-- `ridges::count_places` meets its contract: a place in one of the ridge orbits is counted (`counted_joins`), another
-- is passed (`all_stay`), and at the end all places were looked at (`all_end`).
use mathlib.Core.Path.{sym, ap, ◌∙◌}
use Prim.Native.Nat.{◌/◌, ◌+◌}
use native.Mathlib.Omega.{arith}
use Rattle.order.specs.Areas.{list_at, left_in, list_short}
use Rattle.ridges.proofs.Tables.{next_at, all_start, counted_few, counted_joins, all_stay, all_end, all_read}
use Rattle.ridges.proofs.count_places.Goals as goal

pub loop-share-init : goal.loop-share-init
loop-share-init c = (
  0,
  omega arith,
  ap left_in c.into_iter-share-iterator.ensures.into_iter_gives ∙ c.items-share-items.ensures,
  all_start _ _,
)

pub overflow_add-counted : goal.overflow_add-counted
overflow_add-counted c =
    let now = c.loop-share.invariant in
    let at = next_at (list_at 1024 c.args.shares.now c.args.x) (left_in c.next.new.self) now.0 c.in-Some.share
    (sym now.2 ∙ c.in-Some.ensures.steps) in
    omega (
      arith,
      counted_few c.loop-share.counted now.3 (c.from-code.result / 4) c.if-ridge-ridges.true,
      at.0,
      list_short 1024 c.args.shares.now c.requires.0 c.args.x c.requires.1,
    )

pub loop-share-preserved-then-ridge-ridges : goal.loop-share-preserved-then-ridge-ridges
loop-share-preserved-then-ridge-ridges c =
    let now = c.loop-share.invariant in
    let at = next_at (list_at 1024 c.args.shares.now c.args.x) (left_in c.next.new.self) now.0 c.in-Some.share
    (sym now.2 ∙ c.in-Some.ensures.steps) in (
      now.0 + 1,
      omega (arith, at.0),
      sym at.2,
      counted_joins c.loop-share.counted now.3 at.0 c.from-code.result (c.from-code.ensures ∙ sym at.1)
          c.requires.2 c.if-ridge-ridges.true,
    )

pub loop-share-preserved : goal.loop-share-preserved
loop-share-preserved c =
    let now = c.loop-share.invariant in
    let at = next_at (list_at 1024 c.args.shares.now c.args.x) (left_in c.next.new.self) now.0 c.in-Some.share
    (sym now.2 ∙ c.in-Some.ensures.steps) in (
      now.0 + 1,
      omega (arith, at.0),
      sym at.2,
      all_stay now.3 at.0 c.from-code.result (c.from-code.ensures ∙ sym at.1) c.requires.2
          c.if-ridge-ridges.false,
    )

pub returns : goal.returns
unfolding list_at
returns c =
    let now = c.loop-share.invariant in
    all_end now.3 (all_read (list_at 1024 c.args.shares.now c.args.x) now.0 (sym now.2 ∙ c.in-None.ensures.steps.0))
