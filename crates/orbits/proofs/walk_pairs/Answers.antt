-- `orbits::walk_pairs` meets its contract: a turn walks along the tuples of one pair more (`walk_turn`). A refusal is
-- the walk's (`walk_ends_holds`), and at the end all pairs were taken.
use mathlib.Core.Path.{◌≡◌, refl, subst, ◌∙◌}
use mathlib.Core.List.{List}
use Prim.Native.Nat.{◌+◌}
use native.Mathlib.Omega.{arith}
use lib.ListN.{take}
use lib.Seq.{take_all}
use Rattle.definitions.specs.Lists.{Pair}
use Rattle.space.specs.Meaning.{points_of, limits_of}
use Rattle.rows.specs.Rows.{rows_in}
use Rattle.laws.specs.Lists.{member_at}
use Rattle.orbits.specs.Walks.{Walked}
use Rattle.orbits.specs.Answers.{PairsRise, pair_tuples}
use Rattle.orbits.proofs.PairSteps.{walk_start, walk_turn, walk_ends_holds}
use Rattle.std.specs.Prelude.{Ok}
use Rattle.refusals.specs.Refused.{handed_on}
use Rattle.orbits.proofs.walk_pairs.Goals as goal

pub loop-first-init : goal.loop-first-init
loop-first-init c = let a = c.args in (
  refl,
  walk_start a.walk.search.pairs.tolerance a.walk.most (limits_of a.walk.search.pairs.limits)
      (points_of a.walk.search.pairs.points.now) (points_of a.walk.search.flat.now) a.walk.search.flat.now.n a.more
      (rows_in a.walk.search.flat.now.n a.walk.search.pairs.rows.count a.walk.search.pairs.rows.bytes.now)
      a.walk.bound a.state a.ws.now c.as_slice-first-items.result.now c.requires.1,
)

pub pair_points-pair-requires : goal.pair_points-pair-requires
pair_points-pair-requires c =
    let pairs = c.as_slice-first-items.result.now in
    let rises : PairsRise c.args.walk.search.flat.now.n pairs = rw c.as_slice-first-items.ensures.value c.requires.0 in
    let m = member_at pairs c.loop-first.first-index (0, 0) (omega arith) in
    let up = rises.rise _ m in
    let below = rises.below _ m in
    (omega arith, omega arith)

pub overflow_add-w : goal.overflow_add-w
overflow_add-w c =
    let pairs = c.as_slice-first-items.result.now in
    let rises : PairsRise c.args.walk.search.flat.now.n pairs = rw c.as_slice-first-items.ensures.value c.requires.0 in
    let below = rises.below _ (member_at pairs c.loop-first.first-index (0, 0) (omega arith)) in
    omega (arith, c.args.walk.search.flat.now.fits.n_fits)

pub extend-requires : goal.extend-requires
extend-requires c =
    let l = c.loop-first in
    let pairs = c.as_slice-first-items.result.now in
    let rises : PairsRise c.args.walk.search.flat.now.n pairs = rw c.as_slice-first-items.ensures.value c.requires.0 in
    let m = member_at pairs l.first-index (0, 0) (omega arith) in
    let up = rises.rise _ m in
    let below = rises.below _ m in
    let h = c.pair_points-pair.ensures in (
      omega (arith, h.n_is),
      h.d_is,
      l.invariant.1.room,
      omega (arith, c.args.walk.search.fits.same_n),
      omega (arith, h.n_is),
    )

pub loop-first-preserved : goal.loop-first-preserved
loop-first-preserved c =
    let a = c.args in
    let l = c.loop-first in
    let pairs = c.as_slice-first-items.result.now in (
      c.extend.auto.ws ∙ l.invariant.0,
      walk_turn a.walk.search.pairs.tolerance a.walk.most (limits_of a.walk.search.pairs.limits)
          (points_of a.walk.search.pairs.points.now) (points_of a.walk.search.flat.now) a.walk.search.flat.now.n
          a.more (rows_in a.walk.search.flat.now.n a.walk.search.pairs.rows.count a.walk.search.pairs.rows.bytes.now)
          a.walk.bound a.state a.ws.now pairs l.first-index c.from-v.result c.from-w.result
          (points_of c.pair_points-pair.result) l.reached l.ws _ _ (omega arith) (rw (
            c.from-v.ensures,
            c.from-w.ensures,
          ) refl) c.pair_points-pair.ensures.means l.invariant.1 c.in_ok-reached.ensures,
    )

pub returns-in_err-reached : goal.returns-in_err-reached
returns-in_err-reached c =
    let a = c.args in
    let l = c.loop-first in
    let pairs = c.as_slice-first-items.result.now in
    let turn = walk_turn a.walk.search.pairs.tolerance a.walk.most (limits_of a.walk.search.pairs.limits)
    (points_of a.walk.search.pairs.points.now) (points_of a.walk.search.flat.now) a.walk.search.flat.now.n a.more
    (rows_in a.walk.search.flat.now.n a.walk.search.pairs.rows.count a.walk.search.pairs.rows.bytes.now)
    a.walk.bound a.state a.ws.now pairs l.first-index c.from-v.result c.from-w.result
    (points_of c.pair_points-pair.result) l.reached l.ws _ _ (omega arith) (rw (
      c.from-v.ensures,
      c.from-w.ensures,
    ) refl) c.pair_points-pair.ensures.means l.invariant.1 c.in_err-reached.ensures in
    rw (handed_on _ _ c.from_residual.ensures.1, ← c.as_slice-first-items.ensures.value)
    (walk_ends_holds a.walk.search.pairs.tolerance a.walk.most (limits_of a.walk.search.pairs.limits)
    (points_of a.walk.search.pairs.points.now) (points_of a.walk.search.flat.now) a.walk.search.flat.now.n
    a.more (rows_in a.walk.search.flat.now.n a.walk.search.pairs.rows.count a.walk.search.pairs.rows.bytes.now)
    a.walk.bound a.state a.ws.now pairs (l.first-index + 1) _ _ turn)

pub returns : goal.returns
returns c =
    let a = c.args in
    let l = c.loop-first in
    let pairs = c.as_slice-first-items.result.now in
    let all : take l.first-index pairs ≡ a.pairs.now.items = take_all l.first-index pairs (omega arith)
    ∙ c.as_slice-first-items.ensures.value in
    subst (λ (ps : List Pair). Walked a.walk.search.pairs.tolerance a.walk.most (points_of a.walk.search.flat.now)
    (rows_in a.walk.search.flat.now.n a.walk.search.pairs.rows.count a.walk.search.pairs.rows.bytes.now)
    a.walk.bound a.state a.ws.now (pair_tuples a.walk.search.pairs.tolerance
    (limits_of a.walk.search.pairs.limits) (points_of a.walk.search.pairs.points.now)
    (points_of a.walk.search.flat.now) a.walk.search.flat.now.n a.more ps) (Ok l.reached) l.ws) all l.invariant.1
