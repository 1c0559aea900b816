-- `PairSearch::pairs_above` meets its contract: a pair is marked, breaks a limit or opens, and each turn is the law
-- of its case. At the end w is n, and the pairs up to w are all (`up_all`).
use mathlib.Core.Path.{sym, ap, ◌∙◌}
use mathlib.Core.Bool.{true, false}
use mathlib.Core.List.{List, ◌++◌, append-nil}
use Prim.Native.Nat.{◌+◌, ◌≤◌, ◌<◌}
use native.Mathlib.Omega.{arith}
use Rattle.definitions.specs.Lists.{Pair}
use Rattle.space.specs.Meaning.{points_of, limits_of}
use Rattle.rows.specs.Rows.{rows_in}
use Rattle.rows.specs.Codes.{pair_codes}
use Rattle.openers.specs.Meaning.{breaks}
use Rattle.openers.proofs.Laws.{images_under}
use Rattle.openers.proofs.PairWalk.{up_none, pair_marked, pair_skipped, pair_opened, up_room, up_all}
use Rattle.openers.proofs.PairSearch.pairs_above.Goals.{then-not-marks-v+then-not-breaks_limit, else-not-marks-v}
use Rattle.openers.proofs.PairSearch.pairs_above.Goals.{else-not-marks-v-via-then-not-marks-v+else-not-breaks_limit}
use Rattle.openers.proofs.PairSearch.pairs_above.Goals.{else-not-marks-v-via-else-not-marks-v}
use Rattle.openers.proofs.PairSearch.pairs_above.Goals as goal

pub loop-w-init : goal.loop-w-init
loop-w-init c =
    let a = c.args in
    let before = a.pairs.now.items in
    let none = up_none (pair_codes (rows_in 32 a.self.rows.count a.self.rows.bytes.now))
    (breaks a.self.tolerance (limits_of a.self.limits) (points_of a.self.points.now)) a.marks.now a.v in (
      omega arith,
      sym (append-nil before)
          ∙ ap (λ (l : List Pair). before ++ l) (sym none.0),
      sym none.1,
      omega (arith, c.requires.0),
    )

pub mark_pair_images-requires : goal.mark_pair_images-requires
mark_pair_images-requires c =
    let fit = c.args.self.fit in
    let below : c.loop-w.w < c.args.self.points.now.n = omega arith in (
      omega (arith, fit.n_fits, c.requires.0),
      omega (arith, fit.n_fits, below),
      images_under fit c.args.v c.requires.0,
      images_under fit c.loop-w.w below,
    )

pub push-requires : goal.push-requires
push-requires c =
    let l = c.loop-w in
    let a = c.args in
    let below : l.w < a.self.points.now.n = omega arith in
    let room = up_room (pair_codes (rows_in 32 a.self.rows.count a.self.rows.bytes.now))
    (breaks a.self.tolerance (limits_of a.self.limits) (points_of a.self.points.now)) a.marks.now
    a.pairs.now.items l.pairs.items a.v l.w l.invariant.1 in
    (omega arith, omega (arith, room, below, l.invariant.0, c.requires.1))

pub loop-w-preserved : goal.loop-w-preserved
unfolding breaks
loop-w-preserved c =
    let l = c.loop-w in
    let a = c.args in
    let images = pair_codes (rows_in 32 a.self.rows.count a.self.rows.bytes.now) in
    let skip = breaks a.self.tolerance (limits_of a.self.limits) (points_of a.self.points.now) in
    let before = a.pairs.now.items in
    let above : a.v < l.w + 1 = omega arith in
    let below : l.w + 1 ≤ a.self.points.now.n = omega arith in
    elim c.if-not-marks-v.branch [
      | then-not-marks-v+then-not-breaks_limit w ↦
          let turn = pair_opened images skip a.marks.now a.v l.w l.invariant.0 before l.invariant.1 l.invariant.2
          w.if-not-marks-v.true
          (sym w.breaks_limit.ensures ∙ w.if-not-breaks_limit.true) w.push.ensures.items w.mark_pair_images.ensures in
          rw (w.pairs-is, w.marks-is) (above, turn.0, turn.1, below)
      | else-not-marks-v w ↦
          rw (w.pairs-is, w.marks-is)
          (elim w.else-not-marks-v.branch [
            | else-not-marks-v-via-then-not-marks-v+else-not-breaks_limit k ↦
                let turn = pair_skipped images skip a.marks.now a.v l.w l.invariant.0 before l.invariant.1
                l.invariant.2 k.if-not-marks-v.true (sym k.breaks_limit.ensures ∙ k.if-not-breaks_limit.false) in
                (above, turn.0, turn.1, below)
            | else-not-marks-v-via-else-not-marks-v k ↦
                let turn = pair_marked images skip a.marks.now a.v l.w l.invariant.0 before l.invariant.1
                l.invariant.2 k.if-not-marks-v.false in
                (above, turn.0, turn.1, below)
          ])
    ]

pub returns-clause-joins : goal.returns-clause-joins
returns-clause-joins c =
    let l = c.loop-w in
    let a = c.args in
    rw (← (up_all (pair_codes (rows_in 32 a.self.rows.count a.self.rows.bytes.now)) (breaks a.self.tolerance
    (limits_of a.self.limits) (points_of a.self.points.now)) a.marks.now a.self.points.now.n a.v l.w
    (omega arith))) l.invariant.1

pub returns-clause-marks : goal.returns-clause-marks
returns-clause-marks c =
    let l = c.loop-w in
    let a = c.args in
    rw (← (up_all (pair_codes (rows_in 32 a.self.rows.count a.self.rows.bytes.now)) (breaks a.self.tolerance
    (limits_of a.self.limits) (points_of a.self.points.now)) a.marks.now a.self.points.now.n a.v l.w
    (omega arith))) l.invariant.2
