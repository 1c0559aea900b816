-- `figure_words::write_points` meets its contract: a turn writes the words of one point more (`points_more`).
use mathlib.Core.Path.{sym}
use native.Mathlib.Omega.{arith}
use Rattle.words.specs.Wrote.{writes_none, writes_then, writes_as}
use Rattle.figure_words.specs.Laws.{points_none, points_more}
use Rattle.figure_words.proofs.write_points.Goals as goal

pub loop-i-init : goal.loop-i-init
loop-i-init c = (omega arith, writes_as (writes_none _) (sym points_none))

pub loop-i-preserved : goal.loop-i-preserved
loop-i-preserved c = (
  omega arith,
  writes_as (writes_then c.loop-i.invariant.1
      (writes_then c.push.ensures.writes c.push-in-loop-i.ensures.writes)) (points_more _),
)
