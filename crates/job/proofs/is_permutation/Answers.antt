-- `job::is_permutation` meets its contract: a byte that is no vertex, or that was met before, decides
-- (`marks_stop_beyond`, `marks_stop_again`). Any other is marked (`marks_go_on`), and at the end none is left.
use mathlib.Core.Path.{refl, ◌∙◌}
use native.Mathlib.Omega.{arith}
use borrow.Author.Tests.{lt-ltb, le-ltb}
use lib.ListN.{length-set}
use Rattle.laws.specs.Tests.{marks_start, marks_stop_beyond, marks_stop_again, marks_go_on, marks_end}
use Rattle.job.proofs.is_permutation.Goals as goal

pub loop-i-init : goal.loop-i-init
loop-i-init c =
    let a = c.args in
    (omega arith, refl, marks_start a.job.now a.at a.n 20 (omega arith) (omega arith))

pub returns-then-n-v : goal.returns-then-n-v
returns-then-n-v c =
    let l = c.loop-i in
    let w = c.from-v.ensures in
    marks_stop_beyond _ _ _ l.marks l.i (omega arith) (omega arith) (le-ltb _ _ (rw w at c.if-n-v.true)) l.invariant.2

pub returns-then-marks-v : goal.returns-then-marks-v
returns-then-marks-v c =
    let l = c.loop-i in
    let w = c.from-v.ensures in
    marks_stop_again _ _ _ l.marks l.i (omega arith) (omega arith) (lt-ltb _ _ (rw w at c.if-n-v.false))
    (rw w at c.if-marks-v.true) l.invariant.2

pub loop-i-preserved : goal.loop-i-preserved
loop-i-preserved c =
    let l = c.loop-i in
    let w = c.from-v.ensures in (
      omega arith,
      length-set l.marks _ _ ∙ l.invariant.1,
      rw w (marks_go_on _ _ _ l.marks l.i (omega arith)
          (omega arith) (lt-ltb _ _ (rw w at c.if-n-v.false)) (rw w at c.if-marks-v.false) l.invariant.2),
    )

pub returns : goal.returns
returns c =
    let a = c.args in
    marks_end a.job.now a.at a.n c.loop-i.marks c.loop-i.i (omega arith) c.loop-i.invariant.2
