-- `edge_marks::write_marks` meets its contract: a code with a mark adds its edge and another adds nothing
-- (`mark_words_holds`), and at the end `code` is 400.
use mathlib.Core.Path.{◌≡◌, ap}
use mathlib.Core.List.{List, map}
use Prim.Native.Nat.{ℕ}
use native.Mathlib.Omega.{arith}
use Rattle.rows.specs.Codes.{pair_of}
use Rattle.shapes.specs.FigureWords.{edge_words}
use Rattle.edge_marks.specs.Marks.{edges_marked, codes_marked, mark_words}
use Rattle.words.specs.declared.Writer.{Writer}
use Rattle.words.specs.Wrote.{Writes, writes_none, writes_then, writes_as}
use Rattle.edge_marks.specs.MarkSteps.{at_marked, at_unmarked, mark_words_holds, mark_words_none}
use Rattle.edge_marks.proofs.write_marks.Goals.{then-marks-code, else-marks-code}
use Rattle.edge_marks.proofs.write_marks.Goals as goal

pub loop-code-init : goal.loop-code-init
loop-code-init c = (omega arith, writes_as (writes_none _) (mark_words_none _))

pub loop-code-preserved : goal.loop-code-preserved
loop-code-preserved c = let l = c.loop-code in
    let with =
    λ (v : Writer) (words : List ℕ) (w : Writes l.w v words) (e : words ≡ mark_words c.args.marks.now l.code).
    writes_as (writes_then l.invariant.1 (writes_as w e)) (mark_words_holds c.args.marks.now l.code) in (
      omega arith,
      elim c.if-marks-code.branch [
        | then-marks-code w ↦ rw w.w-is (with _ _ w.write_edge.ensures (at_marked _ _ w.if-marks-code.true))
        | else-marks-code w ↦ rw w.w-is (with _ _ (writes_none _) (at_unmarked _ _ w.if-marks-code.false))
      ],
    )

pub returns : goal.returns
unfolding edges_marked
returns c =
    let l = c.loop-code in
    let e : l.code ≡ 400 = omega arith in
    writes_as l.invariant.1 (ap (λ (k : ℕ). edge_words (map pair_of (codes_marked c.args.marks.now k))) e)
