-- `load::copy_rows` meets its contract: a row is copied, so that the rows in the region are one more (`row_copied`).
use mathlib.Core.Path.{refl, ◌∙◌}
use native.Mathlib.Omega.{arith}
use Rattle.definitions.specs.Lists.{count_from}
use Rattle.laws.specs.Parts.{rows}
use Rattle.laws.specs.Tests.{next_fits}
use Rattle.rows.specs.Rows.{rows_in, written_rows}
use Rattle.load.specs.Meaning.{rows_at}
use Rattle.load.proofs.Laws.{row_copied}
use Rattle.load.proofs.copy_rows.Goals as goal

pub loop-i-init : goal.loop-i-init
unfolding rows_in rows_at written_rows count_from rows
loop-i-init c = (omega arith, refl, refl, refl)

pub loop-i-preserved : goal.loop-i-preserved
loop-i-preserved c =
    let m = next_fits c.args.n c.loop-i.i c.args.count (omega arith) in
    let l = c.loop-i in
    let next = row_copied l.region _ c.args.at c.args.n l.i _ (omega arith) (omega arith) (omega arith)
    c.copy_row.ensures l.invariant.2 c.args.region.now l.invariant.3 in
    (omega arith, next.0 ∙ l.invariant.1, next.1, next.2)
