-- `register::register_batch` meets its contract: the row's records, and what is promised of each follows from the
-- buffer. Assumes nothing.
use mathlib.Core.Path.{◌∙◌}
use native.Mathlib.Omega.{arith}
use borrow.Author.Rules.{rules}
use lib.ListN.{length}
use mir.Facts.{to_z-of_z}
use mir.Syntax.{w64}
use mir.Val.{SFits}
use Rattle.register.specs.Batches.{row_promised}
use Rattle.laws.specs.Clauses.{of_three}
use Rattle.register.proofs.Sizes.{records_fit, recorded_code}
use Rattle.register.proofs.register_batch.Goals as goal

pub code-requires : goal.code-requires
code-requires c = records_fit _ _ c.map.ensures.cases _ _ _ c.answer_row.ensures.result c.answer_row.ensures.buffer
    c.answer_row.auto.records (omega arith)

pub returns : goal.returns
returns c = of_three (λ x0 x1 x2. record { code = x0; buffer = x1; each = x2 })
    (let fits : SFits w64 c.code.result = search rules in
    let buffer = c.answer_row.ensures.buffer in (
      to_z-of_z fits ∙ (c.code.ensures ∙ recorded_code _ _ c.map.ensures.cases _ c.answer_row.ensures.result),
      buffer,
      row_promised c.args.row.now (length c.args.workspace.now) (length c.args.answer.now) buffer,
    ))
