-- `plain::plain_passed` meets its contract: in each of the three cases what the call says is the definition's
-- outcome, and its plain entries are written. Assumes nothing.
use mathlib.Core.Path.{sym, ap, ◌∙◌}
use Rattle.std.specs.Prelude.{Ok}
use Rattle.refusals.specs.Refused.{handed_on}
use borrow.Author.Rules.{rules}
use lib.ListN.{length}
use Rattle.words.specs.Wrote.{writes_as}
use Rattle.answering.specs.Answered.{called_as, call_refuses, call_ends, call_leaves}
use Rattle.plain.specs.Numbers.{one_entry}
use Rattle.plain.specs.Written.{refused_clauses, answered_clauses}
use Rattle.laws.specs.Clauses.{of_two}
use Rattle.plain.proofs.plain_passed.Goals as goal

pub returns-in_err-called : goal.returns-in_err-called
returns-in_err-called c = of_two (λ x0 x1. record { result = x0; buffer = x1 })
    (rw (handed_on _ _ c.from_residual.ensures.1)
    (refused_clauses c.args.job.now (length c.args.ws.now) c.args.fields c.requires.0
    (call_refuses (called_as c.call_job.ensures c.in_err-called.was)) _ c.requires.1))

pub returns-in-Ends : goal.returns-in-Ends
returns-in-Ends c = of_two (λ x0 x1. record { result = x0; buffer = x1 })
    (let both = answered_clauses c.args.job.now (length c.args.ws.now) c.args.fields c.requires.0
    (call_ends (called_as c.call_job.ensures (c.in_ok-called.was ∙ ap Ok c.in-Ends.is))).0 c.args.answer.now
    c.requires.1 (search rules) c.new-w.ensures.1 (writes_as c.write_one.ensures (sym (one_entry _ _)))
    c.close.ensures.result c.close.ensures.buffer in (both.0, (search rules) ∙ both.1))

pub write_plain-requires : goal.write_plain-requires
write_plain-requires c =
    let left = call_leaves (called_as c.call_job.ensures (c.in_ok-called.was ∙ ap Ok c.in-Left.is)) in
    (_, _, _, left.0, left.4.leaves)

pub returns-in-Left : goal.returns-in-Left
returns-in-Left c = of_two (λ x0 x1. record { result = x0; buffer = x1 })
    (let left = call_leaves (called_as c.call_job.ensures (c.in_ok-called.was ∙ ap Ok c.in-Left.is)) in
    let writes = c.write_plain.ensures _ _ _ _ left.0 left.4.leaves in
    let same = writes.same in
    let both = answered_clauses c.args.job.now (length c.args.ws.now) c.args.fields c.requires.0
    left.1 c.args.answer.now c.requires.1 (search rules) c.new-w-in-Left.ensures.1 writes
    c.close-in-Left.ensures.result c.close-in-Left.ensures.buffer in (both.0, (search rules) ∙ both.1))
