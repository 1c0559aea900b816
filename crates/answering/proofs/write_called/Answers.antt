-- `answering::write_called` meets its contract: in each of the three cases what the call says is its outcome, and an
-- answer's bytes are written. Assumes nothing.
use borrow.Author.Rules.{rules}
use Rattle.answering.specs.Answered.{said_as, said_refuses, said_ends, said_leaves, refused_clauses, answered_clauses}
use Rattle.laws.specs.Clauses.{of_two}
use mathlib.Core.Path.{ap, ◌∙◌}
use Rattle.std.specs.Prelude.{Ok}
use Rattle.refusals.specs.Refused.{refused_on}
use Rattle.answering.proofs.write_called.Goals as goal

pub returns-in_err-swapped : goal.returns-in_err-swapped
returns-in_err-swapped c = of_two (λ x0 x1. record { result = x0; buffer = x1 })
    ((
      (λ call d. refused_on _ _ c.from_residual.ensures.1 ∙ (refused_clauses c.args.fields.budget call
          (said_refuses (said_as d c.in_err-swapped.was)) _ c.requires.0).0),
      (λ call d.
          (refused_clauses c.args.fields.budget call (said_refuses (said_as d c.in_err-swapped.was)) _ c.requires.0).1),
    ))

pub invariant_of-budget : goal.invariant_of-budget
invariant_of-budget c =
    record { within = (said_ends (said_as c.requires.1.1 (c.in_ok-swapped.was ∙ ap Ok c.in-Ends.is))).1 }

pub returns-in-Ends : goal.returns-in-Ends
returns-in-Ends c = of_two (λ x0 x1. record { result = x0; buffer = x1 })
    ((
      (λ call d.
          (answered_clauses c.args.fields.budget call
          (said_ends (said_as d (c.in_ok-swapped.was ∙ ap Ok c.in-Ends.is))).0 c.args.answer.now c.requires.0
          (search rules) c.new-w.ensures.1 c.write_ends.ensures c.close.ensures.result c.close.ensures.buffer).0),
      (λ call d.
          (search rules)
          ∙ (answered_clauses c.args.fields.budget call
          (said_ends (said_as d (c.in_ok-swapped.was ∙ ap Ok c.in-Ends.is))).0 c.args.answer.now c.requires.0
          (search rules) c.new-w.ensures.1 c.write_ends.ensures c.close.ensures.result c.close.ensures.buffer).1),
    ))

-- the rows have room where there is an answer of rank 3 or 4
pub invariant_of-loaded : goal.invariant_of-loaded
invariant_of-loaded c =
    let left = said_leaves (said_as c.requires.1.1 (c.in_ok-swapped.was ∙ ap Ok c.in-Left.is)) in
    record { room = left.4.rows_fit_holds.m_fits }

pub invariant_of-budget-in-Left : goal.invariant_of-budget-in-Left
invariant_of-budget-in-Left c =
    let left = said_leaves (said_as c.requires.1.1 (c.in_ok-swapped.was ∙ ap Ok c.in-Left.is)) in
    record { within = left.4.spent }

pub write_left-requires : goal.write_left-requires
write_left-requires c =
    let left = said_leaves (said_as c.requires.1.1 (c.in_ok-swapped.was ∙ ap Ok c.in-Left.is)) in
    (left.2, left.3, (left.0, left.4))

pub returns-in-Left : goal.returns-in-Left
returns-in-Left c = of_two (λ x0 x1. record { result = x0; buffer = x1 })
    ((
      (λ call d.
          let left = said_leaves (said_as d (c.in_ok-swapped.was ∙ ap Ok c.in-Left.is)) in
          (answered_clauses c.args.fields.budget call left.1 c.args.answer.now c.requires.0
          (search rules) c.new-w-in-Left.ensures.1
          (c.write_left.ensures left.0 left.4) c.close-in-Left.ensures.result c.close-in-Left.ensures.buffer).0),
      (λ call d.
          let left = said_leaves (said_as d (c.in_ok-swapped.was ∙ ap Ok c.in-Left.is)) in
          let writes = c.write_left.ensures left.0 left.4 in
          let same = writes.same in
          (search rules)
          ∙ (answered_clauses c.args.fields.budget call left.1 c.args.answer.now c.requires.0 (search rules)
          c.new-w-in-Left.ensures.1 writes c.close-in-Left.ensures.result c.close-in-Left.ensures.buffer).1),
    ))
