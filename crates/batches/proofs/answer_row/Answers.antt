-- `batches::answer_row` meets its contract: a row that cannot be cut is refused with 26, and any other has its
-- records. Assumes nothing.
use mathlib.Core.Path.{◌≡◌, sym, ap, ◌∙◌}
use mathlib.Core.Bool.{true, false}
use Prim.Native.Nat.{ℕ}
use borrow.Author.Rules.{rules}
use lib.ListN.{length, replicate}
use Rattle.definitions.specs.Job.{buffer_of}
use Rattle.definitions.specs.Batch.{batch}
use Rattle.batches.specs.Records.{recorded_as, not_cut_batch}
use Rattle.laws.specs.Clauses.{of_two}
use Rattle.batches.proofs.answer_row.Goals as goal

pub write_records-requires : goal.write_records-requires
write_records-requires c =
    let cut : c.is_cut.result ≡ true = search rules in
    (sym c.is_cut.ensures ∙ cut, c.fill.ensures.after (λ y e. e) ∙ ap (λ (k : ℕ). replicate k 0) (sym c.fill.auto.self))

pub returns-then-is_cut : goal.returns-then-is_cut
returns-then-is_cut c = of_two (λ x0 x1. record { result = x0; buffer = x1 })
    (let row = c.args.row.now in
    let size = length c.args.workspace.now in
    let same = c.fill.auto.self in (
      c.write_records.ensures.result ∙ ap (λ (room : ℕ). recorded_as (batch row size room)) same,
      c.write_records.ensures.buffer ∙ ap (λ (room : ℕ). buffer_of room (batch row size room)) same,
    ))

pub returns : goal.returns
unfolding recorded_as buffer_of
returns c = of_two (λ x0 x1. record { result = x0; buffer = x1 })
    (let row = c.args.row.now in
    let size = length c.args.workspace.now in
    let room = length c.args.records.now in
    let not : c.is_cut.result ≡ false = search rules in
    let none = not_cut_batch row size room (sym c.is_cut.ensures ∙ not) in
    (sym (ap recorded_as none), c.fill.ensures.after (λ y e. e) ∙ sym (ap (buffer_of room) none)))
