-- `batches::write_records` meets its contract by the laws of Going: a turn writes one record more (`goes_on`), or it
-- has no room and the row is refused (`stops`). At the end no job is left (`ended`).
use mathlib.Core.Path.{refl, sym, ap, ◌∙◌}
use Prim.Native.Nat.{ℕ, ◌-◌}
use native.Mathlib.Omega.{arith}
use borrow.Author.Rules.{rules}
use lib.ListN.{length, take, drop, replicate}
use Rattle.refusals.specs.Refused.{outcome_of}
use Rattle.definitions.specs.Job.{buffer_of, alone}
use Rattle.batches.specs.Records.{record_in, recorded_as}
use Rattle.batches.specs.Going.{begun, long, lent_clear, back_long, length_inside, job_inside, job, stops, goes_on}
use Rattle.batches.specs.Going.{ended}
use Rattle.laws.specs.Clauses.{of_two}
use Rattle.batches.proofs.write_records.Goals as goal

pub loop-at-init : goal.loop-at-init
loop-at-init c = (refl, begun _ _ _ c.requires.0 c.requires.1)

pub get-requires : goal.get-requires
get-requires c = length_inside c.loop-at.invariant.1 (omega arith)

pub slice_bounds-write_record-end : goal.slice_bounds-write_record-end
slice_bounds-write_record-end c =
    let inside = (job_inside c.loop-at.invariant.1 c.get.result c.get.ensures (omega arith)).1 in
    search rules

pub slice_bounds-write_record-count-in-loop-at : goal.slice_bounds-write_record-count-in-loop-at
slice_bounds-write_record-count-in-loop-at c =
    let g = c.loop-at.invariant.1 in
    let size = long g in
    let inside = g.end_inside in
    search rules

pub slice_bounds-write_record-start-in-loop-at : goal.slice_bounds-write_record-start-in-loop-at
slice_bounds-write_record-start-in-loop-at c =
    let g = c.loop-at.invariant.1 in
    let size = long g in
    let inside = g.end_inside in
    search rules

pub write_record-requires : goal.write_record-requires
write_record-requires c = lent_clear c.loop-at.invariant.1

pub shape_of-records-in-Err : goal.shape_of-records-in-Err
shape_of-records-in-Err c =
    let whole = back_long c.loop-at.invariant.1 c.write_record.new.records c.write_record.auto.records in
    search rules

pub returns-in-Err : goal.returns-in-Err
unfolding recorded_as buffer_of
returns-in-Err c = of_two (λ x0 x1. record { result = x0; buffer = x1 })
    (let room = length c.args.records.now in
    let g = c.loop-at.invariant.1 in
    let lent = take (length c.loop-at.records - c.loop-at.end) (drop c.loop-at.end c.loop-at.records) in
    let one = job g c.get.result c.get.ensures in
    let same = c.loop-at.invariant.0 in
    let kept = c.write_record.auto.records in
    let none = stops g c.get.result c.get.ensures (omega arith) kept
    (c.write_record.ensures.result ∙ ap (λ (size : ℕ). recorded_as (record_in (length lent) (alone one size))) same)
    (c.write_record.ensures.buffer
    ∙ ap (λ (size : ℕ). buffer_of (length lent) (record_in (length lent) (alone one size))) same)
    _ (ap outcome_of c.in-Err.is) in
    let whole = back_long g c.write_record.new.records kept in (
      sym (ap recorded_as none),
      c.fill.ensures.after (λ y e. e)
          ∙ (ap (λ (k : ℕ). replicate k 0) whole ∙ sym (ap (buffer_of room) none)),
    ))

pub overflow_add-end : goal.overflow_add-end
overflow_add-end c =
    let g = c.loop-at.invariant.1 in
    let lent = take (length c.loop-at.records - c.loop-at.end) (drop c.loop-at.end c.loop-at.records) in
    let one = job g c.get.result c.get.ensures in
    let same = c.loop-at.invariant.0 in
    let inside = (goes_on g c.get.result c.get.ensures (omega arith) c.write_record.auto.records
    (c.write_record.ensures.result ∙ ap (λ (size : ℕ). recorded_as (record_in (length lent) (alone one size))) same)
    (c.write_record.ensures.buffer
    ∙ ap (λ (size : ℕ). buffer_of (length lent) (record_in (length lent) (alone one size))) same) _
    (ap outcome_of c.in-Ok.is)).0 in
    search rules

pub loop-at-preserved : goal.loop-at-preserved
loop-at-preserved c =
    let g = c.loop-at.invariant.1 in
    let lent = take (length c.loop-at.records - c.loop-at.end) (drop c.loop-at.end c.loop-at.records) in
    let one = job g c.get.result c.get.ensures in
    let same = c.loop-at.invariant.0 in
    let next = (goes_on g c.get.result c.get.ensures (omega arith) c.write_record.auto.records
    (c.write_record.ensures.result ∙ ap (λ (size : ℕ). recorded_as (record_in (length lent) (alone one size))) same)
    (c.write_record.ensures.buffer
    ∙ ap (λ (size : ℕ). buffer_of (length lent) (record_in (length lent) (alone one size))) same) _
    (ap outcome_of c.in-Ok.is)).1 in
    (c.write_record.auto.workspace ∙ same, next)

pub shape_of-records : goal.shape_of-records
shape_of-records c = let size = long c.loop-at.invariant.1 in search rules

pub returns : goal.returns
returns c = of_two (λ x0 x1. record { result = x0; buffer = x1 })
    (let all = ended c.loop-at.invariant.1 (omega arith) in (all.0, all.1))
