-- `mark_of` meets its contract.
use native.Mathlib.Omega.{arith}
use Rattle.tallies.proofs.Laws.{end_within, unmarked_none, marked_last, unmarked_other}
use Rattle.tallies.proofs.mark_of.Goals as goal

pub returns-then-end-eq0 : goal.returns-then-end-eq0
returns-then-end-eq0 c =
    unmarked_none c.args.marks.bytes.now c.args.marks.count c.args.key c.first_from-end.result c.args.marks.ascends.1
    c.first_from-end.ensures c.if-end-eq0.true

pub overflow_mul-end : goal.overflow_mul-end
overflow_mul-end c =
    omega (
      arith,
      end_within c.args.marks.bytes.now c.args.marks.count c.args.key c.first_from-end.result
          c.args.marks.ascends.1 c.first_from-end.ensures,
    )

pub get-last-requires : goal.get-last-requires
get-last-requires c =
    omega (
      arith,
      end_within c.args.marks.bytes.now c.args.marks.count c.args.key c.first_from-end.result
          c.args.marks.ascends.1 c.first_from-end.ensures,
      c.if-end-eq0.false,
    )

pub returns-then-last-key : goal.returns-then-last-key
returns-then-last-key c =
    marked_last c.args.marks.bytes.now c.args.marks.count c.args.key c.first_from-end.result c.args.marks.ascends.1
    c.first_from-end.ensures c.get-last.result c.if-end-eq0.false c.get-last.ensures c.if-last-key.true

pub returns : goal.returns
returns c =
    unmarked_other c.args.marks.bytes.now c.args.marks.count c.args.key c.first_from-end.result c.args.marks.ascends.1
    c.first_from-end.ensures c.get-last.result c.if-end-eq0.false c.get-last.ensures c.if-last-key.false
