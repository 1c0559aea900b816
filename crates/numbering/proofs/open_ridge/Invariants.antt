-- `open_ridge` meets its contract. The loop's invariant: the images under the first i rows have joined.
use Rattle.numbering.proofs.Images.{Opening}
use Rattle.numbering.proofs.open_ridge.Given as goal

abbrev pub invariant-loop-i : goal.invariant-loop-i
invariant-loop-i l = Opening l.rows.bytes.now l.rows.count l.key l.number l.initial.marks l.marks l.count l.i
