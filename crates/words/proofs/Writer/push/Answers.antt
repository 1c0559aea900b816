-- `Writer::push` meets its contract. Assumes nothing.
use Rattle.std.proofs.Common.{refl, ◌<◌, ◌+◌, arith, length}
use Rattle.words.proofs.Laws.{no_cursor, no_word, a_word}
use Rattle.words.specs.Wrote.{wrote_word}
use Rattle.words.proofs.Writer.push.Goals.{else-at-n-via-then-at-n+else-n-at-ge4, else-at-n-via-else-at-n}
use Rattle.words.proofs.Writer.push.Goals as goal

pub returns-then-n-at-ge4 : goal.returns-then-n-at-ge4
returns-then-n-at-ge4 c =
    let w = a_word _ _ _ c.in-Some.at c.args.v c.in-Some.is (omega arith) c.put.ensures in
    record { cursor = w.0; buffer = w.1; writes = record { same = refl; wrote = wrote_word _ _ _ _ _ w.0 w.1 } }

pub returns-else-at-n : goal.returns-else-at-n
returns-else-at-n c =
    let short : length c.args.self.now.buffer.now < c.in-Some.at + 4 = elim c.else-at-n.branch [
      | else-at-n-via-then-at-n+else-n-at-ge4 w ↦ omega arith
      | else-at-n-via-else-at-n w ↦ omega arith
    ] in
    let w = no_word _ _ _ c.args.v c.in-Some.is short in
    record { cursor = w.0; buffer = w.1; writes = record { same = refl; wrote = wrote_word _ _ _ _ _ w.0 w.1 } }

pub returns-in_default : goal.returns-in_default
returns-in_default c =
    let w = no_cursor _ _ c.args.v c.in_default.is in
    record { cursor = w.0; buffer = w.1; writes = record { same = refl; wrote = wrote_word _ _ _ _ _ w.0 w.1 } }
