-- `writing::write_answer` meets its contract.
use Rattle.words.specs.Wrote.{writes_as}
use Rattle.writing.specs.EdgesHeld.{parts_from, answer_from, entry_from, figured, polygon_from}
use Rattle.writing.specs.Written.{answer_words_holds}
use Rattle.writing.proofs.write_answer.Goals as goal

pub returns : goal.returns
unfolding parts_from answer_from entry_from figured polygon_from
returns c = record {
  same = c.write_parts.ensures.same;
  wrote = λ kept left. writes_as c.write_parts.ensures
      (answer_words_holds left.rows left.edges left.leaves c.args.budget.whole c.args.budget.rest);
}
