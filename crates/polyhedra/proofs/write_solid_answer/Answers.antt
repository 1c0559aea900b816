-- `polyhedra::write_solid_answer` meets its contract.
use Rattle.words.specs.Wrote.{writes_as}
use Rattle.polyhedra.specs.Solids.{solid_answer_from, solid_entry_from}
use Rattle.writing.specs.EdgesHeld.{parts_from, figured}
use Rattle.polyhedra.specs.SolidWritten.{answer_words_holds}
use Rattle.polyhedra.proofs.write_solid_answer.Goals as goal

pub returns : goal.returns
unfolding parts_from solid_answer_from solid_entry_from figured
returns c = record {
  same = c.write_parts.ensures.same;
  wrote = λ kept left. writes_as c.write_parts.ensures
      (answer_words_holds left.rows left.edges left.leaves left.images c.args.budget.whole c.args.budget.rest);
}
