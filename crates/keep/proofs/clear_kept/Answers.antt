-- `keep::clear_kept` meets its contract. Assumes nothing.
use Rattle.keep.specs.Cleared.{cleared_within, cleared_keeps}
use Rattle.keep.proofs.clear_kept.Goals as goal

pub returns : goal.returns
returns c =
    let e1 = c.clear in
    let e2 = c.clear-2 in
    let e3 = c.clear-3 in
    record {
      within =
          cleared_within c.args.layout c.args.ws.now e1.new.s e2.new.s e3.new.s c.requires e1.ensures e2.ensures
          e3.ensures;
      keeps =
          cleared_keeps c.args.layout c.args.ws.now e1.new.s e2.new.s e3.new.s c.requires e1.ensures e2.ensures
          e3.ensures;
    }
