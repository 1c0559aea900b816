-- `polyhedra::entry_facets` meets its contract.
use Rattle.writing.specs.Asked.{numbers_inside}
use Rattle.polyhedra.proofs.entry_facets.Goals as goal

pub list_marks-requires : goal.list_marks-requires
list_marks-requires c =
    let h = c.args.left.standing in
    rw (c.lists.ensures.0, c.lists.ensures.1) (c.requires, numbers_inside h 1024 c.args.k h.few_facets c.requires)

pub returns : goal.returns
returns c = rw (c.lists.ensures.0, c.lists.ensures.1) at c.list_marks.ensures
