-- `Carried::entry_marks` meets its contract.
use Rattle.writing.specs.Asked.{numbers_inside}
use Rattle.writing.proofs.Carried.entry_marks.Goals as goal

pub mark_list-requires : goal.mark_list-requires
mark_list-requires c =
    let h = c.args.self.standing in
    rw (c.lists.ensures.0, c.lists.ensures.1, c.facets.ensures.0)
    (c.requires, numbers_inside h.listed _ c.args.k h.each c.requires)

pub returns : goal.returns
returns c =
    rw (
      c.lists.ensures.0,
      c.lists.ensures.1,
      c.facets.ensures.0,
      c.facets.ensures.1,
      c.facets.ensures.2,
    ) at c.mark_list.ensures
