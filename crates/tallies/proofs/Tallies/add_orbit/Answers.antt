-- `Tallies::add_orbit` meets its contract.
use mathlib.Core.Path.{sym, ◌∙◌}
use Rattle.tallies.proofs.Columns.{listed_again}
use Rattle.tallies.proofs.Laws.{known_few, marks_up_holds, found_fits, count_added, count_opened}
use Rattle.tallies.proofs.Tallies.add_orbit.Goals as goal

pub invariant_of-marked : goal.invariant_of-marked
invariant_of-marked c =
    record { ascends = ((known_few _ _ _ _ _ c.requires.2).1, marks_up_holds _ _ _ _ _ c.requires.2) }

pub add_portion-requires : goal.add_portion-requires
add_portion-requires c =
    found_fits _ _ _ _ _ c.requires.2 c.args.key _ c.args.weight
    (sym (sym c.in-Some.is ∙ c.mark_of.ensures)) c.requires.4

pub returns-in-Some : goal.returns-in-Some
returns-in-Some c = let a = c.add_portion.ensures in
    listed_again _ _ _ _ _ a.known a.many a.images
    ∙ count_added c.args.whole.full.n c.args.key c.args.weight _ _ _ _ _ _ _ _
    (sym (sym c.in-Some.is ∙ c.mark_of.ensures)) a.sums

pub returns-in-None : goal.returns-in-None
returns-in-None c =
    count_opened c.args.whole.full.n c.args.key c.args.weight _ _ _ _ _ _ _
    (sym (sym c.in-None.is ∙ c.mark_of.ensures)) c.open.ensures
