-- `seen` meets its contract: the part that is lent holds the sets seen.
use Rattle.orbits.proofs.Laws.{seen_part, lent_room}
use Rattle.orbits.proofs.seen.Goals as goal

pub invariant_of-result : goal.invariant_of-result
invariant_of-result c = record {
  ascends = (
    lent_room c.args.known c.args.ws.now c.requires.0,
    rw (seen_part c.args.known c.args.ws.now c.requires.0) c.requires.1,
  );
}

pub returns : goal.returns
returns c = seen_part c.args.known c.args.ws.now c.requires.0
