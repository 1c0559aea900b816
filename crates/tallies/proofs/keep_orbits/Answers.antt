-- `keep_orbits` meets its contract.
use native.Mathlib.Omega.{arith}
use Rattle.tallies.proofs.Moving.{marks_few, marks_ascending, marks_below, all_kept}
use Rattle.laws.specs.Clauses.{of_two}
use Rattle.tallies.proofs.keep_orbits.Goals as goal

pub move_together-requires : goal.move_together-requires
move_together-requires c = let w = c.tally_orbits-tallies in
    let long = c.tally_orbits-tallies.auto.ws in (
      c.requires.0.numbered,
      c.requires.1,
      omega (
        arith,
        marks_few c.args.n c.args.orbits c.args.whole c.args.ws.now
            c.requires.0 c.requires.1 c.requires.2 w.ensures.light _ _ w.new.ws _ _ w.ensures.counted w.ensures.front,
        c.requires.2,
        long,
      ),
      marks_ascending c.args.n c.args.orbits c.args.whole c.args.ws.now c.requires.0
          c.requires.1 c.requires.2 w.ensures.light _ _ w.new.ws _ _ w.ensures.counted w.ensures.front,
      marks_below c.args.n c.args.orbits c.args.whole c.args.ws.now c.requires.0 c.requires.1 c.requires.2
          w.ensures.light _ _ w.new.ws _ _ w.ensures.counted w.ensures.front,
    )

pub returns : goal.returns
returns c = of_two (λ x0 x1. record { few = x0; kept = x1 })
    (let w = c.tally_orbits-tallies in let m = c.move_together in (
      m.ensures.few,
      all_kept c.args.n c.args.orbits c.args.whole c.args.ws.now c.requires.0 c.requires.1
          c.requires.2 w.ensures.light _ _ w.new.ws _ _ w.ensures.counted w.ensures.front _ _ m.ensures.kept,
    ))
