-- `tallies::tally_orbits` meets its contract: a turn counts one orbit more (`tallied_turn`), and its weight is no
-- more than `add_orbit` asks for (`weight_small`).
use mathlib.Core.Path.{refl}
use Prim.Native.Nat.{◌*◌, ◌≤◌}
use native.Mathlib.Omega.{arith}
use borrow.Author.Rules.{rules}
use Rattle.rows.specs.Rows.{rows_in, row_at}
use Rattle.tallies.specs.Counts.{most_weight}
use Rattle.tallies.proofs.Moving.{tallied_start, tallied_turn, lent_fits, weight_small, rows_some}
use Rattle.tallies.proofs.tally_orbits.Goals as goal

pub loop-i-init : goal.loop-i-init
loop-i-init c =
    let some = rows_some c.args.n c.args.whole c.requires.0 in
    rw c.new.ensures (
      omega arith,
      tallied_start c.args.n c.args.whole.count (row_at c.args.n 0 c.args.whole.globals.now) c.args.whole.full.n
          (rows_in c.args.whole.full.n c.args.whole.full.rows.count c.args.whole.full.rows.bytes.now) c.args.ws.now
          some.0 some.1 c.requires.2 _ _ refl refl,
    )

pub add_orbit-requires : goal.add_orbit-requires
add_orbit-requires c =
    let l = c.loop-i in let t = c.loop-i-test.true in let some = rows_some c.args.n c.args.whole c.requires.0 in
    let small : c.from.result * c.from-in-loop-i.result ≤ most_weight = rw (c.from.ensures, c.from-in-loop-i.ensures)
    (weight_small c.args.whole.count c.get-in-loop-i.result c.requires.0.small_count c.get-in-loop-i.type_inv) in (
      c.requires.0.some_row,
      c.requires.0.few_rows,
      lent_fits c.args.n c.args.whole.count (row_at c.args.n 0 c.args.whole.globals.now) c.args.whole.full.n (rows_in
          c.args.whole.full.n c.args.whole.full.rows.count c.args.whole.full.rows.bytes.now) c.args.ws.now some.0 some.1
          c.requires.2 l.i _ _ l.ws _ _ l.invariant.1 (omega (arith, c.requires.1, t)),
      c.key_of-key.ensures.1,
      small,
    )

pub loop-i-preserved : goal.loop-i-preserved
loop-i-preserved c =
    let l = c.loop-i in let t = c.loop-i-test.true in let some = rows_some c.args.n c.args.whole c.requires.0 in
    let small : c.from.result * c.from-in-loop-i.result ≤ most_weight = rw (c.from.ensures, c.from-in-loop-i.ensures)
    (weight_small c.args.whole.count c.get-in-loop-i.result c.requires.0.small_count c.get-in-loop-i.type_inv) in (
      omega (arith, t),
      tallied_turn c.args.n c.args.whole.count (row_at c.args.n 0 c.args.whole.globals.now) c.args.whole.full.n
          (rows_in c.args.whole.full.n c.args.whole.full.rows.count c.args.whole.full.rows.bytes.now) c.args.ws.now
          some.0 some.1 c.requires.2 l.i _ _ l.ws _ _ l.invariant.1
          (omega (arith, c.requires.1, t)) _ c.get-in-loop-i.result _
          (c.from.result * c.from-in-loop-i.result) c.get.ensures c.get-in-loop-i.ensures c.key_of-key.ensures.0
          (rw (c.from.ensures, c.from-in-loop-i.ensures) refl) small _ _ _ _ _ c.add_orbit.ensures (search rules),
    )
