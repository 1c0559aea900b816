-- `tallies::move_together` meets its contract: the marks lie behind the orbits and stay (`marks_asked`). An orbit
-- whose tally is 2 or more is moved (`moved_kept`), and another is passed (`moved_past`).
use mathlib.Core.Path.{ap, ◌∙◌}
use Prim.Native.Nat.{ℕ}
use native.Mathlib.Omega.{arith}
use lib.ListN.{drop}
use Rattle.definitions.specs.Orbits.{set_image}
use Rattle.laws.specs.Sets.{set_number, vertices_of}
use Rattle.words.specs.Words.{words}
use Rattle.rows.specs.Rows.{row_at}
use Rattle.tallies.specs.Meaning.{sums_in}
use Rattle.tallies.proofs.Moving.{moved_start, moved_kept, moved_past, marks_asked, below_asked, sum_here}
use Rattle.tallies.proofs.move_together.Goals as goal
use Rattle.tallies.proofs.move_together.Goals.{then-sum_of-ge2, else-sum_of-ge2}

pub loop-i-init : goal.loop-i-init
loop-i-init c = (
  omega arith,
  moved_start c.args.n (row_at c.args.n 0 c.args.whole.globals.now)
      (words 4 (drop 2048 c.args.ws.now) c.args.tallies.now.known) (sums_in c.args.tallies.now.tallies.items)
      c.args.ws.now c.args.orbits c.requires.1 (omega (arith, c.requires.2)),
)

pub invariant_of-marks : goal.invariant_of-marks
invariant_of-marks c =
    let l = c.loop-i in
    record {
      ascends = marks_asked l.ws c.args.ws.now c.args.tallies.now.known l.invariant.1.long l.invariant.1.behind
          c.requires.2 c.requires.3;
    }

pub sum_of-requires : goal.sum_of-requires
sum_of-requires c = let l = c.loop-i in
    rw c.as_slice.ensures.value (
      c.key_of-key.ensures.1,
      below_asked l.ws c.args.ws.now c.args.tallies.now.known _
          (omega (arith, l.invariant.1.long, c.requires.2)) l.invariant.1.behind c.requires.4,
    )

pub loop-i-preserved : goal.loop-i-preserved
loop-i-preserved c = let l = c.loop-i in
    let key = c.key_of-key.ensures.0
    ∙ ap (λ (x : ℕ). set_number (set_image (vertices_of c.args.n x) (row_at c.args.n 0 c.args.whole.globals.now)))
    c.get.ensures in
    let sum = sum_here l.ws c.args.ws.now c.args.tallies.now.known _ (sums_in c.args.tallies.now.tallies.items) _
    (omega (arith, l.invariant.1.long, c.requires.2)) l.invariant.1.behind
    (rw c.as_slice.ensures.value at c.sum_of.ensures) in (
      omega arith,
      elim c.if-sum_of-ge2.branch [
        | then-sum_of-ge2 w ↦ rw (w.kept-is, w.ws-is, w.move_orbit.ensures)
            (moved_kept c.args.n (row_at c.args.n 0 c.args.whole.globals.now)
            (words 4 (drop 2048 c.args.ws.now) c.args.tallies.now.known)
            (sums_in c.args.tallies.now.tallies.items) c.args.ws.now c.args.orbits c.requires.1 (omega (
              arith,
              c.requires.2,
            )) l.i l.kept l.ws l.invariant.1 (omega arith) _ key _ sum w.if-sum_of-ge2.true)
        | else-sum_of-ge2 w ↦
            rw (w.kept-is, w.ws-is) (moved_past c.args.n (row_at c.args.n 0 c.args.whole.globals.now)
            (words 4 (drop 2048 c.args.ws.now) c.args.tallies.now.known) (sums_in c.args.tallies.now.tallies.items)
            c.args.ws.now c.args.orbits c.requires.1 (omega (arith, c.requires.2)) l.i l.kept l.ws l.invariant.1
            (omega arith) _ key _ sum (omega (arith, w.if-sum_of-ge2.false)))
      ],
    )
