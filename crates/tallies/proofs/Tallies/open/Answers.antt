-- `Tallies::open` meets its contract.
use mathlib.Core.Path.{◌∙◌}
use native.Mathlib.Omega.{arith}
use Rattle.tallies.proofs.Columns.{listed_more}
use Rattle.tallies.proofs.Laws.{tally_small, known_few, marks_room, merge_new, tally_opened}
use Rattle.tallies.proofs.Tallies.open.Goals as goal

pub overflow_cast-len : goal.overflow_cast-len
overflow_cast-len c = omega (arith, tally_small _ _ _ _ _ c.requires.2)

pub gather_marks-new-requires : goal.gather_marks-new-requires
gather_marks-new-requires c = rw c.len.ensures.value (c.requires.1, tally_small _ _ _ _ _ c.requires.2)

pub merge-requires : goal.merge-requires
merge-requires c = let g = c.gather_marks-new in
    rw c.as_slice.ensures.value (
      (marks_room c.args.whole.full.n c.args.whole.full.rows.count c.args.key c.args.whole.full.rows.bytes.now _ _
          _ _ _ c.requires.2 c.requires.0 c.requires.1 g.result.items (rw c.len.ensures.value at g.ensures)).0,
      merge_new c.args.whole.full.n c.args.whole.full.rows.count c.args.key c.args.whole.full.rows.bytes.now _ _ _
          _ _ c.requires.2 c.requires.0 c.requires.1 g.result.items (rw c.len.ensures.value at g.ensures),
    )

pub nonzero_div-weight : goal.nonzero_div-weight
nonzero_div-weight c =
    let g = c.gather_marks-new in
    omega (
      arith,
      c.len-many.ensures.value,
      (marks_room c.args.whole.full.n c.args.whole.full.rows.count c.args.key c.args.whole.full.rows.bytes.now _ _ _ _
          _ c.requires.2 c.requires.0 c.requires.1 g.result.items (rw c.len.ensures.value at g.ensures)).1,
    )

pub overflow_add-self : goal.overflow_add-self
overflow_add-self c = omega (arith, (known_few _ _ _ _ _ c.requires.2).0, c.len-many.ensures.fits)

pub push-requires : goal.push-requires
push-requires c = (omega arith, tally_small _ _ _ _ _ c.requires.2)

pub returns : goal.returns
returns c = let g = c.gather_marks-new in
    rw (c.push.ensures.items, c.len-many.ensures.value)
    (listed_more _ _ c.args.self.now.tallies.items _ (tally_small _ _ _ _ _ c.requires.2)
    ∙ tally_opened c.args.whole.full.n c.args.whole.full.rows.count c.args.key c.args.whole.full.rows.bytes.now _ _ _
    _ _ c.requires.2 c.requires.0 c.requires.1 g.result.items (rw c.len.ensures.value at g.ensures) c.args.weight _
    (rw c.as_slice.ensures.value at c.merge.ensures))
