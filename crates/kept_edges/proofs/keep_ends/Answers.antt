-- `kept_edges::keep_ends` meets its contract. Assumes nothing.
use mathlib.Core.Path.{◌≡◌}
use mathlib.Core.Bool.{cond}
use mathlib.Core.Logic.{inr}
use native.Mathlib.Omega.{arith}
use lib.Dec.{lit<}
use Rattle.keep.specs.Storing.{room_fewer, room_beside}
use Rattle.keep.specs.Short.{first_or_both, first_or_both_few, first_or_both_fitting}
use Rattle.kept_edges.specs.Edges.{ends_stored}
use Rattle.kept_edges.proofs.keep_ends.Goals as goal
use Rattle.kept_edges.proofs.keep_ends.Goals.{then-swapped, else-swapped}

pub store-requires : goal.store-requires
store-requires c =
    let many : c.if-swapped.many ≡ cond c.args.swapped 1 2 = elim c.if-swapped.branch [
      | then-swapped w ↦ rw w.if-swapped.true w.many-is
      | else-swapped w ↦ rw w.if-swapped.false w.many-is
    ] in
    let few = first_or_both_few c.args.swapped c.if-swapped.many c.end_code.result c.end_code-2.result many in (
      omega (arith, c.requires.2.ridge_room),
      room_fewer c.requires.3 _ few,
      first_or_both_fitting c.args.swapped
          c.if-swapped.many c.end_code.result c.end_code-2.result many 4 (omega arith) (omega arith),
    )

pub store-requires-2 : goal.store-requires-2
store-requires-2 c =
    let many : c.if-swapped.many ≡ cond c.args.swapped 1 2 = elim c.if-swapped.branch [
      | then-swapped w ↦ rw w.if-swapped.true w.many-is
      | else-swapped w ↦ rw w.if-swapped.false w.many-is
    ] in
    let few = first_or_both_few c.args.swapped c.if-swapped.many _ _ many in (
      omega (arith, c.requires.2.place_room),
      room_fewer
          (room_beside c.requires.4 c.store.ensures.beside (inr (omega (arith, c.requires.2.ridge_room)))) _ few,
      first_or_both_fitting c.args.swapped c.if-swapped.many _ _ many 2 (lit< tt) (lit< tt),
    )

pub returns : goal.returns
returns c =
    let many : c.if-swapped.many ≡ cond c.args.swapped 1 2 = elim c.if-swapped.branch [
      | then-swapped w ↦ rw w.if-swapped.true w.many-is
      | else-swapped w ↦ rw w.if-swapped.false w.many-is
    ] in
    let both = first_or_both c.args.swapped c.if-swapped.many in
    ends_stored c.args.layout c.args.swapped c.args.v c.args.w c.args.ws.now c.store.new.ws c.store-2.new.ws
    c.requires.2
    (rw (
      both c.end_code.result c.end_code-2.result many,
      c.end_code.ensures,
      c.end_code-2.ensures,
    ) at c.store.ensures) (rw (both _ _ many) at c.store-2.ensures)
