-- `filter::note_shared` meets its contract: a turn notes what one list more shares with the one before it
-- (`noting_more`), which is a number of four bytes (`note_fits`).
use Prim.Native.Nat.{◌-◌}
use native.Mathlib.Omega.{arith}
use Rattle.order.specs.Areas.{lists_of}
use Rattle.filter.specs.Noted.{noting_more, note_fits}
use Rattle.filter.proofs.note_shared.Goals as goal

pub loop-k-preserved : goal.loop-k-preserved
loop-k-preserved c =
    let l = c.loop-k in
    noting_more (lists_of c.args.lists.area c.args.lists.bytes.now) _ _ l.notes l.k c.shared_items.result l.invariant
    (omega arith) c.shared_items.ensures

pub overflow_cast-notes : goal.overflow_cast-notes
overflow_cast-notes c =
    let l = c.loop-k in
    let small = note_fits c.args.lists.area c.args.lists.bytes.now c.args.lists.holding (l.k - 1) (omega arith)
    c.shared_items.result c.shared_items.ensures in
    record { fits = omega (arith, small) }
