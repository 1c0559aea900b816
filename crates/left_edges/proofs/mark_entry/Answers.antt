-- `left_edges::mark_entry` meets its contract: a facet's images are marked, and none is left at the end. Assumes
-- nothing.
use mathlib.Core.Path.{◌≡◌, refl, subst, sym, ap, ◌∙◌}
use mathlib.Core.List.{List, [], map}
use Prim.Native.Nat.{ℕ}
use lib.ListN.{get_or}
use Rattle.laws.specs.Lists.{Mem, here, there}
use Rattle.rows.specs.Rows.{rows_in}
use Rattle.rows.specs.Marks.{marked}
use Rattle.rows.specs.Codes.{pair_code}
use Rattle.order.specs.Areas.{left_in}
use Rattle.layout.specs.Leaves.{lists_left}
use Rattle.left_edges.specs.Polygons.{images_of}
use Rattle.left_edges.specs.Reading.{entry_below, images_first, images_end}
use Rattle.left_edges.proofs.mark_entry.Goals as goal

pub loop-x-init : goal.loop-x-init
loop-x-init c = λ n inner l.
    let list = get_or (lists_left c.args.level c.args.s.now) c.args.k [] in
    let whole : left_in c.items-x-items.result
    ≡ list = rw (c.entries.ensures.1, c.entries.ensures.0) at c.items-x-items.ensures in
    let all = ap left_in c.into_iter-x-iterator.ensures.into_iter_gives ∙ whole in (
      λ y i. entry_below l c.args.k c.requires.3 y (subst (Mem y) all i),
      ap (λ (q : List ℕ). marked c.args.marks.now
          (map pair_code (images_of (rows_in n c.args.rows.count c.args.rows.bytes.now) inner q))) all,
    )

pub mark_facet-requires : goal.mark_facet-requires
mark_facet-requires c =
    let x = c.in-Some.x in
    let below = (c.loop-x.invariant c.requires.0 c.requires.1 c.requires.2).0 x
    (subst (Mem x) (sym c.in-Some.ensures.steps) (here refl)) in
    (c.requires.0, c.requires.1, c.requires.2, rw c.from.ensures below)

pub loop-x-preserved : goal.loop-x-preserved
loop-x-preserved c = λ n inner l.
    let x = c.in-Some.x in
    let p = c.loop-x.invariant n inner l in
    let below = p.0 x (subst (Mem x) (sym c.in-Some.ensures.steps) (here refl)) in
    let after = c.mark_facet.ensures n inner l (rw c.from.ensures below) in (
      λ y i. p.0 y (subst (Mem y) (sym c.in-Some.ensures.steps) (there i)),
      images_first (rows_in n c.args.rows.count c.args.rows.bytes.now) inner c.loop-x.marks x
          (left_in c.next.new.self) (rw c.from.ensures at after) c.in-Some.ensures.steps ∙ p.1,
    )

pub returns : goal.returns
returns c =
    λ n inner l.
    images_end (rows_in n c.args.rows.count c.args.rows.bytes.now) inner c.loop-x.marks c.in-None.ensures.steps.0
    ∙ (c.loop-x.invariant n inner l).1
