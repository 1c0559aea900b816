-- `kept_polygons::keep_facet` meets its contract. Assumes nothing.
use mathlib.Core.Path.{sym, ap, ◌∙◌}
use mathlib.Core.Logic.{inr}
use mathlib.Core.Bool.{Bool}
use mathlib.Core.List.{List}
use native.Mathlib.Omega.{arith}
use lib.ListN.{length, length-drop}
use Rattle.layout.specs.Keeps.{raised}
use Rattle.keep.specs.Storing.{room_fewer, room_beside}
use Rattle.left_edges.specs.Marked.{marked_codes}
use Rattle.left_edges.specs.Reading.{lent_tail}
use Rattle.kept_polygons.specs.Facets.{entry_at, codes_of, codes_many, marked_small, label_read, label_small}
use Rattle.kept_polygons.specs.Facets.{facet_stored}
use Rattle.kept_polygons.proofs.Laws.{behind_edges, behind_lists}
use Rattle.kept_polygons.proofs.keep_facet.Goals as goal

pub store_edges-requires : goal.store_edges-requires
store_edges-requires c =
    let inner = c.requires.5.1 in
    let src = c.requires.5.2 in
    let marks_are =
    (rw (lent_tail c.args.part.at c.args.ws.now) at c.mark_entry.ensures) c.requires.5.0 inner src.left in
    let few = ap (λ (r : List Bool). length (marked_codes r)) marks_are in
    let same = codes_many c.requires.5.0 c.args.part.rows.count c.args.part.rows.bytes.now inner
    c.args.part.vertices.now.items (entry_at c.args.part.level c.args.part.at c.args.ws.now c.args.k) in (
      omega (arith, c.requires.0.edge_room),
      room_fewer c.requires.5.3 _ (omega (arith, few, same)),
      λ x h t.
          marked_small src c.args.k c.requires.4 x h _ marks_are t,
    )

pub store_places-requires : goal.store_places-requires
store_places-requires c =
    let f = c.requires.0 in
    let src = c.requires.5.2 in
    let a = c.store_edges.ensures in
    let tail = behind_edges f c.requires.1 a in (
      omega (arith, f.place_room),
      c.requires.1,
      omega (arith, a.beside.long, length-drop c.args.part.at c.args.ws.now, src.left.leaves.room, src.inside),
      rw tail src.left.leaves.area,
      c.requires.4,
      rw tail (room_beside c.requires.5.4 a.beside
          (inr (omega (arith, f.edge_room, f.label_room, f.owner_room, f.ridge_room)))),
    )

pub raise-label-requires : goal.raise-label-requires
raise-label-requires c =
    let read =
    rw (behind_lists c.requires.0 c.requires.1 c.store_edges.ensures c.store_places.ensures) at c.get.ensures in (
      omega (arith, c.requires.3),
      λ g.
          label_small c.requires.5.2 c.args.k c.requires.4 c.get.result read (omega (arith, c.requires.3)) g,
    )

pub returns : goal.returns
unfolding codes_of
returns c = λ n inner src.
    let f = c.requires.0 in
    let a = c.store_edges.ensures in
    let q = c.store_places.ensures in
    let marks_are = (rw (lent_tail c.args.part.at c.args.ws.now) at c.mark_entry.ensures) n inner src.left in
    let read = rw (behind_lists f c.requires.1 a q) at c.get.ensures in
    facet_stored c.args.layout c.args.k c.raise-label.result _ _ c.args.ws.now _ _ _ _ f c.requires.2
    (omega (arith, c.requires.3, c.requires.4)) (omega arith)
    (c.raise-label.ensures
    ∙ ap (raised c.args.layout.facets) (sym (label_read src c.args.k c.requires.4 c.get.result read)))
    (rw marks_are at a) (rw (behind_edges f c.requires.1 a) at q) c.store_facet.ensures
