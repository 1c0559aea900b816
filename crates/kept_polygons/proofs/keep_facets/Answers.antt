-- `kept_polygons::keep_facets` meets its contract: the inner call's part lies behind what is written and stays
-- (`source_kept`). A turn stores one facet more (`so_far_next`), and at the end all are stored (`so_far_end`).
use Prim.Native.Nat.{◌≤◌}
use native.Mathlib.Omega.{arith}
use Rattle.keep.specs.AreasHold.{fits_after}
use Rattle.kept_polygons.specs.Facets.{source_kept, so_far_none, so_far_next, so_far_rooms, so_far_end}
use Rattle.kept_polygons.proofs.keep_facets.Goals as goal

pub loop-k-init : goal.loop-k-init
loop-k-init c = (
  omega arith,
  λ n inner src. so_far_none c.args.layout n c.args.part.rows.count inner c.args.part.level
      c.args.part.rows.bytes.now c.args.part.at c.args.part.vertices.now.items c.args.ws.now,
)

pub keep_facet-requires : goal.keep_facet-requires
keep_facet-requires c =
    let p = c.loop-k in
    let f = c.requires.3.3.areas_held.fits in
    let order : c.args.layout.edges
    ≤ c.args.layout.end = (omega (arith, f.edge_room, f.label_room, f.owner_room, f.ridge_room, f.place_room)) in
    let n = c.requires.3.0 in
    let inner = c.requires.3.1 in
    let src = c.requires.3.2 in
    let g = p.invariant.1 n inner src in
    let rooms = so_far_rooms c.args.layout n c.args.part.rows.count inner c.args.part.level c.args.part.rows.bytes.now
    c.args.part.at c.args.part.vertices.now.items c.args.ws.now g
    (omega arith) order c.requires.0 c.requires.3.3 in (
      fits_after {layout = c.args.layout} f g.stored.within,
      c.requires.0,
      c.requires.1,
      c.requires.2,
      omega arith,
      (n, inner, source_kept c.args.layout order c.requires.0 g.stored.within src, rooms.0, rooms.1),
    )

pub loop-k-preserved : goal.loop-k-preserved
loop-k-preserved c =
    let p = c.loop-k in
    let f = c.requires.3.3.areas_held.fits in
    let order : c.args.layout.edges
    ≤ c.args.layout.end = (omega (arith, f.edge_room, f.label_room, f.owner_room, f.ridge_room, f.place_room)) in (
      omega arith,
      λ n inner src. let g = p.invariant.1 n inner src in
          so_far_next c.args.layout n c.args.part.rows.count inner c.args.part.level c.args.part.rows.bytes.now
          c.args.part.at c.args.part.vertices.now.items c.args.ws.now g
          (omega (arith, c.loop-k-test.true)) order c.requires.0
          (c.keep_facet.ensures n inner (source_kept c.args.layout order c.requires.0 g.stored.within src)),
    )

pub returns : goal.returns
returns c =
    λ n inner src. let p = c.loop-k in let f = c.requires.3.3.areas_held.fits in let order : c.args.layout.edges
    ≤ c.args.layout.end = (omega (arith, f.edge_room, f.label_room, f.owner_room, f.ridge_room, f.place_room)) in
    so_far_end c.args.layout n c.args.part.rows.count inner c.args.part.level c.args.part.rows.bytes.now
    c.args.part.at c.args.part.vertices.now.items c.args.ws.now (p.invariant.1 n inner src) (omega arith)
