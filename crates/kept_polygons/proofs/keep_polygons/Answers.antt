-- `kept_polygons::keep_polygons` meets its contract. Assumes nothing.
use native.Mathlib.Omega.{arith}
use lib.ListN.{length, length-map}
use Rattle.layout.specs.Keeps.{ridge_codes}
use Rattle.keep.specs.Storing.{beside_take}
use Rattle.keep.specs.AreasHold.{KeptWritten}
use Rattle.keep.specs.Adding.{areas_hold_with}
use Rattle.keep.specs.Rooms.{room_ridges}
use Rattle.kept_polygons.specs.Whole.{next_vertices, vertex_small, source_then, facets_room, polygons_within}
use Rattle.kept_polygons.specs.Whole.{polygons_more}
use Rattle.kept_polygons.proofs.keep_polygons.Goals as goal

pub store_ridges-requires : goal.store_ridges-requires
store_ridges-requires c =
    let vs = c.vertices_of-vertices.result.items in
    let holds = rw c.get.ensures at c.vertices_of-vertices.ensures in
    let N = length (next_vertices c.args.n c.args.layout c.args.ws.now) in
    let inner = c.requires.3.1 in
    let keeps = c.requires.3.2 in
    let ridges = c.requires.3.3 in
    let l = c.requires.3.4 in
    let room = c.requires.3.5 in
    let f = keeps.fits in (
      omega (arith, f.ridge_room),
      omega (arith, f.place_room, c.requires.1),
      c.requires.2,
      (
        N,
        c.args.rows.count,
        c.args.rows.bytes.now,
        inner,
        l,
        room_ridges (areas_hold_with keeps ridges) room.small (length inner) (omega (
          arith,
          room.orbit_room,
          keeps.orbits,
          length-map c.requires.3.0 ridge_codes,
        )) room.ridge_room,
        vertex_small c.args.n c.args.layout c.args.rows.count inner c.args.level c.args.rows.bytes.now c.args.at
            c.args.ws.now vs holds c.requires.0 l c.requires.2 c.requires.1,
      ),
    )

pub keep_facets-requires : goal.keep_facets-requires
keep_facets-requires c =
    let vs = c.vertices_of-vertices.result.items in
    let holds = rw c.get.ensures at c.vertices_of-vertices.ensures in
    let N = length (next_vertices c.args.n c.args.layout c.args.ws.now) in
    let inner = c.requires.3.1 in
    let keeps = c.requires.3.2 in
    let ridges = c.requires.3.3 in
    let l = c.requires.3.4 in
    let room = c.requires.3.5 in
    let one = c.store_ridges.ensures N c.args.rows.count c.args.rows.bytes.now inner l in (
      c.requires.1,
      room.orbit_room,
      room.facet_room,
      (
        N,
        inner,
        source_then c.args.n c.args.layout c.args.rows.count inner c.args.level c.args.rows.bytes.now
            c.args.at c.args.ws.now vs holds c.requires.0 l c.requires.2 c.requires.1 keeps ridges one,
        facets_room c.args.n c.args.layout c.args.rows.count inner c.args.level c.args.rows.bytes.now c.args.at
            c.args.ws.now vs holds c.requires.0 l c.requires.2 c.requires.1 keeps ridges one room,
      ),
    )

pub returns : goal.returns
returns c =
    let vs = c.vertices_of-vertices.result.items in
    let holds = rw c.get.ensures at c.vertices_of-vertices.ensures in
    let N = length (next_vertices c.args.n c.args.layout c.args.ws.now) in
    let inner = c.requires.3.1 in let keeps = c.requires.3.2 in let ridges = c.requires.3.3 in let l = c.requires.3.4 in
    let one = c.store_ridges.ensures N c.args.rows.count c.args.rows.bytes.now inner l in
    let near : KeptWritten c.args.layout c.args.ws.now c.keep_facets.new.ws =
    polygons_within c.args.n c.args.layout c.args.rows.count inner c.args.level c.args.rows.bytes.now c.args.at
    c.args.ws.now vs holds c.requires.0 l c.requires.2 c.requires.1 keeps ridges one (c.keep_facets.ensures N
    inner (source_then c.args.n c.args.layout c.args.rows.count inner c.args.level c.args.rows.bytes.now
    c.args.at c.args.ws.now vs holds c.requires.0 l c.requires.2 c.requires.1 keeps ridges one)) in
    record {
      layout = c.one_more.ensures;
      within = (beside_take near 2048 keeps.fits.orbit_room, near);
      keeps = λ kept inner i left keeps ridges l is-orbit answers.
          let one = c.store_ridges.ensures N c.args.rows.count c.args.rows.bytes.now inner l in
          let two = c.keep_facets.ensures N inner
          (source_then c.args.n c.args.layout c.args.rows.count inner c.args.level c.args.rows.bytes.now c.args.at
          c.args.ws.now vs holds c.requires.0 l c.requires.2 c.requires.1 keeps ridges one) in
          rw c.one_more.ensures (polygons_more c.args.n c.args.layout c.args.rows.count inner c.args.level
          c.args.rows.bytes.now c.args.at c.args.ws.now vs holds c.requires.0 l c.requires.2 c.requires.1 keeps
          ridges one two c.requires.3.5.facet_room c.requires.3.5.orbit_room left i is-orbit answers);
    }
