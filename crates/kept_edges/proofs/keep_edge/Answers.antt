-- `kept_edges::keep_edge` meets its contract. Assumes nothing.
use mathlib.Core.Path.{ap, ◌∙◌}
use mathlib.Core.List.{List}
use Prim.Native.Nat.{ℕ}
use native.Mathlib.Omega.{arith}
use lib.ListN.{get_or}
use Rattle.laws.specs.Sets.{vertices_of}
use Rattle.keep.specs.Storing.{beside_take}
use Rattle.keep.specs.AreasHold.{KeptWritten}
use Rattle.keep.specs.Short.{one_fitting}
use Rattle.kept_edges.specs.Edges.{end_rooms, edge_room_holds, edge_within, edge_more}
use Rattle.kept_edges.proofs.Laws.{first_two}
use Rattle.kept_edges.proofs.keep_edge.Goals as goal

pub second-w-requires : goal.second-w-requires
second-w-requires c = (first_two c.get.result c.vertices_of-vertices.ensures (rw c.get.ensures c.requires.1)).0

pub keep_ends-requires : goal.keep_ends-requires
keep_ends-requires c =
    let f = first_two c.get.result c.vertices_of-vertices.ensures (rw c.get.ensures c.requires.1) in
    let r = end_rooms c.requires.2.1 c.requires.2.2 c.requires.2.3 in (
      omega (arith, c.requires.0, f.1, ap (λ (l : List ℕ). get_or l 0 0) c.deref.ensures.0),
      omega (arith, c.requires.0, f.2, c.second-w.ensures),
      c.requires.2.1.fits,
      r.0,
      r.1,
    )

pub overflow_mul-v : goal.overflow_mul-v
overflow_mul-v c =
    let f = first_two c.get.result c.vertices_of-vertices.ensures (rw c.get.ensures c.requires.1) in
    omega (arith, c.requires.0, f.1, ap (λ (l : List ℕ). get_or l 0 0) c.deref.ensures.0)

pub overflow_add-v : goal.overflow_add-v
overflow_add-v c =
    let f = first_two c.get.result c.vertices_of-vertices.ensures (rw c.get.ensures c.requires.1) in
    omega (arith, c.requires.0, f.1, ap (λ (l : List ℕ). get_or l 0 0) c.deref.ensures.0, f.2, c.second-w.ensures)

pub overflow_cast-v : goal.overflow_cast-v
overflow_cast-v c =
    let f = first_two c.get.result c.vertices_of-vertices.ensures (rw c.get.ensures c.requires.1) in
    record {
      fits = omega (
        arith,
        c.requires.0,
        f.1,
        ap (λ (l : List ℕ). get_or l 0 0) c.deref.ensures.0,
        f.2,
        c.second-w.ensures,
      );
    }

pub store-requires : goal.store-requires
store-requires c =
    let f = first_two c.get.result c.vertices_of-vertices.ensures (rw c.get.ensures c.requires.1) in (
      omega (arith, c.requires.2.1.fits.edge_room),
      edge_room_holds c.requires.2.1 c.requires.2.2 c.requires.2.3 c.keep_ends.ensures,
      one_fitting 2 _ (omega (
        arith,
        c.requires.0,
        f.1,
        ap (λ (l : List ℕ). get_or l 0 0) c.deref.ensures.0,
        f.2,
        c.second-w.ensures,
      )),
    )

pub returns : goal.returns
returns c =
    let vs = c.vertices_of-vertices.ensures in
    let set = c.get.ensures in
    let v = ap (λ (l : List ℕ). get_or l 0 0) (c.deref.ensures.0 ∙ vs)
    ∙ ap (λ (x : ℕ). get_or (vertices_of c.args.n x) 0 0) set in
    let w = c.second-w.ensures
    ∙ (ap (λ (l : List ℕ). get_or l 1 0) vs ∙ ap (λ (x : ℕ). get_or (vertices_of c.args.n x) 1 0) set) in
    let one = c.keep_ends.ensures in
    let two = c.store.ensures in
    let last = c.store_facet.ensures in
    let near : KeptWritten c.args.layout c.args.ws.now c.store_facet.new.ws =
    rw last (edge_within c.args.layout c.args.swapped _ _ c.args.ws.now _ _ one two c.requires.2.1 c.requires.2.2
    c.requires.2.3.orbit_room c.requires.2.3.facet_room) in
    record {
      layout = c.one_more.ensures;
      within = (beside_take near 2048 c.requires.2.1.fits.orbit_room, near);
      keeps = λ kept i left keeps ridges is-orbit answers.
          rw (c.one_more.ensures, last) (edge_more c.args.layout c.args.swapped _ _ c.args.ws.now _ _ one two keeps
          ridges c.requires.2.3.orbit_room c.requires.2.3.facet_room left i v w is-orbit answers);
    }
