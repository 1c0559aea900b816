-- `kept_polygons::store_ridges` meets its contract: the inner call's part lies behind what is written and is read as
-- it stood (`behind_lent`). A turn pushes one ridge (`taking_push`), and the end closes the list (`taking_end`).
use mathlib.Core.Path.{ap, ◌∙◌}
use mathlib.Core.List.{map}
use Prim.Native.Nat.{ℕ, ◌+◌, ◌*◌, ◌-◌, ◌<◌}
use native.Mathlib.Omega.{arith}
use lib.ListN.{length}
use Rattle.rows.specs.Codes.{pair_code}
use Rattle.layout.specs.Keeps.{edges_of}
use Rattle.keep.specs.Storing.{growing_none, growing_end, growing_end_room, taking_room, taking_push, taking_end}
use Rattle.keep.specs.Storing.{behind_lent}
use Rattle.left_edges.specs.Reading.{ridges_moved, ridges_many, ridge_next, count_few, orbits_many, edge_known}
use Rattle.left_edges.specs.Reading.{edge_code_holds, code_apart}
use Rattle.kept_polygons.proofs.store_ridges.Goals as goal

pub loop-a-init : goal.loop-a-init
loop-a-init c =
    (omega arith, λ n m rows inner l. growing_none 4 256 c.args.from (c.args.to - c.args.from) c.args.ws.now)

pub slice_bounds-edge_at-count : goal.slice_bounds-edge_at-count
slice_bounds-edge_at-count c =
    let p = c.loop-a in
    let n = c.requires.3.0 in
    let inner = c.requires.3.3 in
    let l = c.requires.3.4 in
    let g = p.invariant.1 n c.requires.3.1 c.requires.3.2 inner l in
    omega (arith, g.beside.long, c.requires.2)

pub slice_bounds-edge_at-start : goal.slice_bounds-edge_at-start
slice_bounds-edge_at-start c =
    let p = c.loop-a in
    let n = c.requires.3.0 in
    let inner = c.requires.3.3 in
    let l = c.requires.3.4 in
    let g = p.invariant.1 n c.requires.3.1 c.requires.3.2 inner l in
    let tail = behind_lent g c.args.part.at (omega (arith, c.requires.0, c.requires.1)) in
    omega (arith, g.beside.long, c.requires.2)

pub edge_at-requires : goal.edge_at-requires
edge_at-requires c =
    let p = c.loop-a in
    let n = c.requires.3.0 in
    let inner = c.requires.3.3 in
    let l = c.requires.3.4 in
    let g = p.invariant.1 n c.requires.3.1 c.requires.3.2 inner l in
    let tail = behind_lent g c.args.part.at (omega (arith, c.requires.0, c.requires.1)) in
    let a-few : p.a < length inner = omega (arith, orbits_many l) in let known = edge_known l p.a a-few in
    rw tail (l.leaves.keeps.fits, (map (map pair_code) (edges_of inner), l.leaves.keeps.edges, known.0, known.1))

pub moved-code-requires : goal.moved-code-requires
moved-code-requires c =
    let p = c.loop-a in
    let n = c.requires.3.0 in
    let inner = c.requires.3.3 in
    let l = c.requires.3.4 in
    let g = p.invariant.1 n c.requires.3.1 c.requires.3.2 inner l in
    let tail = behind_lent g c.args.part.at (omega (arith, c.requires.0, c.requires.1)) in
    let a-few : p.a < length inner = omega (arith, orbits_many l) in let known = edge_known l p.a a-few in
    let e = edge_code_holds l p.a a-few c.edge_at.result ((rw tail at c.edge_at.ensures)
    (map (map pair_code) (edges_of inner)) l.leaves.keeps.edges known.0 known.1) in
    let apart = code_apart l p.a a-few c.edge_at.result e in
    (c.requires.3.6 _ apart.3, c.requires.3.6 _ apart.4)

pub slice_bounds-get-count : goal.slice_bounds-get-count
slice_bounds-get-count c =
    let p = c.loop-a in
    let n = c.requires.3.0 in
    let inner = c.requires.3.3 in
    let l = c.requires.3.4 in
    let g = p.invariant.1 n c.requires.3.1 c.requires.3.2 inner l in
    omega (arith, g.beside.long, c.requires.2)

pub slice_bounds-get-start : goal.slice_bounds-get-start
slice_bounds-get-start c =
    let p = c.loop-a in
    let n = c.requires.3.0 in
    let inner = c.requires.3.3 in
    let l = c.requires.3.4 in
    let g = p.invariant.1 n c.requires.3.1 c.requires.3.2 inner l in
    let tail = behind_lent g c.args.part.at (omega (arith, c.requires.0, c.requires.1)) in
    omega (arith, g.beside.long, c.requires.2)

pub get-count-requires : goal.get-count-requires
get-count-requires c =
    let p = c.loop-a in
    let n = c.requires.3.0 in
    let inner = c.requires.3.3 in
    let l = c.requires.3.4 in
    let g = p.invariant.1 n c.requires.3.1 c.requires.3.2 inner l in
    let tail = behind_lent g c.args.part.at (omega (arith, c.requires.0, c.requires.1)) in
    let f = l.leaves.keeps.fits in
    rw tail (omega (
      arith,
      l.leaves.keeps.few_orbits,
      f.orbit_room,
      f.edge_room,
      f.label_room,
      f.owner_room,
      f.ridge_room,
      f.place_room,
      f.ends,
    ))

pub slice_bounds-push-end : goal.slice_bounds-push-end
slice_bounds-push-end c =
    let p = c.loop-a in
    let n = c.requires.3.0 in
    let inner = c.requires.3.3 in
    let l = c.requires.3.4 in
    let g = p.invariant.1 n c.requires.3.1 c.requires.3.2 inner l in
    omega (arith, g.beside.long, c.requires.1, c.requires.2)

pub overflow_mul-count : goal.overflow_mul-count
overflow_mul-count c =
    let p = c.loop-a in
    let n = c.requires.3.0 in
    let inner = c.requires.3.3 in
    let l = c.requires.3.4 in
    let g = p.invariant.1 n c.requires.3.1 c.requires.3.2 inner l in
    let tail = behind_lent g c.args.part.at (omega (arith, c.requires.0, c.requires.1)) in
    let a-few : p.a < length inner = omega (arith, orbits_many l) in let known = edge_known l p.a a-few in
    omega (arith, rw tail at c.get-count.ensures, count_few l p.a a-few)

pub overflow_add-code : goal.overflow_add-code
overflow_add-code c =
    let p = c.loop-a in
    let n = c.requires.3.0 in
    let inner = c.requires.3.3 in
    let l = c.requires.3.4 in
    let g = p.invariant.1 n c.requires.3.1 c.requires.3.2 inner l in
    let tail = behind_lent g c.args.part.at (omega (arith, c.requires.0, c.requires.1)) in
    let a-few : p.a < length inner = omega (arith, orbits_many l) in let known = edge_known l p.a a-few in
    omega (arith, rw tail at c.get-count.ensures, count_few l p.a a-few, c.moved-code.ensures.1)

pub push-requires : goal.push-requires
push-requires c =
    let p = c.loop-a in
    let n = c.requires.3.0 in
    let inner = c.requires.3.3 in
    let l = c.requires.3.4 in
    let g = p.invariant.1 n c.requires.3.1 c.requires.3.2 inner l in
    let tail = behind_lent g c.args.part.at (omega (arith, c.requires.0, c.requires.1)) in
    let a-few : p.a < length inner = omega (arith, orbits_many l) in let known = edge_known l p.a a-few in
    taking_room c.requires.3.5 (ridges_moved c.args.part.vertices.now.items inner) p.a g
    (omega (arith, ridges_many c.args.part.vertices.now.items inner))
    (omega (arith, ridges_many c.args.part.vertices.now.items inner))

pub loop-a-preserved : goal.loop-a-preserved
loop-a-preserved c = let p = c.loop-a in (
  omega (arith, c.loop-a-test.true),
  λ n m rows inner l.
      let g = p.invariant.1 n m rows inner l in
      let tail = behind_lent g c.args.part.at (omega (arith, c.requires.0, c.requires.1)) in
      let a-few : p.a < length inner = omega (arith, c.loop-a-test.true, orbits_many l) in
      let known = edge_known l p.a a-few in
      let e = edge_code_holds l p.a a-few c.edge_at.result ((rw tail at c.edge_at.ensures)
      (map (map pair_code) (edges_of inner)) l.leaves.keeps.edges known.0 known.1) in
      let apart = code_apart l p.a a-few c.edge_at.result e in
      let count = rw tail at c.get-count.ensures in
      let many = ridges_many c.args.part.vertices.now.items inner in
      taking_push c.requires.3.5 (ridges_moved c.args.part.vertices.now.items inner) p.a g (omega (arith, many))
      (omega (arith, many, orbits_many l, orbits_many c.requires.3.4)) _ c.push.new.s
      (ap (λ (x : ℕ). x + 65536 * c.get-count.result) c.moved-code.ensures.0
      ∙ ridge_next l p.a a-few c.args.part.vertices.now.items c.edge_at.result c.get-count.result e count)
      (omega (arith, count, count_few l p.a a-few, c.moved-code.ensures.1)) c.push.ensures,
)

pub slice_bounds-end_list-end : goal.slice_bounds-end_list-end
slice_bounds-end_list-end c =
    let p = c.loop-a in
    let n = c.requires.3.0 in
    let inner = c.requires.3.3 in
    let l = c.requires.3.4 in
    let g = p.invariant.1 n c.requires.3.1 c.requires.3.2 inner l in
    let tail = behind_lent g c.args.part.at (omega (arith, c.requires.0, c.requires.1)) in
    omega (arith, g.beside.long, c.requires.1, c.requires.2)

pub end_list-requires : goal.end_list-requires
end_list-requires c =
    let p = c.loop-a in
    let n = c.requires.3.0 in
    let inner = c.requires.3.3 in
    let l = c.requires.3.4 in
    let g = p.invariant.1 n c.requires.3.1 c.requires.3.2 inner l in
    let tail = behind_lent g c.args.part.at (omega (arith, c.requires.0, c.requires.1)) in
    growing_end_room c.requires.3.5 g

pub shape_of-ws : goal.shape_of-ws
shape_of-ws c =
    let p = c.loop-a in
    let n = c.requires.3.0 in
    let inner = c.requires.3.3 in
    let l = c.requires.3.4 in
    let g = p.invariant.1 n c.requires.3.1 c.requires.3.2 inner l in
    let tail = behind_lent g c.args.part.at (omega (arith, c.requires.0, c.requires.1)) in
    (growing_end c.requires.3.5 g c.end_list.new.s c.end_list.ensures).beside.long

pub returns : goal.returns
returns c = λ n m rows inner l. let p = c.loop-a in
    let g = p.invariant.1 n m rows inner l in
    taking_end c.requires.3.5 (ridges_moved c.args.part.vertices.now.items inner) p.a g (omega (
      arith,
      ridges_many c.args.part.vertices.now.items inner,
      orbits_many l,
    )) c.end_list.new.s c.end_list.ensures
