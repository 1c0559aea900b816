-- `sets::chosen_points` meets its contract: each vertex of the set is one of the points (`among`). A turn adds its
-- point (`one_more`), and at the end all vertices of the set were taken.
use mathlib.Core.Path.{◌≡◌, ◌∙◌}
use mathlib.Core.List.{List}
use Prim.Native.Nat.{ℕ, ◌<◌}
use native.Mathlib.Omega.{arith}
use lib.ListN.{length, get_or, take, length-map}
use Rattle.std.proofs.lemmas.List.{take_all, length-take-le}
use Rattle.definitions.specs.Orbits.{point_at}
use Rattle.laws.specs.Parts.{map_take_more}
use Rattle.laws.specs.Sets.{vertices_of}
use Rattle.space.specs.Meaning.{points_of}
use Rattle.space.specs.Counts.{point_means, point_own, one_more}
use Rattle.sets.specs.Vertices.{vertex_below}
use Rattle.sets.proofs.chosen_points.Goals as goal

-- a vertex of the set is one of the points
among : (n set k : ℕ) (items : List ℕ) → items ≡ vertices_of n set → k < length items → get_or items k 0 < n
among n set k items e h = rw e (vertex_below n set k (rw e at h))

pub point-requires : goal.point-requires
point-requires c =
    among c.args.flat.now.n c.args.set c.loop-v.v-index _
    (c.as_slice-v-items.ensures.value ∙ c.vertices_of-vertices.ensures) c.loop-v-test.true

pub push-requires : goal.push-requires
push-requires c =
    let flat = c.args.flat.now in
    let l = c.loop-v in
    let items = c.as_slice-v-items.result.now in
    let below = among flat.n c.args.set l.v-index items
    (c.as_slice-v-items.ensures.value ∙ c.vertices_of-vertices.ensures) c.loop-v-test.true in
    let many = l.invariant.n_is ∙ (length-map (take l.v-index items) (point_at (points_of flat))
    ∙ length-take-le l.v-index items (omega arith)) in (
      omega (arith, many, c.as_slice-v-items.ensures.fits),
      rw l.invariant.d_is (point_own flat (get_or items l.v-index 0) below _ c.point.ensures),
    )

pub loop-v-preserved : goal.loop-v-preserved
loop-v-preserved c =
    let flat = c.args.flat.now in
    let l = c.loop-v in
    let items = c.as_slice-v-items.result.now in
    let v = get_or items l.v-index 0 in
    let below = among flat.n c.args.set l.v-index items
    (c.as_slice-v-items.ensures.value ∙ c.vertices_of-vertices.ensures) c.loop-v-test.true in
    let more = map_take_more (point_at (points_of flat)) items l.v-index 0 c.loop-v-test.true in
    rw more (one_more l.chosen c.push.new.self flat.d _ c.point.result (point_at (points_of flat) v) l.invariant
    (point_means flat v below _ c.point.ensures) c.push.ensures.0)

pub returns : goal.returns
returns c =
    let l = c.loop-v in
    let all : take l.v-index c.as_slice-v-items.result.now
    ≡ vertices_of c.args.flat.now.n c.args.set = take_all l.v-index c.as_slice-v-items.result.now (omega arith)
    ∙ (c.as_slice-v-items.ensures.value ∙ c.vertices_of-vertices.ensures) in
    rw all at l.invariant
