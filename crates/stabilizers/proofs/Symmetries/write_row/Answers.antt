-- `Symmetries::write_row` meets its contract: a turn writes the place of one vertex more (`place_more`), and at the
-- end all vertices of the set were taken.
use mathlib.Core.List.{List}
use mathlib.Core.Path.{◌≡◌, refl, ◌∙◌}
use Prim.Native.Nat.{ℕ, ◌+◌, ◌*◌, ◌≤◌, ◌<◌}
use native.Mathlib.Omega.{arith}
use lib.ListN.{length, get_or, take, set}
use Rattle.std.proofs.lemmas.List.{take_all}
use Rattle.laws.specs.Sets.{vertices_of}
use Rattle.stabilizers.specs.Places.{places, vertices_few}
use Rattle.stabilizers.proofs.Laws.{among, place_more, written}
use Rattle.stabilizers.proofs.Symmetries.write_row.Goals as goal

few_among : (n x : ℕ) (vertices : List ℕ) → vertices ≡ vertices_of n x → length vertices ≤ n
unfolding vertices_of
few_among n x vertices e = rw e (vertices_few 0 n x)

-- one place more, where it is written and what it is as these are known
place_more_at : (s : List ℕ) (i x : ℕ) (vertices row : List ℕ) (k : ℕ) → k < length vertices → {at place : ℕ}
    → at ≡ k → place ≡ length (vertices_of (get_or s (32 * i + get_or vertices k 0) 0) x)
    → set (written s i x vertices row k) at place ≡ written s i x vertices row (k + 1)
place_more_at s i x vertices row k h e f = rw (e, f) (place_more s i x vertices row k h)

pub loop-k-init : goal.loop-k-init
unfolding places
loop-k-init c = refl

pub image-requires : goal.image-requires
image-requires c =
    let below = among c.args.self.n c.args.set c.loop-k.k _
    (c.as_slice-v-items.ensures.value ∙ c.requires.1) c.loop-k-test.true in
    let p = c.args.self.permute.each c.args.i c.requires.0 in
    omega (arith, below, p.long, p.n_fits)

pub overflow_cast-row : goal.overflow_cast-row
overflow_cast-row c =
    let below = among c.args.self.n c.args.set c.loop-k.k _
    (c.as_slice-v-items.ensures.value ∙ c.requires.1) c.loop-k-test.true in
    let p = c.args.self.permute.each c.args.i c.requires.0 in
    let few = few_among c.args.self.n c.args.set _ (c.as_slice-v-items.ensures.value ∙ c.requires.1) in
    record { fits = omega (arith, few, c.count_below-place.ensures.1, c.image.ensures, p.below _ below, p.n_fits) }

pub loop-k-preserved : goal.loop-k-preserved
loop-k-preserved c =
    let p = c.args.self.permute.each c.args.i c.requires.0 in
    let few = few_among c.args.self.n c.args.set _ (c.as_slice-v-items.ensures.value ∙ c.requires.1) in
    let place = rw c.image.ensures at c.count_below-place.ensures.0 in
    rw c.loop-k.invariant (place_more_at c.args.self.rows.bytes.now c.args.i c.args.set
    c.as_slice-v-items.result.now c.args.row.now c.loop-k.k c.loop-k-test.true (omega (arith, few, p.n_fits))
    (omega (arith, place)))

pub returns : goal.returns
returns c =
    let l = c.loop-k in
    let all : take l.k c.as_slice-v-items.result.now
    ≡ vertices_of c.args.self.n c.args.set = take_all l.k c.as_slice-v-items.result.now (omega arith)
    ∙ (c.as_slice-v-items.ensures.value ∙ c.requires.1) in
    rw all at l.invariant
