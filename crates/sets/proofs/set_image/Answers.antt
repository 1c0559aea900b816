-- `sets::set_image` meets its contract: a turn adds the power of one image more (`image_more`), and no sum wraps
-- (`power_below`). At the end all vertices were taken (`image_whole`).
use mathlib.Core.Path.{◌≡◌, refl, ap, ◌∙◌}
use mathlib.Core.List.{List}
use Prim.Native.Nat.{ℕ}
use native.Mathlib.Omega.{arith}
use lib.ListN.{get_or, take}
use Rattle.std.proofs.lemmas.List.{take_all}
use Rattle.laws.specs.Sets.{set_number}
use Rattle.sets.specs.Steps.{power_below}
use Rattle.sets.proofs.Laws.{image_more, image_whole}
use Rattle.sets.proofs.set_image.Goals as goal

pub loop-v-init : goal.loop-v-init
unfolding set_number
loop-v-init c = (refl, omega arith)

-- no power is above 2 ^ 19
pub overflow_add-sum : goal.overflow_add-sum
overflow_add-sum c =
    let l = c.loop-v in
    let is = c.as_slice-v-items.ensures in
    let at : get_or c.as_slice-v-items.result.now l.v-index 0
    ≡ get_or c.args.vertices.now.items l.v-index 0 = ap (λ (vs : List ℕ). get_or vs l.v-index 0) is.value in
    let below = power_below c.from.result
    (rw (c.from.ensures, at) (c.requires.sent l.v-index (rw is.value at c.loop-v-test.true))) in
    record { fits = omega (arith, c.power-sum.ensures, below, l.invariant.1, is.fits) }

pub loop-v-preserved : goal.loop-v-preserved
loop-v-preserved c =
    let l = c.loop-v in
    let is = c.as_slice-v-items.ensures in
    let at : get_or c.as_slice-v-items.result.now l.v-index 0
    ≡ get_or c.args.vertices.now.items l.v-index 0 = ap (λ (vs : List ℕ). get_or vs l.v-index 0) is.value in
    let below = power_below c.from.result
    (rw (c.from.ensures, at) (c.requires.sent l.v-index (rw is.value at c.loop-v-test.true))) in
    let more = image_more c.args.rows.now c.args.i c.as_slice-v-items.result.now l.v-index c.loop-v-test.true in (
      rw (more, c.power-sum.ensures, c.from.ensures, l.invariant.0) refl,
      omega (arith, c.power-sum.ensures, below, l.invariant.1),
    )

pub returns : goal.returns
returns c n below =
    let l = c.loop-v in
    let is = c.as_slice-v-items.ensures in
    let all : take l.v-index c.as_slice-v-items.result.now
    ≡ c.args.vertices.now.items = take_all l.v-index c.as_slice-v-items.result.now (omega arith) ∙ is.value in
    l.invariant.0 ∙ (rw all (image_whole c.args.rows.now c.args.i n c.args.vertices.now.items below))
