-- `entry_lists::first_facets` meets its contract: from x on, facet x is the first of its orbit, and the other orbits
-- have the first that they had (`firsts_more`).
use mathlib.Core.Path.{subst, ◌≡◌, refl, sym, ◌∙◌}
use Prim.Native.Nat.{ℕ, ◌+◌, ◌-◌}
use native.Mathlib.Omega.{arith}
use lib.ListN.{set, length-set}
use Rattle.words.specs.Words.{words_length, words}
use Rattle.possible_facets.specs.Facets.{FirstsFrom}
use Rattle.entry_lists.proofs.ItemSteps.{firsts_none, firsts_more}
use Rattle.entry_lists.proofs.first_facets.Goals as goal

pub loop-x-init : goal.loop-x-init
loop-x-init c =
    let n = words_length 2 c.args.owners.bytes.now c.args.owners.facets in
    (omega arith, refl, firsts_none _ _ _ (omega arith))

pub loop-x-preserved : goal.loop-x-preserved
loop-x-preserved c = let l = c.loop-x in let owners = words 2 c.args.owners.bytes.now c.args.owners.facets in
    let n = words_length 2 c.args.owners.bytes.now c.args.owners.facets in
    let up : l.x ≡ l.x - 1 + 1 = omega arith in
    let more =
    firsts_more owners l.firsts (l.x - 1) (omega arith) (omega (arith, c.requires.below (l.x - 1) (omega arith)))
    (subst (FirstsFrom owners l.firsts) up l.invariant.2) in (
      omega arith,
      length-set l.firsts _ _ ∙ l.invariant.1,
      subst (λ (o : ℕ). FirstsFrom owners (set l.firsts o (l.x - 1)) (l.x - 1)) (sym c.orbit.ensures.0) more,
    )
