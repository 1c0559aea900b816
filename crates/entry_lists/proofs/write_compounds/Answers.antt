-- `entry_lists::write_compounds` meets its contract: a turn writes the compound of one label, if it has one
-- (`compound_words_holds`), and at the end i is n.
use mathlib.Core.List.{◌∷◌, ◌++◌, flat_map}
use mathlib.Core.Path.{◌≡◌, ap, ◌∙◌}
use Prim.Native.Nat.{ℕ}
use native.Mathlib.Omega.{arith}
use Rattle.definitions.specs.Job.{counted, compound_words}
use Rattle.definitions.specs.Figures.{compound_at, compounds_from}
use Rattle.labels.specs.Labels.{label_of, labels_in}
use Rattle.words.specs.Wrote.{writes_none, writes_then, writes_as}
use Rattle.entry_lists.proofs.ItemSteps.{words_none, compound_words_holds}
use Rattle.entry_lists.proofs.write_compounds.Goals as goal

pub loop-i-init : goal.loop-i-init
loop-i-init c = (omega arith, writes_as (writes_none _) (words_none _ _))

pub loop-i-preserved : goal.loop-i-preserved
loop-i-preserved c =
    let l = c.loop-i in (
      omega arith,
      writes_as (writes_then l.invariant.1 c.write_compound.ensures) (ap (λ (v : ℕ).
          flat_map compound_words (compounds_from 0 (labels_in c.args.labels l.i c.args.s.now))
          ++ flat_map compound_words (compound_at l.i (label_of v))) c.get.ensures
          ∙ compound_words_holds c.args.labels l.i c.args.s.now),
    )

pub returns : goal.returns
unfolding counted
returns c = let l = c.loop-i in let e : l.i ≡ c.args.n = omega arith in
    writes_as (writes_then c.push.ensures.writes l.invariant.1) (λ t. c.count_compounds-many.ensures.0 t
    ∷ flat_map compound_words (compounds_from 0 (labels_in c.args.labels (e t) c.args.s.now)))
