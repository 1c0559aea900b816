-- `entry_lists::write_counts` meets its contract: a turn writes the count of one orbit more (`counts_more`), and at
-- the end the number of orbits stands before all of them (`counts_are`).
use mathlib.Core.List.{[], ◌∷◌, ◌++◌, map}
use mathlib.Core.Path.{◌≡◌, ap, ◌∙◌}
use Prim.Native.Nat.{ℕ}
use native.Mathlib.Omega.{arith}
use Rattle.definitions.specs.Lists.{Pair}
use Rattle.orbits.specs.Workspace.{orbits_in}
use Rattle.words.specs.Wrote.{writes_none, writes_then, writes_as}
use Rattle.entry_lists.proofs.ItemSteps.{counts_none, counts_more, counts_are}
use Rattle.entry_lists.proofs.write_counts.Goals as goal

pub loop-i-init : goal.loop-i-init
loop-i-init c = (omega arith, writes_as (writes_none _) (counts_none _))

pub loop-i-preserved : goal.loop-i-preserved
loop-i-preserved c =
    let l = c.loop-i in (
      omega arith,
      writes_as (writes_then l.invariant.1 c.push-in-loop-i.ensures.writes) (ap (λ (v : ℕ).
          map (λ (p : Pair). p.1) (orbits_in c.args.ws.now l.i) ++ (v ∷ [])) c.get.ensures
          ∙ counts_more c.args.ws.now l.i),
    )

pub returns : goal.returns
returns c = let l = c.loop-i in let e : l.i ≡ c.args.orbits = omega arith in
    writes_as (writes_then c.push.ensures.writes l.invariant.1) (counts_are c.args.ws.now l.i c.args.orbits e)
