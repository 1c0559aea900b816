-- `sum_of` meets its contract.
use mathlib.Core.Path.{sym, ◌∙◌}
use native.Mathlib.Omega.{arith}
use Rattle.tallies.specs.declared.Tally.{Tally}
use Rattle.tallies.proofs.Columns.{column_at}
use Rattle.tallies.proofs.Laws.{latest_small, latest_opened, sum_found, sum_none}
use Rattle.tallies.proofs.sum_of.Goals as goal

pub offset_bounds-tallies-k : goal.offset_bounds-tallies-k
offset_bounds-tallies-k c = omega (arith, latest_small _ _ _ (sym (sym c.in-Some.is ∙ c.mark_of.ensures)))

pub bounds-tallies-k : goal.bounds-tallies-k
bounds-tallies-k c = latest_opened _ _ _ _ c.requires.1 (sym (sym c.in-Some.is ∙ c.mark_of.ensures))

pub returns-in-Some : goal.returns-in-Some
returns-in-Some c =
    let e = sym (sym c.in-Some.is ∙ c.mark_of.ensures) in
    sym (column_at (λ (t : Tally). t.sum) c.args.tallies.now _ _ (latest_opened _ _ _ _ c.requires.1 e))
    ∙ sum_found _ _ _ _ e

pub returns-in-None : goal.returns-in-None
returns-in-None c = sum_none _ _ _ (sym (sym c.in-None.is ∙ c.mark_of.ensures))
