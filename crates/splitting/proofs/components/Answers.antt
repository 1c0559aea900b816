-- `splitting::components` meets its contract. A facet outside the table has none. Assumes nothing.
use mathlib.Core.Path.{sym, subst, ◌∙◌}
use native.Mathlib.Omega.{arith}
use Rattle.labels.specs.Labels.{Halves, halves}
use Rattle.splitting.proofs.Splitting.{outside_table, inside_table}
use Rattle.splitting.proofs.components.Goals as goal

pub returns-then-facets-a-clause-found : goal.returns-then-facets-a-clause-found
returns-then-facets-a-clause-found c = outside_table c.args.s.now c.args.facets c.args.a c.if-facets-a.true

pub returns-clause-found : goal.returns-clause-found
returns-clause-found c =
    c.components.ensures ∙ inside_table c.args.s.now c.args.facets c.args.a c.get.result (omega arith) c.get.ensures

pub returns-clause-small : goal.returns-clause-small
returns-clause-small c = subst Halves (sym c.components.ensures) (halves c.get.result (omega arith))
