-- `table_layout_for` meets its contract: the rank's capacities are small. Assumes nothing.
use Rattle.std.proofs.Common.{sym, ap, subst, ◌∙◌}
use Rattle.layout.specs.Capacities.{Bounded, bounded_rank, table_layout, table_layout_for}
use Rattle.layout.proofs.table_layout_for.Goals as goal

pub table_layout-requires : goal.table_layout-requires
table_layout-requires c = subst Bounded (sym c.capacities_of.ensures) (bounded_rank c.args.rank)

pub returns : goal.returns
unfolding table_layout_for
returns c = c.table_layout.ensures ∙ ap table_layout c.capacities_of.ensures
