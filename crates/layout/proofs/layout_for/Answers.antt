-- `layout_for` meets its contract: the rank's capacities are small. Assumes nothing.
use Rattle.std.proofs.Common.{sym, ap, subst, ◌∙◌}
use Rattle.layout.specs.Capacities.{Bounded, bounded_rank, kept_layout, layout_for}
use Rattle.layout.proofs.layout_for.Goals as goal

pub kept_layout-requires : goal.kept_layout-requires
kept_layout-requires c = subst Bounded (sym c.capacities_of.ensures) (bounded_rank c.args.rank)

pub returns : goal.returns
unfolding layout_for
returns c = c.kept_layout.ensures ∙ ap kept_layout c.capacities_of.ensures
