-- `most_vertices` meets its contract.
use mathlib.Core.Path.{refl}
use borrow.Author.Tests.{eq-eqb, ne_eqb}
use Rattle.definitions.specs.Orbits.{most_vertices}
use Rattle.orbits.proofs.most_vertices.Goals as goal

pub returns-then-rule-ne2 : goal.returns-then-rule-ne2
unfolding most_vertices
returns-then-rule-ne2 c = rw (ne_eqb _ _ c.if-rule-ne2.true) refl

pub returns-then-more-eq0 : goal.returns-then-more-eq0
unfolding most_vertices
returns-then-more-eq0 c = rw (eq-eqb _ _ c.if-rule-ne2.false, eq-eqb _ _ c.if-more-eq0.true) refl

pub returns-else-more-eq0 : goal.returns-else-more-eq0
unfolding most_vertices
returns-else-more-eq0 c = rw (eq-eqb _ _ c.if-rule-ne2.false, ne_eqb _ _ c.if-more-eq0.false) refl
