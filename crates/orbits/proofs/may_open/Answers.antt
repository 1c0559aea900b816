-- `may_open` meets its contract.
use mathlib.Core.Path.{refl}
use Rattle.sorted.specs.Found.{none_found, some_found}
use Rattle.orbits.specs.Numbers.{may_open}
use Rattle.orbits.proofs.may_open.Goals as goal

pub returns-then-is_none : goal.returns-then-is_none
unfolding may_open
returns-then-is_none c = rw (none_found _ _ _ c.find.ensures c.if-is_none.ensures, c.count_below.ensures.0) refl

pub returns-else-is_none : goal.returns-else-is_none
unfolding may_open
returns-else-is_none c = rw (some_found _ _ _ c.find.ensures c.if-is_none.ensures) c.if-is_none.false
