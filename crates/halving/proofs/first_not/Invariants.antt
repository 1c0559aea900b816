-- `halving::first_not` meets its contract: the test holds just before `low` and fails at `high`. The measure is what
-- lies between. Assumes nothing.
use Rattle.std.specs.Prelude.{◌≡◌, true, false, ℕ, ◌+◌, ◌-◌, ◌≤◌, ◌<◌}
use Rattle.halving.proofs.first_not.Given as goal

abbrev pub invariant-loop-low : goal.invariant-loop-low
invariant-loop-low g l = record {
  order : l.low ≤ l.high;
  few : l.high ≤ l.n;
  before : (i : ℕ) → i + 1 ≡ l.low → goal.F-post g l.test i true;
  fails : l.high < l.n → goal.F-post g l.test l.high false;
}

abbrev pub decreases-loop-low : goal.decreases-loop-low
decreases-loop-low g l = l.high - l.low
