-- `emission::emit` meets its contract. The loop's invariant: the first k facets of the path are pushed. Assumes
-- nothing.
use mathlib.Core.Path.{◌≡◌}
use Prim.Native.Nat.{◌≤◌}
use Rattle.emission.specs.Emission.{after_pushes}
use Rattle.emission.proofs.emit.Given as goal

abbrev pub invariant-loop-k : goal.invariant-loop-k
invariant-loop-k l = (l.k ≤ l.depth) × (l.ws ≡ after_pushes l.a l.initial.ws l.k)
