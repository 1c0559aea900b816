-- `load::Job::points` meets its contract. The invariant: the first i points stand in the struct. Assumes nothing.
use mathlib.Core.Path.{◌≡◌}
use Prim.Native.Nat.{◌-◌, ◌≤◌}
use Rattle.definitions.specs.Job.{vectors_at}
use Rattle.space.specs.Meaning.{HoldsPoints}
use Rattle.load.proofs.Job.points.Given as goal

abbrev pub invariant-loop-i : goal.invariant-loop-i
invariant-loop-i l =
    (l.i ≤ l.fn.self.fields.n) × HoldsPoints l.points l.fn.self.fields.d
    (vectors_at l.fn.self.bytes.now l.fn.self.fields.points l.fn.self.fields.d l.i) × (l.points.n ≡ l.i)
