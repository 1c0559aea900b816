-- `load::Job::plane` meets its contract. The invariant: the plane has the offset with which the loop began, and the
-- first j vectors of the job. Assumes nothing.
use mathlib.Core.Path.{◌≡◌}
use Prim.Native.Nat.{◌-◌, ◌≤◌}
use Rattle.space.specs.Meaning.{subspace_of, HoldsSubspace}
use Rattle.load.proofs.Laws.{plane_to}
use Rattle.load.proofs.Job.plane.Given as goal

abbrev pub invariant-loop-j : goal.invariant-loop-j
invariant-loop-j l =
    (l.j ≤ l.fn.self.fields.rank - 1) × (l.plane.d ≡ l.fn.self.fields.d) × (l.plane.rank ≡ l.j)
    × HoldsSubspace l.plane
    (plane_to l.fn.self.bytes.now (subspace_of l.initial.plane).offset l.fn.self.fields.basis l.fn.self.fields.d l.j)
