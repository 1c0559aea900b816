-- `answering::write_left` meets its contract: rank 3 and rank 4, each by its writer. Assumes nothing.
use mathlib.Core.Path.{◌≡◌}
use Prim.Native.Nat.{◌-◌}
use native.Mathlib.Omega.{arith}
use Rattle.job_calls.specs.Writable.{polygons_asked, polygons_wrote}
use Rattle.answering.proofs.write_left.Goals as goal

pub invariant_of-left : goal.invariant_of-left
invariant_of-left c =
    let e : c.args.rank - 3 ≡ 0 = omega arith in
    let h = polygons_asked (rw e at c.requires.2.1) in
    record { standing = h.0.listed }

pub new-carried-requires : goal.new-carried-requires
new-carried-requires c =
    let e : c.args.rank - 3 ≡ 0 = omega arith in
    let h = polygons_asked (rw e at c.requires.2.1) in
    h.0

pub write_answer-requires : goal.write_answer-requires
write_answer-requires c =
    let e : c.args.rank - 3 ≡ 0 = omega arith in
    let h = polygons_asked (rw e at c.requires.2.1) in
    h.1

pub returns-then-rank-eq3 : goal.returns-then-rank-eq3
returns-then-rank-eq3 c =
    let e : c.args.rank - 3 ≡ 0 = omega arith in
    let carried = c.new-carried.ensures in
    λ kept w.
    rw e (polygons_wrote (rw e at w) (rw (carried.0, carried.1, carried.2, carried.3) at c.write_answer.ensures))

pub write_polyhedra-requires : goal.write_polyhedra-requires
write_polyhedra-requires c =
    let e : c.args.rank - 3 ≡ 1 = omega arith in
    (c.requires.2.0, rw e at c.requires.2.1)

pub returns-else-rank-eq3 : goal.returns-else-rank-eq3
returns-else-rank-eq3 c =
    let e : c.args.rank - 3 ≡ 1 = omega arith in
    λ kept w. rw e (c.write_polyhedra.ensures kept (rw e at w))
