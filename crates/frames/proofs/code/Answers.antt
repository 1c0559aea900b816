-- `frames::code` meets its contract. By the cases of the kind. Assumes nothing.
use native.Mathlib.Omega.{arith}
use Rattle.facets.specs.Layout.{code_of}
use Rattle.frames.proofs.code.Goals as goal

pub overflow_add-result : goal.overflow_add-result
unfolding code_of
overflow_add-result c = let k = rw c.in-Some.is at c.requires in omega arith

pub overflow_cast-result : goal.overflow_cast-result
unfolding code_of
overflow_cast-result c = let k = rw c.in-Some.is at c.requires in omega arith

pub returns-in-None : goal.returns-in-None
unfolding code_of
returns-in-None c = rw c.in-None.is (omega arith)

pub returns-in-Some : goal.returns-in-Some
unfolding code_of
returns-in-Some c = rw c.in-Some.is (omega arith)
