-- `Subspace::is_near` meets its contract, from those of its calls: the difference is written over zeros.
use mathlib.Core.Path.{◌≡◌, refl, ◌∙◌}
use native.Mathlib.Omega.{arith}
use lib.ListN.{length, drop, length-drop}
use lib.Seq.{length-take-le}
use Rattle.definitions.specs.Vectors.{norm}
use Rattle.definitions.specs.Subspace.{residual, distance}
use Rattle.vectors.specs.Meaning.{vector_of, zeros, five}
use Rattle.space.proofs.Laws.{read_projection, read_residual}
use Rattle.space.proofs.Subspace.is_near.Goals as goal

pub returns : goal.returns
unfolding distance norm residual five zeros
returns c =
    let s = c.args.self.now in
    let numbers = drop c.args.at c.args.points.now in
    let p = vector_of s.d numbers in
    let p-long : length p ≡ s.d = length-take-le s.d numbers (omega (arith, length-drop c.args.at c.args.points.now)) in
    let q = read_projection s p _ c.project_at-q.ensures in
    let r = read_residual s p p-long _ (c.take_from.ensures ∙ rw q refl) in
    c.root_below.ensures ∙ rw (c.dot_at.ensures, r) refl
