-- `Subspace::residual` meets its contract, from those of its calls.
use mathlib.Core.Path.{refl, ◌∙◌}
use Rattle.definitions.specs.Subspace.{residual}
use Rattle.vectors.specs.Meaning.{vector_of}
use Rattle.space.proofs.Laws.{read_projection}
use Rattle.space.proofs.Subspace.residual.Goals as goal

pub returns : goal.returns
unfolding residual
returns c =
    let q = read_projection c.args.self.now (vector_of c.args.self.now.d c.args.p) _ c.project.ensures in
    c.minus.ensures ∙ rw q refl
