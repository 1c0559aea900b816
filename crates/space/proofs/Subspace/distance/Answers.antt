-- `Subspace::distance` meets its contract, from those of its calls.
use mathlib.Core.Path.{◌≡◌, refl, ◌∙◌}
use borrow.Author.Rules.{rules}
use lib.ListN.{length}
use Rattle.definitions.specs.Subspace.{distance}
use Rattle.vectors.specs.Meaning.{vector_of}
use Rattle.space.proofs.Laws.{read_residual, five_read}
use Rattle.space.proofs.Subspace.distance.Goals as goal

pub returns : goal.returns
unfolding distance
returns c =
    let s = c.args.self.now in
    let p-fits : length c.args.p ≡ 5 = search rules in
    let r = read_residual s (vector_of s.d c.args.p) (five_read s c.args.p p-fits) _ c.residual.ensures in
    c.norm.ensures ∙ rw r refl
